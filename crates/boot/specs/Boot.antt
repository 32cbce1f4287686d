-- The boot check of 001, 4.10: the accounts of SECURE_BOOT, BOOT_FAILURE and BOOT_OK.
-- Assumes nothing.
use Rattle.std.specs.Prelude.{Bool, true, not, cond, ◌&&◌, ◌||◌, List, [], ◌∷◌, ◌++◌, ℕ, leb, length, replicate}
use mir.Val.{bool_byte}
use Rattle.laws.specs.Same.{same}
use Rattle.aes.specs.Cipher.{cipher}
use Rattle.basics.specs.Answers.{sequence_error, key_not_available, no_secure_boot}
use Rattle.basics.specs.Marks.{off, on}
use Rattle.modes.specs.Cmac.{text_mac}
use Rattle.modes.specs.Number.{in_bytes}
use Rattle.device.specs.Account.{Account, unchanged, command}
use Rattle.device.specs.Record.{boot_mac_key, boot_mac, booted_mark, secure_boot_mark, boot_init_mark, boot_finished_mark, boot_ok_mark, is_marked, is_empty, key_at, set_mark, put_slot}
use Rattle.device.specs.Rules.{locked}
use Rattle.device.specs.declared.Device.{Device}

-- ---- what is MACed: 96 zero bits, SIZE in 32 bits, which is the length in bytes, and the bootloader
abbrev pub size_block : ℕ → List ℕ
size_block size = replicate 12 0 ++ in_bytes 4 size

abbrev pub measured : List ℕ → List ℕ
measured bootloader = size_block (length bootloader) ++ bootloader

-- CMAC of that under the key of slot 2
unfoldable pub measure : Device → List ℕ → List ℕ
measure d bootloader = text_mac (cipher (key_at d boot_mac_key)) (measured bootloader)

-- ---- SECURE_BOOT over a lent bootloader of 1 to 65,536 bytes
abbrev pub boot_lengths : ℕ → Bool
boot_lengths size = leb 1 size && leb size 65536

-- it may succeed once per reset; slot 2 empty; slot 2 or 3 locked
abbrev pub boot_checks : Device → List (Bool × ℕ)
boot_checks d =
    (is_marked d booted_mark, sequence_error)
    ∷ (is_empty d boot_mac_key, no_secure_boot)
    ∷ (locked d boot_mac_key || locked d boot_mac, key_not_available)
    ∷ []

-- slot 3 takes the MAC with counter 0 and no flags, and only BOOT_INIT is set
unfoldable pub learnt : List ℕ → Device → Device
learnt mac d =
    put_slot boot_mac (record { key = mac; counter = 0; flags = 0; empty = off })
    (set_mark boot_init_mark on (set_mark booted_mark on d))

-- SECURE_BOOT is set, and BOOT_OK where the MAC is that of slot 3, BOOT_FINISHED where not; each of these two is off otherwise
unfoldable pub checked : Bool → Device → Device
checked agrees d =
    set_mark boot_finished_mark (bool_byte (not agrees)) (set_mark boot_ok_mark (bool_byte agrees)
    (set_mark secure_boot_mark on (set_mark booted_mark on d)))

-- if slot 3 is empty the one, else the other; all 128 bits are compared
abbrev pub booted : List ℕ → Device → Device
booted mac d = cond (is_empty d boot_mac) (learnt mac d) (checked (same mac (key_at d boot_mac)) d)

unfoldable pub secure_boot : List ℕ → Account
secure_boot bootloader = record {
  lent = [];
  brought = bootloader ∷ [];
  lengths = boot_lengths (length bootloader);
  uses = boot_mac_key ∷ boot_mac ∷ [];
  loads = [];
  fills = boot_mac ∷ [];
  checks = boot_checks;
  refusal = unchanged;
  does = λ d. (booted (measure d bootloader) d, 0, []);
}

-- ---- BOOT_FAILURE and BOOT_OK: SECURE_BOOT isn't set; finished. Then both set BOOT_FINISHED, and the first clears BOOT_OK
abbrev pub stage_checks : Device → List (Bool × ℕ)
stage_checks d = (not (is_marked d secure_boot_mark), no_secure_boot) ∷ (is_marked d boot_finished_mark, sequence_error) ∷ []

unfoldable pub boot_failure : Account
boot_failure = command (record {
  lent = [];
  brought = [];
  lengths = true;
  checks = stage_checks;
  does = λ d. (set_mark boot_ok_mark off (set_mark boot_finished_mark on d), 0, []);
})

unfoldable pub boot_ok : Account
boot_ok = command (record {
  lent = [];
  brought = [];
  lengths = true;
  checks = stage_checks;
  does = λ d. (set_mark boot_finished_mark on d, 0, []);
})
