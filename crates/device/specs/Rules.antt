-- The rules on keys, each in one place: flags, the lock, KEY_USAGE, and the status.
-- Assumes nothing.
use Rattle.std.specs.Prelude.{Bool, true, false, not, cond, ◌&&◌, ◌||◌, [], ◌∷◌, ℕ, ◌+◌, eqb}
use Rattle.std.specs.Bool.{beq}
use Rattle.std.specs.Int.Bits.{bit_and}
use Rattle.laws.specs.Ranges.{row_of}
use Rattle.message.specs.Flags.{boot, debugger, key_usage}
use Rattle.message.specs.Slots.{flags_kept}
use Rattle.message.specs.declared.Role.{Role}
use Rattle.message.specs.declared.Role.TheVariants.{Cipher, GenerateMac, VerifyMac}
use Rattle.device.specs.Record.{rng_mark, debugger_mark, secure_boot_mark, boot_init_mark, boot_finished_mark, boot_ok_mark, is_marked, flags_at}
use Rattle.device.specs.declared.Device.{Device}

-- whether a flag stands in a number of flags
abbrev pub has_flag : ℕ → ℕ → Bool
has_flag flags flag = not (eqb (bit_and flags flag) 0)

-- flags as a slot keeps them: a flag that it hasn't is stored as 0
unfoldable pub kept : ℕ → ℕ → ℕ
kept slot flags = bit_and flags (flags_kept slot)

-- a boot check that failed: SECURE_BOOT is set and BOOT_OK isn't
abbrev pub boot_failed : Device → Bool
boot_failed d = is_marked d secure_boot_mark && not (is_marked d boot_ok_mark)

-- a slot with DEBUGGER set is locked while the debugger mark is on; one with BOOT set, while SECURE_BOOT is set and BOOT_OK isn't
unfoldable pub locked : Device → ℕ → Bool
locked d slot =
    is_marked d debugger_mark && has_flag (flags_at d slot) debugger
    || boot_failed d && has_flag (flags_at d slot) boot

-- ECB and CBC: slots 4 to 13 with KEY_USAGE 0. GENERATE_MAC and VERIFY_MAC: slots 4 to 13 with KEY_USAGE 1. Other slots have
-- no KEY_USAGE
abbrev pub is_mac : Role → Bool
is_mac Cipher = false
is_mac GenerateMac = true
is_mac VerifyMac = true

unfoldable pub usage_fits : ℕ → ℕ → Role → Bool
usage_fits slot flags role = row_of slot ((4, 13, beq (is_mac role) (has_flag flags key_usage)) ∷ []) true

-- GET_STATUS: 2 for SECURE_BOOT, 4 for BOOT_INIT, 8 for BOOT_FINISHED, 16 for BOOT_OK, 32 if random numbers are initialised, and
-- 64 if the debugger mark is on, added
abbrev pub bit_where : Device → ℕ → ℕ → ℕ
bit_where d place bit = cond (is_marked d place) bit 0

unfoldable pub status : Device → ℕ
status d =
    bit_where d secure_boot_mark 2
    + bit_where d boot_init_mark 4
    + bit_where d boot_finished_mark 8
    + bit_where d boot_ok_mark 16
    + bit_where d rng_mark 32
    + bit_where d debugger_mark 64
