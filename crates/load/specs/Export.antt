-- EXPORT_RAM_KEY, over the number n of flags: its account for lent buffers of any lengths.
-- Assumes nothing.
use Rattle.std.specs.Prelude.{Bool, not, List, [], ◌∷◌, ℕ, length}
use Rattle.laws.specs.Lengths.{right_lengths}
use Rattle.basics.specs.Answers.{key_invalid, key_empty}
use Rattle.message.specs.Messages.{Sent, build, m4, m5}
use Rattle.device.specs.Account.{Account, command}
use Rattle.device.specs.Record.{secret_key, ram_key, plain_mark, is_marked, is_empty, key_at}
use Rattle.device.specs.declared.Device.{Device}
use Rattle.load.specs.Load.{five_lengths}

-- empty; not plain
abbrev pub export_checks : Device → List (Bool × ℕ)
export_checks d = (is_empty d ram_key, key_empty) ∷ (not (is_marked d plain_mark), key_invalid) ∷ []

-- M1 to M5 by authority 0, own UID, counter and flags 0
abbrev pub exported : ℕ → Device → Sent
exported n d = build n d.uid ram_key secret_key (key_at d secret_key) 0 0 (key_at d ram_key)

abbrev pub exported4 : Device → List ℕ
exported4 d = m4 d.uid ram_key secret_key 0 (key_at d ram_key)

-- the device stays the same
unfoldable pub export_ram_key : ℕ → List ℕ → List ℕ → List ℕ → List ℕ → List ℕ → Account
export_ram_key n before1 before2 before3 before4 before5 = command (record {
  lent = before1 ∷ before2 ∷ before3 ∷ before4 ∷ before5 ∷ [];
  brought = [];
  lengths = right_lengths (five_lengths (length before1) (length before2) (length before3) (length before4) (length before5));
  checks = export_checks;
  does = λ d. let made = exported n d in
      (d, 0, made.m1 ∷ made.m2 ∷ made.m3 ∷ exported4 d ∷ m5 (key_at d ram_key) (exported4 d) ∷ []);
})
