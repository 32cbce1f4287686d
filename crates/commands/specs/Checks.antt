-- A call that uses the key of a slot.
-- Assumes nothing.
use Rattle.std.specs.Prelude.{Bool, not, List, [], ◌∷◌, ℕ}
use Rattle.basics.specs.Answers.{key_invalid, key_empty, key_not_available}
use Rattle.message.specs.Slots.{has_role}
use Rattle.message.specs.declared.Role.{Role}
use Rattle.device.specs.Account.{Account, unchanged}
use Rattle.device.specs.Record.{is_empty, key_at, flags_at}
use Rattle.device.specs.Rules.{locked, usage_fits}
use Rattle.device.specs.declared.Device.{Device}

-- a slot that can never have this role; empty; locked; KEY_USAGE
abbrev pub slot_checks : Device → ℕ → Role → List (Bool × ℕ)
slot_checks d slot role =
    (not (has_role slot role), key_invalid)
    ∷ (is_empty d slot, key_empty)
    ∷ (locked d slot, key_not_available)
    ∷ (not (usage_fits slot (flags_at d slot) role), key_invalid)
    ∷ []

-- it leaves the device as it was; the verdict, and what is written to the lent buffers, are made with the slot's key
pub record Use : Type 0 where
  pub lent : List (List ℕ)
  pub brought : List (List ℕ)
  pub lengths : Bool
  pub gives : List ℕ → ℕ × List (List ℕ)

abbrev pub with_key : ℕ → Role → Use → Account
with_key slot role u =
    record {
      lent = u.lent;
      brought = u.brought;
      lengths = u.lengths;
      uses = slot ∷ [];
      loads = [];
      fills = [];
      checks = λ d. slot_checks d slot role;
      refusal = unchanged;
      does = λ d. (d, (u.gives (key_at d slot)).0, (u.gives (key_at d slot)).1);
    }
