-- The rules of a load, each in one place: the authority's key, whom a message is for, the counter, and what the target keeps.
-- Assumes nothing.
use Rattle.std.specs.Prelude.{Bool, not, cond, ◌&&◌, ◌||◌, List, ℕ, eqb, ltb}
use Rattle.laws.specs.Same.{same}
use Rattle.basics.specs.Bytes.{zero_uid}
use Rattle.basics.specs.Marks.{off}
use Rattle.message.specs.Flags.{wildcard}
use Rattle.message.specs.Messages.{empty_key}
use Rattle.message.specs.Slots.{counter_kept}
use Rattle.device.specs.Record.{ram_key, plain_mark, mark_at, is_empty, key_at, counter_at, flags_at, set_mark, put_slot}
use Rattle.device.specs.Rules.{has_flag, kept}
use Rattle.device.specs.declared.Device.{Device}
use Rattle.device.specs.declared.Slot.{Slot}

-- what the authority's slot holds, or counts as
unfoldable pub authority_key : Device → ℕ → List ℕ
authority_key d authority = cond (is_empty d authority) empty_key (key_at d authority)

-- UID' is the device's, or is all zero (the wildcard) and the target's WILDCARD is 0; target 14 takes the wildcard
unfoldable pub is_for_us : Device → ℕ → List ℕ → Bool
is_for_us d target uid =
    same uid d.uid || (same uid zero_uid && (eqb target ram_key || not (has_flag (flags_at d target) wildcard)))

-- greater than the stored one; for target 14 it may be anything
unfoldable pub counter_rises : Device → ℕ → ℕ → Bool
counter_rises d target counter = eqb target ram_key || ltb (counter_at d target) counter

-- for target 14 the plain mark goes off
unfoldable pub plain_after : ℕ → ℕ → ℕ
plain_after target plain = cond (eqb target ram_key) off plain

-- counter, flags and key as a slot keeps them
abbrev pub as_kept : ℕ → ℕ → ℕ → List ℕ → Slot
as_kept slot counter flags key = record { key = key; counter = counter_kept slot counter; flags = kept slot flags; empty = off }

-- the target holds them so
unfoldable pub loaded : Device → ℕ → ℕ → ℕ → List ℕ → Device
loaded d target counter flags key =
    put_slot target (as_kept target counter flags key) (set_mark plain_mark (plain_after target (mark_at d plain_mark)) d)
