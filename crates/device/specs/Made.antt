-- When a record counts as made; the blank device, and a new one.
-- Assumes nothing.
use Rattle.std.specs.Prelude.{◌≡◌, Bool, true, not, ◌&&◌, ◌||◌, List, ℕ, eqb, leb, replicate, set}
use Rattle.laws.specs.All.{all}
use Rattle.laws.specs.Same.{same}
use Rattle.basics.specs.Bytes.{zero_uid}
use Rattle.basics.specs.Marks.{off, on, is_on, is_mark}
use Rattle.modes.specs.Blocks.{zero_block}
use Rattle.message.specs.FirstBlock.{max_counter}
use Rattle.message.specs.Slots.{counter_kept}
use Rattle.device.specs.Record.{secret_key, ram_key, mark_count, rng_mark, plain_mark, made_mark, mark_at, is_marked, is_empty, slot_at, set_marks, put_slot, Shaped}
use Rattle.device.specs.Rules.{kept}
use Rattle.device.specs.declared.Device.{Device}
use Rattle.device.specs.declared.Slot.{Slot}

-- all zero besides its empty mark
abbrev pub is_zero : Slot → Bool
is_zero slot = same slot.key zero_block && eqb slot.counter 0 && eqb slot.flags 0

-- the counter is at most 268,435,455, or 0 where the slot has none; it keeps no flag that it hasn't; an empty slot is all zero
unfoldable pub slot_fine : ℕ → Slot → Bool
slot_fine number slot =
    is_mark slot.empty
    && leb slot.counter (counter_kept number max_counter)
    && eqb (kept number slot.flags) slot.flags
    && (not (is_on slot.empty) || is_zero slot)

unfoldable pub slots_fine : Device → Bool
slots_fine d = all 15 (λ number. slot_fine number (slot_at d number))

unfoldable pub marks_fine : Device → Bool
marks_fine d = all mark_count (λ place. is_mark (mark_at d place))

-- its made mark is on, its UID isn't zero, slot 0 isn't empty, each slot is as it may be (an empty slot 14 is not plain), random
-- state and key are zero while not initialised; and marks are on or off
unfoldable pub made : Device → Bool
made d =
    is_marked d made_mark
    && not (same d.uid zero_uid)
    && not (is_empty d secret_key)
    && slots_fine d
    && (not (is_empty d ram_key) || not (is_marked d plain_mark))
    && (is_marked d rng_mark || (same d.state zero_block && same d.rngkey zero_block))
    && marks_fine d

-- ---- the marks of a new device, and of one after a reset: it is made, and nothing else
abbrev pub new_marks : List ℕ
new_marks = set (replicate mark_count off) made_mark on

-- ---- the key store is 240 zero bytes, counters and flags are 0, random state and key are zero, and all marks are off
abbrev pub unset : List ℕ → List ℕ → ℕ → Device
unset uid seed empty =
    record {
      keys = replicate 240 0;
      counters = replicate 15 0;
      flags = replicate 15 0;
      empty = replicate 15 empty;
      uid = uid;
      seed = seed;
      state = zero_block;
      rngkey = zero_block;
      marks = replicate mark_count off;
    }

-- all zero, and not made
abbrev pub blank : Device
blank = unset zero_uid zero_block off

-- all slots are empty; then SECRET_KEY is put in
abbrev pub unkeyed : List ℕ → List ℕ → Device
unkeyed uid seed = set_marks new_marks (unset uid seed on)

abbrev pub fresh : List ℕ → List ℕ → List ℕ → Device
fresh uid secret seed = put_slot secret_key (record { key = secret; counter = 0; flags = 0; empty = off }) (unkeyed uid seed)

-- what theorems ask of a device: it has the shape that its type gives it, and is made
abbrev pub Sound : Device → Type 0
Sound d = Shaped d × (made d ≡ true)
