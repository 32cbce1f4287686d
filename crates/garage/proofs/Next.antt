-- The next counter, made of a last one that no next fits after: both are past the largest counter, or both are the same.
-- Assumes nothing.
use mathlib.Core.Path.{◌≡◌, refl}
use mathlib.Core.Bool.{Bool, true, false, cond}
use Prim.Native.Nat.{ℕ, ◌+◌, ◌≤◌, ◌<◌, min}
use native.Mathlib.Omega.{arith}
use Rattle.laws.specs.Ranges.{within, row_of}
use Rattle.message.specs.FirstBlock.{max_counter}
use Rattle.message.specs.Slots.{counter_kept}

module _ (slot last next : ℕ) (e : next ≡ min (last + 1) 4294967295) where
  pub next_same : counter_kept slot next ≤ max_counter → counter_kept slot next ≡ counter_kept slot (last + 1)
  unfolding counter_kept row_of
  next_same h = tests (within 1 13 slot) h
    where
      tests : (t : Bool) → cond t next 0 ≤ max_counter → cond t next 0 ≡ cond t (last + 1) 0
      tests true h = omega (arith, e, h)
      tests false h = refl

  pub next_past : max_counter < counter_kept slot next → max_counter < counter_kept slot (last + 1)
  unfolding counter_kept row_of
  next_past h = tests (within 1 13 slot) h
    where
      tests : (t : Bool) → max_counter < cond t next 0 → max_counter < cond t (last + 1) 0
      tests true h = omega (arith, e, h)
      tests false h = h

pub ruleset next_laws = (next_same, next_past)
