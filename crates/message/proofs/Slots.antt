-- The tables of the slots, range by range: what a table has there, for the theorems that ask for it, what the tables say of a
-- pair, and that they say it of wide numbers too.
-- Assumes nothing.
use mathlib.Core.Path.{◌≡◌, refl, sym, ◌∙◌}
use mathlib.Core.Bool.{Bool, true, false, cond, ◌||◌, false≢true}
use mathlib.Core.List.{[]}
use mathlib.Core.Logic.{⊎_elim}
use Prim.Native.Nat.{ℕ, ◌≤◌, ◌<◌}
use native.Mathlib.Omega.{arith}
use borrow.Author.Tests.{eqb-true, leb-true}
use lib.Dec.{eqb, leb}
use Rattle.laws.specs.Ranges.{within, row_of}
use Rattle.laws.proofs.Ranges.{inside, below, above, by_row}
use Rattle.laws.proofs.Test.{both, either}
use Rattle.basics.specs.Wide.{saturated}
use Rattle.basics.proofs.Wide.{saturates}
use Rattle.message.specs.Slots.{has_role, flags_kept, counter_kept, allowed}
use Rattle.message.specs.declared.Role.{Role}

-- ---- roles
module _ (s : ℕ) (role : Role) where
  pub role_15 : 15 ≤ s → false ≡ has_role s role
  unfolding has_role row_of
  role_15 l = simp (above 2 2 s (omega arith), above 4 13 s (omega arith), above 14 14 s (omega arith))

-- ---- flags
module _ (s : ℕ) where
  pub kept_0 : s < 1 → 0 ≡ flags_kept s
  unfolding flags_kept row_of
  kept_0 h = simp (below 1 1 s h, below 2 3 s (omega arith), below 4 13 s (omega arith))

  pub kept_14 : 14 ≤ s → 0 ≡ flags_kept s
  unfolding flags_kept row_of
  kept_14 l = simp (above 1 1 s (omega arith), above 2 3 s (omega arith), above 4 13 s (omega arith))

-- ---- counters
module _ (s c : ℕ) where
  pub counter_1_13 : 1 ≤ s → s ≤ 13 → c ≡ counter_kept s c
  unfolding counter_kept row_of
  counter_1_13 l h = simp (inside 1 13 s l h)

  pub counter_14 : 14 ≤ s → 0 ≡ counter_kept s c
  unfolding counter_kept row_of
  counter_14 l = simp (above 1 13 s l)

  -- the counter, or 0
  pub counter_below : counter_kept s c ≤ c
  unfolding counter_kept row_of
  counter_below = one_or_none (within 1 13 s)
    where
      one_or_none : (b : Bool) → cond b c 0 ≤ c
      one_or_none true = omega arith
      one_or_none false = omega arith

-- ---- pairs
module _ (t a : ℕ) where
  pub pair_2_3 : 2 ≤ t → t ≤ 3 → (eqb a 1 || eqb a 2) ≡ allowed t a
  unfolding allowed row_of
  pair_2_3 l h = simp (above 1 1 t l, inside 2 3 t l h)

  pub pair_15 : 15 ≤ t → false ≡ allowed t a
  unfolding allowed row_of
  pair_15 l = simp (above 1 1 t (omega arith), above 2 3 t (omega arith), above 4 13 t (omega arith), above 14 14 t (omega arith))

-- ---- what pairs are made of: the target is from 1 to 14, and the authority from 0 to 13
no_row : (t : ℕ) → row_of t [] false ≡ true → ⊥
unfolding row_of
no_row t e = false≢true e

module _ (t a : ℕ) where
  Slots : Type 0
  Slots = (1 ≤ t) × (t ≤ 14) × (a ≤ 13)

  by_either : (p q : ℕ) → p ≤ 13 → q ≤ 13 → 1 ≤ t → t ≤ 14 → (eqb a p || eqb a q) ≡ true → Slots
  unfolding Slots
  by_either p q hp hq l h e =
      ⊎_elim (λ x. (l, h, omega (arith, eqb-true a p x))) (λ y. (l, h, omega (arith, eqb-true a q y))) (either (eqb a p) (eqb a q) e)

  pub pair_slots : allowed t a ≡ true → (1 ≤ t) × (t ≤ 14) × (a ≤ 13)
  unfolding allowed Slots
  pair_slots e =
      ⊎_elim (λ r. (omega arith, omega arith, omega (arith, eqb-true a 1 r.2)))
      (λ e. ⊎_elim (λ r. by_either 1 2 (omega arith) (omega arith) (omega arith) (omega arith) r.2)
      (λ e. ⊎_elim (λ r. by_either 1 t (omega arith) (omega arith) (omega arith) (omega arith) r.2)
      (λ e. ⊎_elim (λ r. ram r.0 r.1 r.2) (λ none. absurd (no_row t none))
      (by_row t 14 14 (within 4 13 a || eqb a 0) false [] true e))
      (by_row t 4 13 _ false _ true e))
      (by_row t 2 3 _ false _ true e))
      (by_row t 1 1 _ false _ true e)
    where
      ram : 14 ≤ t → t ≤ 14 → (within 4 13 a || eqb a 0) ≡ true → Slots
      ram l h e = ⊎_elim (λ x. (omega arith, h, leb-true a 13 (both (leb 4 a) (leb a 13) x).1)) (λ y. (omega arith, h, omega (arith, eqb-true a 0 y))) (either (within 4 13 a) (eqb a 0) e)

-- ---- wide numbers: a pair is allowed exactly where it is so of the numbers saturated
pub no_authority : (t a : ℕ) → 13 < a → allowed t a ≡ false
no_authority t a h = tests (allowed t a) refl
  where
    tests : (b : Bool) → allowed t a ≡ b → b ≡ false
    tests true e = absurd (omega (arith, (pair_slots t a e).2, h))
    tests false e = refl

pub wide_pair : (t a : ℕ) → allowed (saturated 255 t) (saturated 255 a) ≡ allowed t a
wide_pair t a =
    saturates (λ (s : ℕ). allowed s (saturated 255 a)) 255 t (λ h. sym (pair_15 255 _ (omega arith)) ∙ pair_15 t _ (omega arith))
    ∙ saturates (allowed t) 255 a (λ h. no_authority t 255 (omega arith) ∙ sym (no_authority t a (omega arith)))
