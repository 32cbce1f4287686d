-- A test of every number below another, as an iterator's `all` makes it: of a range from 0 it is that of every number in it, and of
-- a list that of every place.
-- Assumes nothing.
use mathlib.Core.Path.{◌≡◌, refl, sym, ap, ap₂, ◌∙◌}
use mathlib.Core.Bool.{Bool, true, false, ◌&&◌, and-true, and-false, and_assoc}
use mathlib.Core.Logic.{◌⊎◌, inl, inr, ⊎_elim}
use Prim.Native.Nat.{ℕ, zero, suc, ◌+◌, ◌<◌, ◌≤◌}
use native.Mathlib.Nat.{eq-or-lt_of_le}
use native.Mathlib.Omega.{arith}
use Rattle.std.specs.List.{list_all, range_with_len}
use Rattle.laws.specs.All.{all}

-- the first number's test may come before the others'
pub first : (n : ℕ) (test : ℕ → Bool) → (test 0 && all n (λ k. test (suc k))) ≡ all (suc n) test
unfolding all
first zero test = and-true (test 0)
first (suc n) test =
    sym (and_assoc (test 0) (all n (λ k. test (suc k))) (test (suc n))) ∙ ap (λ (b : Bool). b && test (suc n)) (first n test)

from : (test : ℕ → Bool) (a n : ℕ) → list_all test (range_with_len a n) ≡ all n (λ k. test (a + k))
unfolding all
from test a zero = refl
from test a (suc n) =
    let next : (k : ℕ) → a + 1 + k ≡ a + suc k = λ k. omega arith in
    ap₂ (λ (b c : Bool). b && c) (ap test {y = a + 0} (omega arith)) (from test (a + 1) n ∙ λ i. all n (λ k. test (next k i)))
    ∙ first n (λ k. test (a + k))

pub all_in_range : (test : ℕ → Bool) (n : ℕ) → list_all test (range_with_len 0 n) ≡ all n test
all_in_range test n =
    let same : (k : ℕ) → 0 + k ≡ k = λ k. omega arith in
    from test 0 n ∙ λ i. all n (λ k. test (same k i))

-- ---- the test of all as it comes out: it passes at each number, or there is one at which it fails. From this `grind` proves by cases
-- what an iterator's `all` answers for a list.
abbrev Decided : (n : ℕ) → (ℕ → Bool) → Bool → Type 0
Decided n rule b = ((b ≡ true) × ((k : ℕ) → k < n → rule k ≡ true)) ⊎ ((b ≡ false) × ((k : ℕ) × (k < n) × (rule k ≡ false)))

decided_more : (n : ℕ) (rule : ℕ → Bool) (a b : Bool) → Decided n rule a → rule n ≡ b → Decided (suc n) rule (a && b)
decided_more n rule a b (inr d) e = inr (ap (λ x. x && b) d.0, (d.1.0, omega (arith, d.1.1), d.1.2))
decided_more n rule a false (inl d) e = inr (and-false a, (n, omega arith, e))
decided_more n rule a true (inl d) e =
    inl (ap (λ x. x && true) d.0, λ k l. let low : k ≤ n = omega arith in ⊎_elim (λ same. ap rule same ∙ e) (d.1 k) (eq-or-lt_of_le low))

decides : (n : ℕ) (rule : ℕ → Bool) → Decided n rule (all n rule)
unfolding all
decides zero rule = inl (refl, λ k l. absurd (omega arith))
decides (suc n) rule = decided_more n rule (all n rule) (rule n) (decides n rule) refl

pub all_decided : (n : ℕ) (rule : ℕ → Bool) → (all n rule ≡ all n rule) × Decided n rule (all n rule)
all_decided n rule = (refl, decides n rule)
