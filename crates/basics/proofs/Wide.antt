-- Wide numbers. Where a number is wider than its place, a definition refuses it and the largest of the place alike; so it
-- says the same of a number and of the number saturated. `saturates` says so in general: what is the same for the limit and
-- for every number above it is the same for a number and for it saturated.
-- Assumes nothing.
use mathlib.Core.Path.{◌≡◌, refl, sym, ap, ◌∙◌}
use mathlib.Core.Bool.{Bool, true, false, cond}
use Prim.Native.Nat.{ℕ, ◌≤◌, ◌<◌}
use native.Mathlib.Omega.{arith}
use borrow.Author.Tests.{le-leb, lt-leb, leb-true, leb-false, eqb-true, eqb-false}
use lib.Dec.{eqb, leb}
use Rattle.std.specs.Prelude.{Result, Ok, Err}
use Rattle.std.specs.Result.{OkIff, result_unwrap_or}
use Rattle.basics.specs.Wide.{saturated}

-- what is the same for the limit and for every number above it, is the same for a number and for it saturated
pub saturates : {X : Type 0} (says : ℕ → X) (limit n : ℕ) → (limit < n → says limit ≡ says n) → says (saturated limit n) ≡ says n
unfolding saturated
saturates says limit n wide = tests (leb n limit) refl
  where
    tests : (b : Bool) → leb n limit ≡ b → says (cond b n limit) ≡ says n
    tests true e = refl
    tests false e = wide (leb-false n limit e)

-- a number that fits is itself
pub fitting : (limit n : ℕ) → n ≤ limit → saturated limit n ≡ n
unfolding saturated
fitting limit n h = ap (λ (b : Bool). cond b n limit) (le-leb n limit h)

-- a test whether it is at most a bound below the limit
pub wide_test : (limit bound n : ℕ) → bound < limit → leb (saturated limit n) bound ≡ leb n bound
wide_test limit bound n room =
    saturates (λ (m : ℕ). leb m bound) limit n (λ h. lt-leb limit bound room ∙ sym (lt-leb n bound (omega arith)))

-- two outcomes are one where they are so for an answer of 0 and for any other
pub by_answer_lem : {X : Type 0} {x y : X} (answer : ℕ) → (answer ≡ 0 → x ≡ y) → ((answer ≡ 0 → ⊥) → x ≡ y) → x ≡ y
by_answer_lem {x = x} {y = y} answer done refused = tests (eqb answer 0) refl
  where
    tests : (b : Bool) → eqb answer 0 ≡ b → x ≡ y
    tests true e = done (eqb-true answer 0 e)
    tests false e = refused (eqb-false answer 0 e)

-- a number that is tried as a byte, and the largest byte where it is none
pub narrowed : {E : Type 0} (n : ℕ) (r : Result ℕ E) → OkIff r (n < 256) n → result_unwrap_or r 255 ≡ saturated 255 n
unfolding saturated
narrowed n (Ok x) h = h.1 ∙ sym (fitting 255 n (omega (arith, h.0)))
narrowed n (Err e) h = tests (leb n 255) refl
  where
    tests : (b : Bool) → leb n 255 ≡ b → 255 ≡ cond b n 255
    tests true e = absurd (h (omega (arith, leb-true n 255 e)))
    tests false e = refl
