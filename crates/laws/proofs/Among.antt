-- The test whether a number stands in a list says so exactly where it does.
-- Assumes nothing.
use mathlib.Core.Path.{◌≡◌, ap, ◌∙◌}
use mathlib.Core.Bool.{Bool, true, ◌||◌, false≢true, or-true}
use mathlib.Core.List.{List, [], ◌∷◌}
use mathlib.Core.Logic.{inl, inr, ⊎_elim}
use Prim.Native.Nat.{ℕ}
use borrow.Author.Tests.{eqb-true, eq-eqb}
use lib.Dec.{eqb}
use Rattle.laws.specs.Among.{Among, is_among}
use Rattle.laws.proofs.Test.{either}

pub tested_among : (n : ℕ) (xs : List ℕ) → is_among n xs ≡ true → Among n xs
tested_among n [] h = absurd (false≢true h)
tested_among n (x ∷ xs) h = ⊎_elim (λ e. inl (eqb-true n x e)) (λ e. inr (tested_among n xs e)) (either (eqb n x) (is_among n xs) h)

pub among_tested : (n : ℕ) (xs : List ℕ) → Among n xs → is_among n xs ≡ true
among_tested n [] h = absurd h
among_tested n (x ∷ xs) (inl e) = ap (λ (b : Bool). b || is_among n xs) (eq-eqb n x e)
among_tested n (x ∷ xs) (inr h) = ap (λ (b : Bool). eqb n x || b) (among_tested n xs h) ∙ or-true (eqb n x)
