-- Tables by ranges: a row that a number lies in, and one that it does not lie in. A `match` gives a range for each arm.
-- `by_row` goes the other way, from what a table says to the row that says it.
-- Assumes nothing.
use mathlib.Core.Path.{◌≡◌, refl, ap, ap₂, ◌∙◌}
use mathlib.Core.Bool.{Bool, true, false, cond, ◌&&◌, and-false}
use mathlib.Core.List.{List, ◌∷◌}
use mathlib.Core.Logic.{◌⊎◌, inl, inr}
use Prim.Native.Nat.{ℕ, ◌≤◌, ◌<◌}
use borrow.Author.Tests.{le-leb, lt-leb, leb-true}
use lib.Dec.{leb}
use Rattle.laws.proofs.Test.{both}
use Rattle.laws.specs.Ranges.{within, row_of}

pub inside : (first last n : ℕ) → first ≤ n → n ≤ last → within first last n ≡ true
inside first last n l h = ap₂ (λ (a b : Bool). a && b) (le-leb first n l) (le-leb n last h)

pub below : (first last n : ℕ) → n < first → within first last n ≡ false
below first last n h = ap (λ (a : Bool). a && leb n last) (lt-leb first n h)

pub above : (first last n : ℕ) → last < n → within first last n ≡ false
above first last n h = ap (λ (b : Bool). leb first n && b) (lt-leb n last h) ∙ and-false (leb first n)

module _ {A : Type 0} (n first last : ℕ) (value other : A) (rows : List (ℕ × ℕ × A)) where
  -- what a table says is said by its first row, where n lies in it, or by the others
  pub by_row : (x : A) → row_of n ((first, last, value) ∷ rows) other ≡ x → ((first ≤ n) × (n ≤ last) × (value ≡ x)) ⊎ (row_of n rows other ≡ x)
  unfolding row_of
  by_row x = tests (within first last n) refl
    where
      tests : (b : Bool) → within first last n ≡ b → cond b value (row_of n rows other) ≡ x
          → ((first ≤ n) × (n ≤ last) × (value ≡ x)) ⊎ (row_of n rows other ≡ x)
      tests true h e = let parts = both (leb first n) (leb n last) h in inl (leb-true first n parts.0, leb-true n last parts.1, e)
      tests false h e = inr e
