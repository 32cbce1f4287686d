-- The test of two lists: it passes exactly where they are equal; and a loop that makes it number by number.
-- Assumes nothing.
use mathlib.Core.Path.{◌≡◌, refl, sym, ap, ap₂, ◌∙◌}
use mathlib.Core.Bool.{Bool, true, false, ◌&&◌, and_assoc, and-true, and-false, false≢true}
use mathlib.Core.List.{List, [], ◌∷◌}
use Prim.Native.Nat.{ℕ, zero, suc, ◌+◌, ◌<◌}
use native.Mathlib.Numerals.{add-one}
use native.Mathlib.Omega.{arith}
use borrow.Author.Tests.{eq-eqb, eqb-true}
use lib.Dec.{eqb}
use lib.ListN.{length, get_or, take}
use lib.Seq.{take_all}
use Rattle.laws.specs.Same.{same}
use Rattle.laws.proofs.Test.{both}

same_itself : (a : List ℕ) → same a a ≡ true
unfolding same
same_itself [] = refl
same_itself (x ∷ a) = ap₂ (λ (s t : Bool). s && t) (eq-eqb x x refl) (same_itself a)

pub same_equal : (a b : List ℕ) → a ≡ b → same a b ≡ true
same_equal a b e = ap (same a) (sym e) ∙ same_itself a

pub equal_same : (a b : List ℕ) → same a b ≡ true → a ≡ b
unfolding same
equal_same [] [] h = refl
equal_same [] (y ∷ b) h = absurd (false≢true h)
equal_same (x ∷ a) [] h = absurd (false≢true h)
equal_same (x ∷ a) (y ∷ b) h =
    let parts = both (eqb x y) (same a b) h in
    ap₂ (λ (n : ℕ) (l : List ℕ). n ∷ l) (eqb-true x y parts.0) (equal_same a b parts.1)

-- lists of different lengths
pub same_length : (a b : List ℕ) → (length a ≡ length b → ⊥) → false ≡ same a b
unfolding same
same_length [] [] h = absurd (h refl)
same_length [] (y ∷ b) h = refl
same_length (x ∷ a) [] h = refl
same_length (x ∷ a) (y ∷ b) h = sym (ap (λ (t : Bool). eqb x y && t) (sym (same_length a b (λ e. h (ap suc e)))) ∙ and-false (eqb x y))

-- one number more
pub same_more : (a b : List ℕ) (i : ℕ) → i < length a → i < length b
    → same (take i a) (take i b) && eqb (get_or a i 0) (get_or b i 0) ≡ same (take (suc i) a) (take (suc i) b)
unfolding same
same_more [] b i ha hb = absurd (omega arith)
same_more (x ∷ a) [] i ha hb = absurd (omega arith)
same_more (x ∷ a) (y ∷ b) zero ha hb = sym (and-true (eqb x y))
same_more (x ∷ a) (y ∷ b) (suc i) ha hb =
    and_assoc (eqb x y) (same (take i a) (take i b)) (eqb (get_or a i 0) (get_or b i 0))
    ∙ ap (λ (t : Bool). eqb x y && t) (same_more a b i (omega arith) (omega arith))

-- a loop over two lists of equal length: what it has found after i numbers, a number more, and all of them
abbrev pub Compared : List ℕ → List ℕ → ℕ → Bool → Type 0
Compared a b i found = found ≡ same (take i a) (take i b)

pub compared_none : (a b : List ℕ) → Compared a b 0 true
unfolding same
compared_none a b = refl

pub compared_more : (a b : List ℕ) (i : ℕ) (found : Bool) → i < length a → i < length b → Compared a b i found
    → Compared a b (i + 1) (found && eqb (get_or a i 0) (get_or b i 0))
compared_more a b i found ha hb e =
    ap (λ (t : Bool). t && eqb (get_or a i 0) (get_or b i 0)) e ∙ same_more a b i ha hb ∙ sym (ap (λ (n : ℕ). same (take n a) (take n b)) (add-one i))

pub compared_all : (a b : List ℕ) (i : ℕ) (found : Bool) → i ≡ length a → length a ≡ length b → Compared a b i found → found ≡ same a b
compared_all a b i found ha hb e = e ∙ ap₂ same (take_all i a (omega arith)) (take_all i b (omega arith))
