-- Bytes in digits: how many these are, and each of them.
-- Assumes nothing.
use mathlib.Core.Path.{◌≡◌, refl, ap, ◌∙◌}
use mathlib.Core.List.{List, [], ◌∷◌}
use Prim.Native.Nat.{ℕ, zero, suc, ◌+◌, ◌*◌, ◌/◌, ◌%◌, ◌≤◌, ◌<◌}
use native.Mathlib.Omega.{arith}
use lib.ListN.{length, get_or, get_or-eq_default}
use Rattle.text.specs.Hex.{letter_of, in_digits}
use Rattle.text.proofs.Buffers.{over_none, over_last, over_all}

pub length_digits : (l : List ℕ) → length (in_digits l) ≡ 2 * length l
unfolding in_digits
length_digits [] = refl
length_digits (x ∷ l) = ap (λ (n : ℕ). suc (suc n)) (length_digits l) ∙ omega arith

-- the two of byte k, and none past the last
upper : (l : List ℕ) (i k : ℕ) → i ≡ 2 * k → k < length l → get_or (in_digits l) i 0 ≡ letter_of (get_or l k 0 / 16)
unfolding in_digits
upper [] i k e h = absurd (omega arith)
upper (x ∷ l) i zero e h = ap (λ (j : ℕ). get_or (in_digits (x ∷ l)) j 0) e
upper (x ∷ l) i (suc k) e h =
    let next : i ≡ suc (suc (2 * k)) = omega arith in
    ap (λ (j : ℕ). get_or (in_digits (x ∷ l)) j 0) next ∙ upper l (2 * k) k refl (omega arith)

lower : (l : List ℕ) (i k : ℕ) → i ≡ 2 * k + 1 → k < length l → get_or (in_digits l) i 0 ≡ letter_of (get_or l k 0)
unfolding in_digits
lower [] i k e h = absurd (omega arith)
lower (x ∷ l) i zero e h = ap (λ (j : ℕ). get_or (in_digits (x ∷ l)) j 0) e
lower (x ∷ l) i (suc k) e h =
    let next : i ≡ suc (suc (2 * k + 1)) = omega arith in
    ap (λ (j : ℕ). get_or (in_digits (x ∷ l)) j 0) next ∙ lower l (2 * k + 1) k refl (omega arith)

module _ (l : List ℕ) (i : ℕ) where
  pub upper_digit : i / 2 < length l → i % 2 ≡ 0 → get_or (in_digits l) i 0 ≡ letter_of (get_or l (i / 2) 0 / 16)
  upper_digit h even = upper l i (i / 2) (omega arith) h

  pub lower_digit : i / 2 < length l → (i % 2 ≡ 0 → ⊥) → get_or (in_digits l) i 0 ≡ letter_of (get_or l (i / 2) 0)
  lower_digit h odd = lower l i (i / 2) (omega arith) h

  pub no_digit : length l ≤ i / 2 → get_or (in_digits l) i 0 ≡ 0
  no_digit h = get_or-eq_default (in_digits l) 0 (omega (arith, length_digits l))

-- bytes are put in digits one after the other
pub ruleset putting = (length_digits, over_none, over_last, over_all)

pub ruleset digits = (upper_digit, lower_digit, no_digit)
