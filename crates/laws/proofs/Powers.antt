-- Numbers that stand in fields of bits.
-- Assumes nothing.
use mathlib.Core.Path.{◌≡◌, sym, ap, ◌∙◌}
use Prim.Native.Nat.{ℕ, ◌+◌, ◌*◌, ◌%◌, ◌^◌, ◌<◌}
use native.Mathlib.Nat.{add-mul, one-mul, mul-le-mul_right, add-zero}
use native.Mathlib.Numerals.{add-one}
use native.Mathlib.Omega.{arith}
use lib.Pow.{pow-add, pow_pos, low}

-- j bits, and k bits after them
pub joined_below : (j k a b : ℕ) → a < 2 ^ j → b < 2 ^ k → a * 2 ^ k + b < 2 ^ (j + k)
joined_below j k a b ha hb =
    let p : ℕ = 2 ^ k in
    omega (arith, pow-add 2 j k, mul-le-mul_right p ha, add-mul a 1 p, one-mul p, ap (λ (n : ℕ). n * p) (add-one a))

-- k zeros at the end
pub zeros_after : (a k : ℕ) → a * 2 ^ k % 2 ^ k ≡ 0
zeros_after a k = ap (λ (n : ℕ). n % 2 ^ k) (sym (add-zero (a * 2 ^ k))) ∙ low a k (pow_pos k)
