-- The field GF(2^8) of FIPS 197, section 4: a byte is a polynomial with bits for coefficients, the lowest bit that of x^0,
-- and products are taken modulo m(x) = x^8 + x^4 + x^3 + x + 1. The sum of two bytes (4.1) is their `xor`.
-- Assumes nothing.
use Rattle.std.specs.Prelude.{ℕ, zero, suc, ◌*◌, ◌/◌, ◌%◌, ◌^◌}
use Rattle.laws.specs.Xor.{◌xor◌}

-- bit i of b
abbrev pub bit : ℕ → ℕ → ℕ
bit b i = b / 2 ^ i % 2

-- 4.2: b times x. A shift to the left; if the bit that falls out, b_7, is 1, then m(x) is taken away: a sum with {1b}
unfoldable pub reduce : ℕ → ℕ → ℕ
reduce zero shifted = shifted
reduce (suc n) shifted = shifted xor 0x1b

unfoldable pub xtime : ℕ → ℕ
xtime b = reduce (bit b 7) (b * 2 % 256)

-- 4.2: a times b, the sum of the b x^k for which bit k of a is 1; here for the lowest n bits of a
unfoldable pub mul_bits : ℕ → ℕ → ℕ → ℕ
mul_bits zero a b = 0
mul_bits (suc n) a b = (a % 2 * b) xor mul_bits n (a / 2) (xtime b)

unfoldable pub mul : ℕ → ℕ → ℕ
mul a b = mul_bits 8 a b

-- 4.4: the inverse of a is a^254, which is 0 for 0. The power n is a^(2^(n + 1) - 2): a^0, a^2, a^6, a^14, ..
unfoldable pub square : ℕ → ℕ
square a = mul a a

unfoldable pub power : ℕ → ℕ → ℕ
power zero a = 1
power (suc n) a = square (mul a (power n a))

unfoldable pub inverse : ℕ → ℕ
inverse a = power 7 a
