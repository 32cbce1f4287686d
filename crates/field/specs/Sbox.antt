-- The S-box of FIPS 197, 5.1.1, and its inverse, 5.3.2, as rules.
-- Assumes nothing.
use Rattle.std.specs.Prelude.{List, ℕ, ◌+◌, ◌*◌, ◌%◌}
use Rattle.laws.specs.Tabulate.{tabulate}
use Rattle.laws.specs.Xor.{◌xor◌}
use Rattle.field.specs.Field.{bit, inverse}

-- the byte whose bit i is f i
abbrev pub from_bits : (ℕ → ℕ) → ℕ
from_bits f = f 0 + 2 * f 1 + 4 * f 2 + 8 * f 3 + 16 * f 4 + 32 * f 5 + 64 * f 6 + 128 * f 7

-- 5.1.1: b'_i = b_i + b_(i+4) + b_(i+5) + b_(i+6) + b_(i+7) + c_i, each index modulo 8, with c = {63}
abbrev pub affine_bit : ℕ → ℕ → ℕ
affine_bit b i =
    bit b i xor bit b ((i + 4) % 8) xor bit b ((i + 5) % 8) xor bit b ((i + 6) % 8) xor bit b ((i + 7) % 8) xor bit 0x63 i

unfoldable pub affine : ℕ → ℕ
affine b = from_bits (affine_bit b)

unfoldable pub sbox : ℕ → ℕ
sbox b = affine (inverse b)

-- 5.3.2: the way back, the inverse of the affine map, b_i = b'_(i+2) + b'_(i+5) + b'_(i+7) + d_i with d = {05}, and then
-- the inverse in the field
abbrev pub inv_affine_bit : ℕ → ℕ → ℕ
inv_affine_bit b i = bit b ((i + 2) % 8) xor bit b ((i + 5) % 8) xor bit b ((i + 7) % 8) xor bit 0x05 i

unfoldable pub inv_affine : ℕ → ℕ
inv_affine b = from_bits (inv_affine_bit b)

unfoldable pub inv_sbox : ℕ → ℕ
inv_sbox b = inverse (inv_affine b)

-- a rule on bytes as a table: what it gives for 0, 1, .. 255
unfoldable pub table : (ℕ → ℕ) → List ℕ
table f = tabulate 256 f
