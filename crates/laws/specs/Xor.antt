-- The exclusive or of two numbers, bit by bit, as the papers write it: between its two sides. What the language's `^` computes.
-- It binds as `*` does, or a little less: a * b xor c is (a * b) xor c, and a + b xor c is a + (b xor c).
-- Assumes nothing.
use Rattle.std.specs.Prelude.{ℕ}
use Rattle.std.specs.Int.Bits.{bit_xor}

infixl 68 ◌xor◌
unfoldable pub ◌xor◌ : ℕ → ℕ → ℕ
a xor b = bit_xor a b
