-- A block as one number of 128 bits, its first byte the most significant, and CMAC's doubling and padding of such numbers.
-- Assumes nothing.
use Rattle.std.specs.Prelude.{List, [], ◌∷◌, ℕ, zero, suc, ◌+◌, ◌-◌, ◌*◌, ◌/◌, ◌%◌, ◌^◌, length}
use Rattle.laws.specs.Xor.{◌xor◌}
use Rattle.field.specs.Field.{bit}

unfoldable pub number : List ℕ → ℕ
number [] = 0
number (b ∷ bs) = b * 256 ^ length bs + number bs

-- a number in so many bytes; where they are too few, its highest bits are left out
abbrev pub in_bytes : ℕ → ℕ → List ℕ
in_bytes zero x = []
in_bytes (suc n) x = x / 256 ^ n % 256 ∷ in_bytes n x

-- X << 1 in 128 bits, and R_128 where the highest bit of X is 1
unfoldable pub double_number : ℕ → ℕ
double_number x = x * 2 % 2 ^ 128 xor bit x 127 * 0x87

-- the first r bits of x, a 1, and 127 - r zeros
unfoldable pub padded_number : ℕ → ℕ → ℕ
padded_number r x = (x / 2 ^ (128 - r) * 2 + 1) * 2 ^ (127 - r)
