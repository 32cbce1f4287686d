-- All cases of the table hold.
-- Assumes nothing.
use mathlib.Core.Path.{◌≡◌, refl}
use mathlib.Core.List.{List, map}
use Prim.Native.Nat.{ℕ}
use Rattle.field.specs.Field.{reduce, xtime, mul_bits, mul, square, power, inverse}
use Rattle.field.specs.Sbox.{affine, sbox}
use Rattle.laws.specs.Xor.{◌xor◌}
use Rattle.message.specs.Cases.{cases}
use Rattle.message.specs.FirstBlock.{first_block}

pub cases_hold : map (λ (c : List ℕ × List ℕ). c.0) cases ≡ map (λ (c : List ℕ × List ℕ). c.1) cases
unfolding first_block reduce xtime mul_bits mul square power inverse affine sbox ◌xor◌
cases_hold = refl
