-- The doubling of CMAC's subkeys: what the code computes of each byte, and its two cases.
-- Assumes nothing.
use mathlib.Core.Path.{◌≡◌}
use mathlib.Core.List.{List}
use Prim.Native.Nat.{ℕ, ◌+◌, ◌*◌, ◌/◌, ◌%◌, ◌<◌, ◌≤◌}
use native.Mathlib.Omega.{arith}
use borrow.Author.Rules.{elem_Fits}
use mir.Syntax.{w8}
use mir.Val.{Fits}
use lib.Bits.{bit_or, or_shifted}
use Rattle.laws.proofs.Test.{where_equal, where_other}
use Rattle.field.specs.Field.{bit}
use Rattle.aes.specs.State.{byte}
use Rattle.modes.specs.Blocks.{◌⊕◌}
use Rattle.modes.specs.Cmac.{shift_left, r128, double}

-- a byte shifted, with the highest bit of the next
pub with_carry : (a b : ℕ) → b < 256 → bit_or (a * 2 % 256) (b / 128) ≡ a * 2 % 256 + b / 128
with_carry a b h =
    let even : a * 2 % 256 ≡ a % 128 * 2 = omega arith in
    rw even (or_shifted (a % 128) 1 (b / 128) (omega arith))

-- by the highest bit
pub plain_double : (x : List ℕ) → byte x 0 < 128 → shift_left x ≡ double x
unfolding double
plain_double x h =
    let zero : bit (byte x 0) 7 ≡ 0 = omega arith in
    where_equal (bit (byte x 0) 7) 0 (shift_left x) (shift_left x ⊕ r128) zero

pub reduced_double : (x : List ℕ) → 128 ≤ byte x 0 → Fits w8 (byte x 0) → shift_left x ⊕ r128 ≡ double x
unfolding double
reduced_double x h small =
    let one : bit (byte x 0) 7 ≡ 1 = omega (arith, small.fits) in
    where_other (bit (byte x 0) 7) 0 (shift_left x) (shift_left x ⊕ r128) (λ e. omega (arith, small.fits))

-- the two cases, and that an element of an array of bytes is one
pub ruleset doubled = (plain_double, reduced_double, elem_Fits)
