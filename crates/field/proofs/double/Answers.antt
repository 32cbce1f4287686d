-- `field::double` meets its contract: what is added is the bit that falls out, bit 7 of the byte, times {1b}. That the product fits a
-- byte is answered for as it stands in the code, so that a body which comes to it by a branch is refused.
-- Assumes nothing.
use Rattle.std.proofs.Common.{◌*◌, ◌/◌, arith, Fits, w8}
use Rattle.field.proofs.double.Goals as goal

pub overflow_mul-reduction : goal.overflow_mul-reduction
overflow_mul-reduction c = let fits : Fits w8 (c.args.byte / 128 * 0x1b) = omega arith in fits
