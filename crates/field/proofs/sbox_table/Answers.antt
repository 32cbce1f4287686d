-- `field::sbox_table` meets its contract: its table is tested against the rule of the S-box, whole.
-- Assumes nothing.
use Rattle.std.proofs.Common.{refl}
use Rattle.laws.specs.All.{all}
use Rattle.laws.specs.Xor.{◌xor◌}
use Rattle.laws.proofs.Test.{table_rule}
use Rattle.field.specs.Field.{reduce, xtime, mul, mul_bits, square, power, inverse}
use Rattle.field.specs.Sbox.{affine, sbox, table}
use Rattle.field.proofs.sbox_table.Goals as goal

pub returns : goal.returns
unfolding table sbox affine inverse power square mul mul_bits xtime reduce ◌xor◌ all
returns c = table_rule sbox _ 256 refl refl
