-- `field::inv_sbox_table` meets its contract: its table is tested against the rule of the S-box, whole.
-- Assumes nothing.
use Rattle.std.proofs.Common.{refl}
use Rattle.laws.specs.All.{all}
use Rattle.laws.specs.Xor.{◌xor◌}
use Rattle.laws.proofs.Test.{table_rule}
use Rattle.field.specs.Field.{reduce, xtime, mul, mul_bits, square, power, inverse}
use Rattle.field.specs.Sbox.{inv_affine, inv_sbox, table}
use Rattle.field.proofs.inv_sbox_table.Goals as goal

pub returns : goal.returns
unfolding table inv_sbox inv_affine inverse power square mul mul_bits xtime reduce ◌xor◌ all
returns c = table_rule inv_sbox _ 256 refl refl
