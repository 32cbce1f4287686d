-- `aes::round_constants` meets its contract: its table is tested against the powers of x, whole.
-- Assumes nothing.
use mathlib.Core.Path.{refl}
use Rattle.laws.proofs.Test.{table_rule}
use Rattle.laws.specs.All.{all}
use Rattle.laws.specs.Xor.{◌xor◌}
use Rattle.field.specs.Field.{reduce, xtime}
use Rattle.aes.specs.Schedule.{power_of_x}
use Rattle.aes.proofs.round_constants.Goals as goal

pub returns : goal.returns
unfolding power_of_x xtime reduce ◌xor◌ all
returns c = table_rule power_of_x _ 10 refl refl
