-- Our device in the place of the board: it meets the demands that these theorems ask for.
-- Assumes nothing.
use native.Mathlib.Omega.{arith}
use Rattle.message.specs.Flags.{flag_count}
use Rattle.demands.specs.Calls.{step}
use Rattle.demands.proofs.First.{demand_1}
use Rattle.demands.proofs.Runs.{demand_3}
use Rattle.rounds.specs.Rounds.{Round, Day}
use Rattle.rounds.proofs.Day.{days}
use Rattle.rounds.proofs.Round.{rounds}

pub our_rounds : Round (step flag_count)
our_rounds = rounds (step flag_count) (demand_1 flag_count) (demand_3 flag_count (omega arith))

pub our_days : Day (step flag_count)
our_days = days (step flag_count) (demand_1 flag_count) (demand_3 flag_count (omega arith))
