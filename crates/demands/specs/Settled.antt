-- The demands leave no freedom: whatever machine meets the first two leaves what ours leaves, of every record and every call.
-- Assumes nothing.
use Rattle.std.specs.Prelude.{◌≡◌, ℕ}
use Rattle.device.specs.declared.Device.{Device}
use Rattle.demands.specs.Calls.{Call, Machine, step}
use Rattle.demands.specs.Demand1.{Demand1}
use Rattle.demands.specs.Demand2.{Demand2}
use Rattle.demands.specs.Demand3.{Demand3}

abbrev pub Settled : ℕ → Type 0
Settled n = (machine : Machine) → Demand1 n machine → Demand2 n machine → (d : Device) (call : Call)
    → machine d call ≡ step n d call

-- and so it meets the third, which is about no more than what is left
abbrev pub ThirdFollows : ℕ → Type 0
ThirdFollows n = (machine : Machine) → Demand1 n machine → Demand2 n machine → Demand3 n machine
