-- What a command promises settles what it leaves: two outcomes that meet it are equal, part by part.
-- Assumes nothing.
use mathlib.Core.Path.{◌≡◌, ap}
use mathlib.Core.List.{List, []}
use Prim.Native.Nat.{ℕ}
use lib.ListN.{get_or}
use Rattle.laws.proofs.Settled.{settled}
use Rattle.device.specs.Outcome.{Outcome, outcome}
use Rattle.device.specs.declared.Device.{Device}

-- the answer, the device, the verdict or status, and each buffer that was lent, by its number
pub outcome_settled : (promised : Outcome) {a a' v v' : ℕ} {d d' : Device} {out out' : List (List ℕ)} → outcome a d v out ≡ promised
    → outcome a' d' v' out' ≡ promised → (a ≡ a') × (d ≡ d') × (v ≡ v') × ((k : ℕ) → get_or out k [] ≡ get_or out' k [])
outcome_settled promised one other =
    let same = settled one other in (
      ap (λ (o : Outcome). o.answer) same,
      ap (λ (o : Outcome). o.device) same,
      ap (λ (o : Outcome). o.value) same,
      λ k. ap (λ (o : Outcome). get_or o.buffers k []) same,
    )
