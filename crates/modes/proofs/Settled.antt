-- The two equations that a routine on lent buffers promises settle what it leaves: two that meet them are equal.
-- Assumes nothing.
use mathlib.Core.Path.{◌≡◌}
use mathlib.Core.List.{List}
use Prim.Native.Nat.{ℕ}
use Rattle.laws.proofs.Settled.{settled}
use Rattle.modes.specs.Answer.{Outcome}

-- the answer, and the output
pub buffer_settled : (promised : Outcome) {r r' : ℕ} {out out' : List ℕ} → r ≡ promised.answer → out ≡ promised.output
    → r' ≡ promised.answer → out' ≡ promised.output → (r ≡ r') × (out ≡ out')
buffer_settled promised answer output answer' output' = (settled answer answer', settled output output')
