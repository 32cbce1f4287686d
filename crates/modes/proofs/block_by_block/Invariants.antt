use mathlib.Core.List.{List}
use mathlib.Core.Path.{◌≡◌}
use Prim.Native.Nat.{ℕ}
use Rattle.std.proofs.Common.{Bor}
use Rattle.modes.proofs.Runs.{Runs}
use Rattle.modes.proofs.block_by_block.Given as goal

abbrev pub invariant-loop-i : goal.invariant-loop-i
invariant-loop-i g l =
    Runs (λ c x r. (p : Bor (List ℕ)) × (p.now ≡ l.w) × goal.F-post g l.step p c x r) l.whole l.initial.carried l.carried l.output l.i
