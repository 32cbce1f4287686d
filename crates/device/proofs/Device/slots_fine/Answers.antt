-- `device::Device::slots_fine` meets its contract.
-- Assumes nothing.
use mathlib.Core.Path.{◌∙◌}
use Prim.Native.Nat.{ℕ}
use native.Mathlib.Omega.{arith}
use borrow.Author.Rules.{rules}
use borrow.Author.Tests.{tests}
use Rattle.std.proofs.lemmas.Iterator.{YieldsList-from_range}
use Rattle.std.proofs.lemmas.Iterator.Search.{all_from_yields_List}
use Rattle.laws.proofs.AllOf.{all_in_range}
use Rattle.device.specs.Made.{slot_fine, slots_fine}
use Rattle.device.specs.Record.{slot_at}
use Rattle.device.proofs.Device.slots_fine.Goals as goal

pub returns-clause-value : goal.returns-clause-value
unfolding slots_fine
returns-clause-value c =
    let fine = λ (number : ℕ). slot_fine number (slot_at c.args.self number) in
    all_from_yields_List fine _ _ _ c.all.ensures.ran (YieldsList-from_range 0 15 15 (search rules) (omega arith)) (λ x b q k. search (rules, tests))
    ∙ all_in_range fine 15
