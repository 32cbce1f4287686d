-- `garage::Book::lines_fine` meets its contract.
-- Assumes nothing.
use mathlib.Core.Path.{◌∙◌}
use Prim.Native.Nat.{ℕ}
use native.Mathlib.Omega.{arith}
use borrow.Author.Rules.{rules}
use borrow.Author.Tests.{tests}
use Rattle.std.proofs.lemmas.Iterator.{YieldsList-from_range}
use Rattle.std.proofs.lemmas.Iterator.Search.{all_from_yields_List}
use Rattle.laws.proofs.AllOf.{all_in_range}
use Rattle.garage.specs.Book.{line_at}
use Rattle.garage.specs.Open.{line_fine, lines_fine}
use Rattle.garage.proofs.Book.lines_fine.Goals as goal

pub returns : goal.returns
unfolding lines_fine
returns c =
    let b = c.args.self.now in
    let fine = λ (slot : ℕ). line_fine b slot (line_at b slot) in
    all_from_yields_List fine _ _ _ c.all.ensures.ran (YieldsList-from_range 0 15 15 (search rules) (omega arith)) (λ x b q k. search (rules, tests))
    ∙ all_in_range fine 15
