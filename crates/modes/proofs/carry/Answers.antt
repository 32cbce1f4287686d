-- `modes::carry` meets its contract: the library's chunks are the blocks, and its fold goes from one to the next.
-- Assumes nothing.
use borrow.Author.Rules.{rules, of_calls}
use denote.Param.Members.{step_stays_lem}
use Rattle.std.proofs.lemmas.Iterator.{YieldsList-from_slice}
use Rattle.std.proofs.lemmas.Iterator.Consumers.{YieldsList-from_copied}
use Rattle.modes.proofs.Blocks.{chunks}
use Rattle.modes.proofs.Folds.{folds_to}
use Rattle.modes.proofs.carry.Goals as goal

pub returns : goal.returns
returns g c =
    folds_to _ _ _ _ c.fold.ensures.ran (YieldsList-from_copied (YieldsList-from_slice _ (search (rules, chunks))))
    (search (of_calls, step_stays_lem))
