-- `modes::add` meets its contract: the closure gives the sums, byte by byte.
-- Assumes nothing.
use borrow.Author.Rules.{rules}
use Rattle.laws.proofs.Made.{made}
use Rattle.laws.specs.Xor.{◌xor◌}
use Rattle.modes.specs.Blocks.{◌⊕◌}
use Rattle.modes.proofs.add.Goals as goal

pub returns : goal.returns
unfolding ◌⊕◌ ◌xor◌
returns c = made _ _ _ _ (search rules) _ c.from_fn.ensures.items
