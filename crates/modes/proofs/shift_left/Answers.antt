-- `modes::shift_left` meets its contract: the closure gives each byte shifted, with the highest bit of the next.
-- Assumes nothing.
use borrow.Author.Rules.{rules}
use Rattle.laws.proofs.Made.{made}
use Rattle.modes.specs.Cmac.{shift_left}
use Rattle.modes.proofs.Subkeys.{with_carry}
use Rattle.modes.proofs.shift_left.Goals as goal

pub returns : goal.returns
unfolding shift_left
returns c = made _ _ _ _ (search (rules, with_carry)) _ c.from_fn.ensures.items
