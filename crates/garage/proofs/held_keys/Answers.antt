-- `garage::held_keys` meets its contract.
-- Assumes nothing.
use borrow.Author.Rules.{rules}
use Rattle.laws.proofs.Made.{made}
use Rattle.garage.specs.Open.{held_keys}
use Rattle.garage.proofs.held_keys.Goals as goal

pub returns : goal.returns
unfolding held_keys
returns c = made _ _ _ _ (λ i y q below called. search rules) _ c.from_fn.ensures.items
