-- `aes::add_round_key` meets its contract: the closure gives the sums of the state and the round's key.
-- Assumes nothing.
use borrow.Author.Rules.{rules}
use Rattle.laws.proofs.Made.{made}
use Rattle.laws.specs.Xor.{◌xor◌}
use Rattle.aes.specs.Steps.{add_round_key}
use Rattle.aes.proofs.add_round_key.Goals as goal

pub returns : goal.returns
unfolding add_round_key ◌xor◌
returns c = made _ _ _ _ (λ i y q below called. search rules) _ c.from_fn.ensures.items
