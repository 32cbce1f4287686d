-- `aes::move_rows` meets its contract: the closure gives the bytes that the places come from.
-- Assumes nothing.
use borrow.Author.Rules.{rules}
use Rattle.laws.proofs.Made.{made}
use Rattle.aes.specs.Steps.{move_rows}
use Rattle.aes.proofs.move_rows.Goals as goal

pub returns : goal.returns
unfolding move_rows
returns c = made _ _ _ _ (λ i y q below called. search rules) _ c.from_fn.ensures.items
