-- `aes::add_words` meets its contract: the closure gives the sums, byte by byte.
-- Assumes nothing.
use borrow.Author.Rules.{rules}
use Rattle.laws.proofs.Made.{made}
use Rattle.laws.specs.Tabulate.{tabulate}
use Rattle.laws.specs.Xor.{◌xor◌}
use Rattle.aes.specs.State.{byte}
use Rattle.aes.proofs.add_words.Goals as goal

pub returns : goal.returns
unfolding tabulate ◌xor◌
returns c = made _ _ (λ k. byte c.args.a k xor byte c.args.b k) 4 (λ i y q below called. search rules) _ c.from_fn.ensures.items
