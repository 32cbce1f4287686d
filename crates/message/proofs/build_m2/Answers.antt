-- `message::build_m2` meets its contract, from those of what it calls.
-- Assumes nothing.
use mathlib.Core.Path.{refl}
use lib.ListN.{replicate}
use borrow.Author.Rules.{rules}
use Rattle.modes.specs.Blocks.{zero_block}
use Rattle.message.proofs.Calls.{encrypts, not_refused}
use Rattle.message.specs.Messages.{m2}
use Rattle.message.proofs.build_m2.Goals as goal

pub returns : goal.returns
unfolding m2
returns c = let enciphered = encrypts c.derive-k1.result (replicate 32 0) c.cbc_encrypt.new.output (search rules) zero_block c.join-clear.result refl (search rules) refl c.cbc_encrypt.ensures.output_after in
    cc

pub unwrap-requires : goal.unwrap-requires
unwrap-requires c =
    not_refused c.derive-k1.result zero_block c.join-clear.result (replicate 32 0) _ _ (search rules) refl (search rules) refl c.cbc_encrypt.ensures.value
