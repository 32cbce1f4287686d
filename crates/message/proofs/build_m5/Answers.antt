-- `message::build_m5` meets its contract, from those of what it calls.
-- Assumes nothing.
use mathlib.Core.Path.{◌≡◌, refl}
use lib.ListN.{take}
use borrow.Author.Rules.{rules}
use Rattle.aes.specs.Cipher.{cipher}
use Rattle.message.proofs.Calls.{signs}
use Rattle.message.specs.Messages.{m5}
use Rattle.message.proofs.build_m5.Goals as goal

pub returns : goal.returns
unfolding m5
returns c = let signed = signs (cipher c.derive-k4.result) c.args.fourth 32 (search rules) refl in
    let head : c.unwrap.result ≡ take 16 c.args.fourth = search rules in
    cc (c.split_at.ensures.by_index.0)
