-- `message::build_m3` meets its contract, from those of what it calls.
-- Assumes nothing.
use mathlib.Core.List.{◌++◌}
use mathlib.Core.Path.{refl}
use lib.ListN.{length-append}
use borrow.Author.Rules.{rules}
use Rattle.aes.specs.Cipher.{cipher}
use Rattle.message.proofs.Calls.{signs}
use Rattle.message.specs.Messages.{m3}
use Rattle.message.proofs.build_m3.Goals as goal

pub returns : goal.returns
unfolding m3
returns c = let a = c.args in
    let signed = signs (cipher c.derive-k2.result) (a.first ++ a.second) 48 (search (rules, length-append)) refl in
    cc
