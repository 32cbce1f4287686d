-- `message::open` meets its contract, from the lengths and from those of what it calls.
-- Assumes nothing.
use mathlib.Core.Bool.{true}
use mathlib.Core.Path.{◌≡◌, refl, sym, ap, ◌∙◌}
use lib.ListN.{replicate}
use borrow.Author.Rules.{rules}
use Rattle.laws.specs.Same.{same}
use Rattle.modes.specs.Blocks.{zero_block}
use Rattle.message.proofs.Calls.{decrypts, not_refused}
use Rattle.message.proofs.Opening.{opened_by_m3}
use Rattle.message.specs.Flags.{flag_count}
use Rattle.message.specs.Messages.{m3}
use Rattle.message.specs.Opening.{clear_text, opened_text}
use Rattle.message.proofs.open.Goals as goal

pub returns-clause-value : goal.returns-clause-value
unfolding clear_text
returns-clause-value c = let a = c.args in
    let authkey : c.unwrap-authkey.result ≡ a.authkey.now = search rules in
    let first : c.unwrap.result ≡ a.m1.now = search rules in
    let second : c.unwrap-2.result ≡ a.m2.now = search rules in
    let right : same a.m3.now (m3 a.authkey.now a.m1.now a.m2.now) ≡ true = cc in
    let deciphered = decrypts c.derive-k1.result (replicate 32 0) c.cbc_decrypt.new.output (search rules) zero_block a.m2.now refl (c.open_lengths.ensures.each c.if-not-open_lengths.false).2 refl c.cbc_decrypt.ensures.output_after in
    let text : c.cbc_decrypt.new.output ≡ clear_text a.authkey.now a.m2.now = cc in
    c.read_clear.ensures.value ∙ ap (opened_text flag_count) text
    ∙ opened_by_m3 flag_count a.authkey.now a.m1.now a.m2.now a.m3.now (sym c.open_lengths.ensures.value ∙ c.if-not-open_lengths.false) right

pub unwrap-requires-3 : goal.unwrap-requires-3
unwrap-requires-3 c =
    not_refused c.derive-k1.result zero_block c.args.m2.now (replicate 32 0) _ _ (search rules) refl (c.open_lengths.ensures.each c.if-not-open_lengths.false).2 refl
    c.cbc_decrypt.ensures.value
