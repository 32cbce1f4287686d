-- `aes::sub_bytes` meets its contract: the closure gives the table's entries for the bytes of the state.
-- Assumes nothing.
use mathlib.Core.Path.{◌∙◌}
use Prim.Native.Nat.{ℕ}
use borrow.Author.Rules.{rules}
use Rattle.laws.proofs.Made.{made}
use Rattle.aes.proofs.Rounds.{by_table}
use Rattle.aes.specs.State.{byte}
use mir.Syntax.{w8}
use mir.Val.{Fits}
use Rattle.aes.proofs.sub_bytes.Goals as goal

pub returns : goal.returns
returns c = λ f whole.
    let a = c.args in
    let small : (k : ℕ) → Fits w8 (byte a.s k) = λ k. search rules in
    made _ _ _ _ (λ i y q below called. search rules) _ c.from_fn.ensures.items ∙ by_table f a.boxes.now a.s whole (λ k. (small k).fits)
