-- `aes::sub_rotated` meets its contract: each entry that the closure reads is the S-box's.
-- Assumes nothing.
use mathlib.Core.List.{[], ◌∷◌}
use mathlib.Core.Path.{◌≡◌, refl, ◌∙◌}
use Prim.Native.Nat.{ℕ, ◌+◌, ◌%◌}
use borrow.Author.Rules.{rules}
use Rattle.laws.proofs.Made.{made}
use Rattle.laws.specs.Tabulate.{tabulate}
use Rattle.field.proofs.Laws.{looked_up}
use Rattle.field.specs.Sbox.{sbox}
use Rattle.aes.specs.State.{byte}
use mir.Syntax.{w8}
use mir.Val.{Fits}
use Rattle.aes.proofs.sub_rotated.Goals as goal

pub returns : goal.returns
unfolding tabulate
returns c = let a = c.args in
    let small : (k : ℕ) → Fits w8 (byte a.a k) = λ k. search rules in
    let entry : (k : ℕ) → byte c.sbox_table-boxes.result.now (byte a.a k) ≡ sbox (byte a.a k) = λ k. looked_up sbox c.sbox_table-boxes.result.now (byte a.a k) _ c.sbox_table-boxes.ensures (small k).fits refl in
    made _ _ (λ j. byte c.sbox_table-boxes.result.now (byte a.a ((j + 1) % 4))) 4 (λ i y q below called. search rules) c.from_fn.result c.from_fn.ensures.items
    ∙ (λ i. entry 1 i ∷ entry 2 i ∷ entry 3 i ∷ entry 0 i ∷ [])
