-- `message::filler_is_zero` meets its contract, from that of what it calls.
-- Assumes nothing.
use mathlib.Core.Bool.{Bool, ◌&&◌}
use mathlib.Core.List.{List}
use mathlib.Core.Path.{ap, ◌∙◌}
use Prim.Native.Nat.{ℕ}
use native.Mathlib.Omega.{arith}
use mir.Syntax.{w8}
use mir.Val.{Fits}
use lib.Bits.{bit_and}
use lib.Dec.{eqb}
use lib.ListN.{drop, replicate, length-drop}
use lib.Seq.{take_all}
use borrow.Author.Rules.{rules}
use Rattle.aes.specs.State.{byte}
use Rattle.laws.specs.Same.{same}
use Rattle.message.proofs.FiveFlags.{filler_by_bytes}
use Rattle.message.proofs.filler_is_zero.Goals as goal

pub returns : goal.returns
returns c = let block : List ℕ = c.args.block in
    let small : (k : ℕ) → Fits w8 (byte block k) = λ k. search rules in
    let rest = take_all 11 (drop 5 block) (omega (arith, length-drop 5 block)) in
    ap (λ (t : Bool). eqb (bit_and (byte block 4) 127) 0 && t) (c.is_same-rest.ensures ∙ ap (λ (l : List ℕ). same l (replicate 11 0)) rest)
    ∙ filler_by_bytes block (search rules) (λ k. (small k).fits)
