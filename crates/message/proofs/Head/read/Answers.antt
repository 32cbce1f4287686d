-- `message::Head::read` meets its contract: the shift reads the counter, of 28 bits; shifts and a mask read the flags.
-- Assumes nothing.
use Prim.Native.Nat.{ℕ}
use mir.Syntax.{w8}
use mir.Val.{Fits}
use borrow.Author.Rules.{rules}
use Rattle.aes.specs.State.{byte}
use Rattle.message.proofs.FiveFlags.{counter_by_shift, flags_by_shifts}
use Rattle.message.proofs.Head.read.Goals as goal

pub returns-clause-counter : goal.returns-clause-counter
returns-clause-counter c = let small : (k : ℕ) → Fits w8 (byte c.args.block k) = λ k. search rules in
    rw c.from_be_bytes.ensures (counter_by_shift c.args.block (search rules) (λ k. (small k).fits))

pub returns-clause-flags : goal.returns-clause-flags
returns-clause-flags c = let small : (k : ℕ) → Fits w8 (byte c.args.block k) = λ k. search rules in
    flags_by_shifts c.args.block (search rules) (λ k. (small k).fits)
