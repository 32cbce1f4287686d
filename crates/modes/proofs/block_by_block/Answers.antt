-- `modes::block_by_block` meets its contract, by turns what each step gives.
-- Assumes nothing.
use mathlib.Core.Path.{refl}
use native.Mathlib.Omega.{arith}
use Rattle.modes.proofs.Runs.{runs}
use Rattle.modes.specs.Answer.{cbc_lengths}
use Rattle.modes.proofs.block_by_block.Goals as goal

pub loop-i-preserved : goal.loop-i-preserved
unfolding cbc_lengths
loop-i-preserved g c = λ out next follows.
    let before = c.loop-i.invariant out next follows in
    let given = follows _ _ _ (_, refl, c.step.ensures) in
    grind (arith, runs)

pub returns : goal.returns
unfolding cbc_lengths
returns g c = record {
  refused = λ wrong. grind arith;
  done = λ right. (
    refl,
    λ out next follows.
        let whole = c.loop-i.invariant out next (λ carried x r given. follows carried x r (given.0, grind arith, given.2)) in
        grind (arith, runs),
  );
}
