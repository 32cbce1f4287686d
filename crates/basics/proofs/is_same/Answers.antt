-- `basics::is_same` meets its contract: what is folded says whether the bytes so far agree.
-- Assumes nothing.
use borrow.Author.Rules.{rules}
use mathlib.Core.Bool.{true}
use mathlib.Core.Path.{◌∙◌}
use Rattle.std.proofs.lemmas.Iterator.{YieldsList-from_slice, YieldsList-from_zip}
use Rattle.std.proofs.lemmas.Iterator.Consumers.{fold_from_yields_List}
use Rattle.laws.proofs.Same.{same_length}
use Rattle.basics.proofs.Agree.{agree, agreed}
use Rattle.basics.proofs.is_same.Goals as goal

pub returns-then-a-b : goal.returns-then-a-b
returns-then-a-b c = same_length _ _ c.if-a-b.true

pub returns : goal.returns
returns c = let a = c.args.a.now in
    let b = c.args.b.now in
    fold_from_yields_List _ agree true c.fold.result c.fold.ensures.ran
    (YieldsList-from_zip (YieldsList-from_slice a (search rules)) (YieldsList-from_slice b (search rules)))
    (λ so pair after q called. search rules)
    ∙ agreed a b c.if-a-b.false
