-- Lent buffers: what a test of their lengths tells, and the two outcomes of a routine.
-- Assumes nothing.
use mathlib.Core.Path.{◌≡◌, refl}
use mathlib.Core.Bool.{Bool, true, false}
use mathlib.Core.List.{List}
use mathlib.Core.Logic.{◌⊎◌, inl, inr}
use Prim.Native.Nat.{ℕ, ◌*◌, ◌≤◌}
use borrow.Author.Tests.{eqb-true, leb-true}
use lib.Dec.{eqb, leb}
use Rattle.laws.proofs.Test.{both}
use Rattle.basics.specs.Answers.{no_error, general_error}
use Rattle.modes.specs.Answer.{outcome, cmac_lengths}
use Rattle.modes.specs.Cmac.{block_count}

-- ---- the tests
pub cmac_facts : (key bits message output : ℕ) → cmac_lengths key bits message output ≡ true
    → (key ≡ 16) × (bits ≤ 524288) × (message ≡ 16 * block_count bits) × (output ≡ 16)
unfolding cmac_lengths
cmac_facts key bits message output h =
    let a = both (eqb key 16) _ h in
    let b = both (leb bits 524288) _ a.1 in
    let c = both (eqb message (16 * block_count bits)) (eqb output 16) b.1 in
    (eqb-true _ _ a.0, leb-true _ _ b.0, eqb-true _ _ c.0, eqb-true _ _ c.1)

-- ---- the two outcomes
pub answer_refused : (right : Bool) (result before : List ℕ) → right ≡ false → general_error ≡ (outcome right result before).answer
unfolding outcome
answer_refused right result before e = rw e

pub output_refused : (right : Bool) (result before : List ℕ) → right ≡ false → before ≡ (outcome right result before).output
unfolding outcome
output_refused right result before e = rw e

pub answer_done : (right : Bool) (result before : List ℕ) → right ≡ true → no_error ≡ (outcome right result before).answer
unfolding outcome
answer_done right result before e = rw e

pub output_done : (right : Bool) (after result before : List ℕ) → right ≡ true → after ≡ result
    → after ≡ (outcome right result before).output
unfolding outcome
output_done right after result before e h = rw e h

-- the output of one that is done
pub succeeded : (right : Bool) (result before : List ℕ) → right ≡ true → (outcome right result before).output ≡ result
unfolding outcome
succeeded right result before e = rw e

-- there is no third: an answer is 0, or it is 12 and the output is as it was
pub answered : (right : Bool) (result before : List ℕ)
    → ((outcome right result before).answer ≡ no_error)
    ⊎ (((outcome right result before).answer ≡ general_error) × ((outcome right result before).output ≡ before))
unfolding outcome
answered true result before = inl refl
answered false result before = inr (refl, refl)
