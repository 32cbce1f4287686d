-- The first fault of a list of checks: where there is none, where it lies in a front part, and which numbers it can be.
-- `no_fault` takes an answer of 0 apart row by row; `found_first` says that what a front part of a table finds is the answer.
-- A function that answers is proved check by check, each way out by the tests before it.
-- Assumes nothing.
use mathlib.Core.Path.{◌≡◌, refl, sym, ap, ◌∙◌}
use mathlib.Core.Bool.{Bool, true, false, not, cond, ◌&&◌}
use mathlib.Core.List.{List, [], ◌∷◌, ◌++◌}
use Prim.Native.Nat.{ℕ}
use lib.Dec.{eqb}
use Rattle.laws.specs.Among.{Among, is_among}
use Rattle.laws.proofs.Among.{tested_among}
use Rattle.laws.proofs.Test.{both}
use native.Mathlib.Omega.{arith}
use Rattle.std.specs.Prelude.{Result, Ok, Err}
use Rattle.std.specs.Result.{IsOk, result_unwrap_or}
use Rattle.basics.specs.Answers.{no_error, general_error, number_of, answer_of, first_fault}
use Rattle.basics.specs.declared.Refusal.{Refusal}
use Rattle.basics.specs.declared.Refusal.TheVariants.{SequenceError, KeyNotAvailable, KeyInvalid, KeyEmpty, NoSecureBoot, KeyWriteProtected, KeyUpdateError, RngSeed, GeneralError}

-- a check that answers no 0 has found no fault, and neither has any after it
pub no_fault : (fault : Bool) (number rest : ℕ) → (number ≡ 0 → ⊥) → cond fault number rest ≡ 0 → (fault ≡ false) × (rest ≡ 0)
no_fault true number rest other e = absurd (other e)
no_fault false number rest other e = (refl, e)

-- no refusal has the number 0
pub never_zero : (refusal : Refusal) → number_of refusal ≡ 0 → ⊥
never_zero SequenceError e = omega arith
never_zero KeyNotAvailable e = omega arith
never_zero KeyInvalid e = omega arith
never_zero KeyEmpty e = omega arith
never_zero NoSecureBoot e = omega arith
never_zero KeyWriteProtected e = omega arith
never_zero KeyUpdateError e = omega arith
never_zero RngSeed e = omega arith
never_zero GeneralError e = omega arith

-- so a reply whose number is 0 is no refusal
pub done_ok : {A : Type 0} (reply : Result A Refusal) → answer_of reply ≡ no_error → IsOk reply
done_ok (Ok x) e = refl
done_ok (Err refusal) e = absurd (never_zero refusal e)

-- a refusal is told by its number
abbrev refusal_of : ℕ → Refusal
refusal_of n =
    cond (eqb n 1) SequenceError
    (cond (eqb n 2) KeyNotAvailable
    (cond (eqb n 3) KeyInvalid
    (cond (eqb n 4) KeyEmpty
    (cond (eqb n 5) NoSecureBoot
    (cond (eqb n 6) KeyWriteProtected
    (cond (eqb n 7) KeyUpdateError
    (cond (eqb n 8) RngSeed GeneralError)))))))

told : (r : Refusal) → refusal_of (number_of r) ≡ r
told SequenceError = refl
told KeyNotAvailable = refl
told KeyInvalid = refl
told KeyEmpty = refl
told NoSecureBoot = refl
told KeyWriteProtected = refl
told KeyUpdateError = refl
told RngSeed = refl
told GeneralError = refl

-- so no two refusals have one number
pub by_number : (r r' : Refusal) → number_of r ≡ number_of r' → r ≡ r'
by_number r r' e = sym (told r) ∙ ap refusal_of e ∙ told r'

-- a reply is told by its number and by what it leaves in the place of what was there
pub same_reply : {A : Type 0} (kept : A) (r r' : Result A Refusal) → answer_of r ≡ answer_of r' → result_unwrap_or r kept ≡ result_unwrap_or r' kept → r ≡ r'
same_reply kept (Ok x) (Ok y) answer same = ap Ok same
same_reply kept (Ok x) (Err y) answer same = absurd (never_zero y (sym answer))
same_reply kept (Err x) (Ok y) answer same = absurd (never_zero x answer)
same_reply kept (Err x) (Err y) answer same = ap Err (by_number x y answer)

-- the two checks that every call of a record makes first, with the rest after them: what they refuse is refused, and what they let
-- through has passed both
abbrev pub first_two : Bool → Bool → ℕ → ℕ
first_two a b rest = cond (not a) general_error (cond (not b) general_error rest)

pub two_refuse : (a b : Bool) (rest : ℕ) (refusal : Refusal) → number_of refusal ≡ first_two a b no_error → number_of refusal ≡ first_two a b rest
two_refuse true true rest refusal e = absurd (never_zero refusal e)
two_refuse true false rest refusal e = e
two_refuse false b rest refusal e = e

pub two_pass : (a b : Bool) → no_error ≡ first_two a b no_error → (a ≡ true) × (b ≡ true)
two_pass true true e = (refl, refl)
two_pass true false e = absurd (omega (arith, e))
two_pass false b e = absurd (omega (arith, e))

-- what the front part has found is the answer, whatever comes after it
found : (fault : Bool) (number more front : ℕ) → ((front ≡ 0 → ⊥) → more ≡ front) → (cond fault number front ≡ 0 → ⊥)
    → cond fault number more ≡ cond fault number front
found true number more front e h = refl
found false number more front e h = e h

pub found_first : (checks rest : List (Bool × ℕ)) → (first_fault checks ≡ 0 → ⊥) → first_fault (checks ++ rest) ≡ first_fault checks
found_first [] rest h = absurd (h refl)
found_first (check ∷ checks) rest h =
    found check.0 check.1 (first_fault (checks ++ rest)) (first_fault checks) (found_first checks rest) h

-- it is in a list where the number of every check is
abbrev pub all_among : List ℕ → List (Bool × ℕ) → Bool
all_among xs [] = true
all_among xs (check ∷ checks) = is_among check.1 xs && all_among xs checks

pub first_among : (xs : List ℕ) (checks : List (Bool × ℕ)) → Among no_error xs → all_among xs checks ≡ true → Among (first_fault checks) xs
first_among xs [] none h = none
first_among xs (check ∷ checks) none h =
    let parts = both (is_among check.1 xs) (all_among xs checks) h in
    tests check.0 check.1 (first_fault checks) (tested_among check.1 xs parts.0) (first_among xs checks none parts.1)
  where
    tests : (fault : Bool) (x y : ℕ) → Among x xs → Among y xs → Among (cond fault x y) xs
    tests true x y p q = p
    tests false x y p q = q
