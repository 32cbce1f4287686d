-- The two outcomes of a call, from the answer that it found: refused, and done; and the checks that all calls begin with.
-- `is_refused` and `is_done`, of any account, close the proof of every command.
-- Assumes nothing.
use mathlib.Core.Path.{◌≡◌, refl, sym, ap, ap₂, ◌∙◌, subst}
use mathlib.Core.Bool.{Bool, true, false, not, cond}
use mathlib.Core.List.{List, []}
use Prim.Native.Nat.{ℕ}
use native.Mathlib.Omega.{arith}
use borrow.Author.Tests.{eq-eqb, ne_eqb, eqb-true, eqb-false, not-false}
use lib.Dec.{eqb}
use Rattle.basics.specs.Answers.{no_error, general_error, number_of, first_fault}
use Rattle.basics.specs.declared.Refusal.{Refusal}
use Rattle.basics.proofs.Faults.{no_fault, two_refuse, two_pass}
use Rattle.device.specs.Account.{Account, answer_by, answer_to, success, perform}
use Rattle.device.specs.Made.{made}
use Rattle.device.specs.Outcome.{Outcome, refused, by_answer}
use Rattle.device.specs.declared.Device.{Device}

-- ---- by the answer
module _ (found answer : ℕ) (done : Outcome) (refusal : ℕ → Outcome) (e : found ≡ answer) where
  pub where_refused : (found ≡ 0 → ⊥) → refusal found ≡ by_answer answer done (refusal answer)
  unfolding by_answer
  where_refused h = ap refusal e ∙ sym (ap (λ (b : Bool). cond b done (refusal answer)) (ne_eqb answer 0 (λ z. h (e ∙ z))))

  pub where_done : found ≡ 0 → done ≡ by_answer answer done (refusal answer)
  unfolding by_answer
  where_done h = sym (ap (λ (b : Bool). cond b done (refusal answer)) (eq-eqb answer 0 (sym e ∙ h)))

-- the answer is the one that was found, where both ways say so
pub same_answer : (answer : ℕ) (done refusal : Outcome) → done.answer ≡ 0 → refusal.answer ≡ answer
    → (by_answer answer done refusal).answer ≡ answer
unfolding by_answer
same_answer answer done refusal zero other = tests (eqb answer 0) refl
  where
    tests : (b : Bool) → eqb answer 0 ≡ b → (cond b done refusal).answer ≡ answer
    tests true e = zero ∙ sym (eqb-true answer 0 e)
    tests false e = other

-- ---- a call
module _ (call : Account) (d : Device) where
  pub answer_is : (perform call d).answer ≡ answer_to call d
  unfolding perform
  answer_is =
      same_answer (answer_to call d) (success call d) (refused (answer_to call d) (call.refusal (answer_to call d) d) call.lent) refl refl

  abbrev refusal : ℕ → Outcome
  refusal answer = refused answer (call.refusal answer d) call.lent

  module _ (found : ℕ) (e : found ≡ answer_to call d) where
    pub is_refused : (found ≡ 0 → ⊥) → refused found (call.refusal found d) call.lent ≡ perform call d
    unfolding perform
    is_refused h = where_refused found (answer_to call d) (success call d) refusal e h

    pub is_done : found ≡ 0 → success call d ≡ perform call d
    unfolding perform
    is_done h = where_done found (answer_to call d) (success call d) refusal e h

  -- what holds of what a refusal leaves, and of the device after a success, holds of the device after the call
  pub either_way : (P : Device → Type 0) → ((answer_to call d ≡ 0 → ⊥) → P (call.refusal (answer_to call d) d))
      → (answer_to call d ≡ 0 → P (call.does d).0) → P (perform call d).device
  either_way P stays changes = tests (eqb (answer_to call d) 0) refl
    where
      tests : (b : Bool) → eqb (answer_to call d) 0 ≡ b → P (perform call d).device
      tests true e =
          let zero = eqb-true (answer_to call d) 0 e in
          subst (λ (o : Outcome). P o.device) (is_done (answer_to call d) refl zero) (changes zero)
      tests false e =
          let other = eqb-false (answer_to call d) 0 e in
          subst (λ (o : Outcome). P o.device) (is_refused (answer_to call d) refl other) (stays other)

-- ---- the first two checks of every call: made, and lengths
module _ (d : Device) (lengths : Bool) (own : List (Bool × ℕ)) where
  first_two : (m l : Bool) → made d ≡ m → lengths ≡ l
      → answer_by d lengths own ≡ cond (not m) general_error (cond (not l) general_error (first_fault own))
  unfolding answer_by
  first_two m l e h = ap₂ (λ (x y : Bool). cond (not x) general_error (cond (not y) general_error (first_fault own))) e h

  pub not_made : made d ≡ false → answer_by d lengths own ≡ general_error
  not_made unmade = first_two false lengths unmade refl

  pub not_long : lengths ≡ false → answer_by d lengths own ≡ general_error
  not_long wrong = first_two (made d) false refl wrong ∙ either_way_12 (made d)
    where
      either_way_12 : (m : Bool) → cond (not m) general_error general_error ≡ general_error
      either_way_12 true = refl
      either_way_12 false = refl

  pub then_own : made d ≡ true → lengths ≡ true → answer_by d lengths own ≡ first_fault own
  then_own is_made long = first_two true true is_made long

  pub made_and_long : answer_by d lengths own ≡ 0 → (made d ≡ true) × (lengths ≡ true) × (first_fault own ≡ 0)
  made_and_long e =
      let one = no_fault (not (made d)) general_error _ (λ z. omega arith) (sym (first_two (made d) lengths refl refl) ∙ e) in
      let two = no_fault (not lengths) general_error (first_fault own) (λ z. omega arith) one.1 in
      (not-false (made d) one.0, not-false lengths two.0, two.1)

-- ---- those two made by themselves, before the call's own
module _ (d : Device) (lengths : Bool) (own : List (Bool × ℕ)) where
  -- what they refuse, the call refuses
  pub refused_first : (refusal : Refusal) → number_of refusal ≡ answer_by d lengths [] → number_of refusal ≡ answer_by d lengths own
  unfolding answer_by
  refused_first = two_refuse (made d) lengths (first_fault own)

  -- and where they find no fault, the call's own checks decide
  pub own_decides : no_error ≡ answer_by d lengths [] → answer_by d lengths own ≡ first_fault own
  unfolding answer_by
  own_decides e = let passed = two_pass (made d) lengths e in then_own d lengths own passed.0 passed.1

-- what proofs of calls use that begin so
pub ruleset first_checks = (refused_first, own_decides)
