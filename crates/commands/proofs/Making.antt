-- Making: what an answer of 0 tells, when it is 0, and what is handed out.
-- Assumes nothing.
use mathlib.Core.Path.{◌≡◌, refl, sym, ◌∙◌}
use mathlib.Core.Bool.{Bool, true, false, not, cond}
use mathlib.Core.List.{List, [], ◌∷◌}
use Prim.Native.Nat.{ℕ}
use native.Mathlib.Omega.{arith}
use borrow.Author.Tests.{not-false}
use lib.ListN.{length}
use Rattle.laws.specs.Lengths.{right_lengths}
use Rattle.laws.specs.Same.{same}
use Rattle.laws.proofs.Lengths.{each_right}
use Rattle.laws.proofs.Same.{equal_same}
use Rattle.aes.specs.State.{Bytes}
use Rattle.basics.specs.Answers.{no_error, general_error}
use Rattle.basics.proofs.Faults.{no_fault}
use Rattle.basics.specs.Bytes.{zero_uid}
use Rattle.device.specs.Made.{blank, fresh, Sound}
use Rattle.device.specs.Outcome.{refused, done}
use Rattle.device.proofs.Made.{fresh_sound}
use Rattle.device.proofs.Account.{where_refused, where_done, same_answer}
use Rattle.commands.specs.Commands.{make_answer, make}

module _ (uid secret seed : List ℕ) where
  abbrev lengths : Bool
  lengths = right_lengths ((length uid, 15) ∷ (length secret, 16) ∷ (length seed, 16) ∷ [])

  answer_is : (make uid secret seed).answer ≡ make_answer uid (length secret) (length seed)
  unfolding make
  answer_is =
      let answer = make_answer uid (length secret) (length seed) in
      same_answer answer (done (fresh uid secret seed) 0 []) (refused answer blank []) refl refl

  pub make_passed : (make uid secret seed).answer ≡ no_error → (lengths ≡ true) × (same uid zero_uid ≡ false)
  unfolding make_answer
  make_passed zero =
      let one = no_fault (not lengths) general_error _ (λ z. omega arith) (sym answer_is ∙ zero) in
      (not-false lengths one.0, (no_fault (same uid zero_uid) general_error no_error (λ z. omega arith) one.1).0)

  pub make_passes : length uid ≡ 15 → length secret ≡ 16 → length seed ≡ 16 → (uid ≡ zero_uid → ⊥) → (make uid secret seed).answer ≡ no_error
  unfolding make_answer right_lengths
  make_passes hu hk hs other = answer_is ∙ rw (hu, hk, hs, differs (same uid zero_uid) refl) refl
    where
      differs : (b : Bool) → same uid zero_uid ≡ b → b ≡ false
      differs true e = absurd (other (equal_same uid zero_uid e))
      differs false e = refl

  pub make_refused : ((make uid secret seed).answer ≡ no_error → ⊥) → make uid secret seed ≡ refused general_error blank []
  unfolding make make_answer
  make_refused fault =
      let twelve = either_fault (not lengths) (same uid zero_uid) (λ zero. fault (answer_is ∙ zero)) in
      sym (where_refused general_error (make_answer uid (length secret) (length seed)) (done (fresh uid secret seed) 0 [])
      (λ answer. refused answer blank []) (sym twelve) (λ z. omega arith))
    where
      either_fault : (a b : Bool) → (cond a general_error (cond b general_error no_error) ≡ 0 → ⊥)
          → cond a general_error (cond b general_error no_error) ≡ general_error
      either_fault true b h = refl
      either_fault false true h = refl
      either_fault false false h = absurd (h refl)

  pub make_done : (make uid secret seed).answer ≡ no_error → make uid secret seed ≡ done (fresh uid secret seed) 0 []
  unfolding make
  make_done zero =
      let answer = make_answer uid (length secret) (length seed) in
      sym (where_done answer answer (done (fresh uid secret seed) 0 []) (λ answer. refused answer blank []) refl (sym answer_is ∙ zero))

  pub make_sound : Bytes secret → (make uid secret seed).answer ≡ no_error → Sound (fresh uid secret seed)
  make_sound small zero =
      let passed = make_passed zero in
      let long = each_right _ passed.0 in
      fresh_sound uid seed (long 0) secret (record { long = long 1; small = small }) passed.1
