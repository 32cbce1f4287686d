-- LOAD_KEY's ten checks in two steps, as the code makes them.
-- Assumes nothing.
use mathlib.Core.Path.{◌≡◌, refl, sym}
use mathlib.Core.Bool.{Bool, true, false, not, ◌&&◌}
use mathlib.Core.List.{List, ◌∷◌}
use Prim.Native.Nat.{ℕ}
use native.Mathlib.Omega.{arith}
use borrow.Author.Tests.{not-false}
use lib.Dec.{eqb}
use Rattle.basics.specs.Answers.{general_error}
use Rattle.basics.proofs.Bytes.{uid_front}
use Rattle.basics.proofs.Faults.{no_fault, found_first, never_zero}
use Rattle.message.specs.Building.{uid_of, target_of, authority_of}
use Rattle.message.specs.Flags.{write}
use Rattle.message.specs.Slots.{allowed}
use Rattle.message.specs.Opening.{Opened, unopened}
use Rattle.device.specs.Account.{answer_by}
use Rattle.device.specs.Made.{made}
use Rattle.device.specs.Record.{is_empty, flags_at}
use Rattle.device.specs.Rules.{has_flag, locked}
use Rattle.device.specs.declared.Device.{Device}
use Rattle.device.proofs.Account.{made_and_long}
use Rattle.load.proofs.Writing.{proof_taken}
use Rattle.load.specs.Load.{pair_checks, opened_checks, opened_answer, load_checks}
use Rattle.load.specs.Rules.{is_for_us, counter_rises}

-- ---- what an answer of 0 tells
pub record Guarded (d : Device) (lengths : Bool) (t a : ℕ) : Type 0 where
  pub is_made : made d ≡ true
  pub lengths_right : lengths ≡ true
  pub pair : allowed t a ≡ true
  pub writable : has_flag (flags_at d t) write ≡ false
  pub present : (is_empty d a && not (eqb a t)) ≡ false
  pub unlocked : locked d a ≡ false

pub guarded : (d : Device) (lengths : Bool) (t a : ℕ) → answer_by d lengths (pair_checks d t a) ≡ 0 → Guarded d lengths t a
guarded d lengths t a e =
    let begun = made_and_long d lengths (pair_checks d t a) e in
    let three = no_fault (not (allowed t a)) 3 _ (λ z. omega arith) begun.2 in
    let four = no_fault (has_flag (flags_at d t) write) 6 _ (λ z. omega arith) three.1 in
    let five = no_fault (is_empty d a && not (eqb a t)) 4 _ (λ z. omega arith) four.1 in
    let six = no_fault (locked d a) 2 0 (λ z. omega arith) five.1 in
    record {
      is_made = begun.0;
      lengths_right = begun.1;
      pair = not-false (allowed t a) three.0;
      writable = four.0;
      present = five.0;
      unlocked = six.0;
    }

pub record Accepted (d : Device) (t : ℕ) (uid : List ℕ) (new : Opened) : Type 0 where
  pub genuine : new.genuine ≡ true
  pub for_us : is_for_us d t uid ≡ true
  pub zerofill : new.zerofill ≡ true
  pub rises : counter_rises d t new.counter ≡ true

pub accepted : (d : Device) (t : ℕ) (uid : List ℕ) (new : Opened) → opened_answer d t uid new ≡ 0 → Accepted d t uid new
unfolding opened_answer
accepted d t uid new e =
    let one = no_fault (not new.genuine) 7 _ (λ z. omega arith) e in
    let two = no_fault (not (is_for_us d t uid)) 7 _ (λ z. omega arith) one.1 in
    let three = no_fault (not new.zerofill) 7 _ (λ z. omega arith) two.1 in
    let four = no_fault (not (counter_rises d t new.counter)) 7 0 (λ z. omega arith) three.1 in
    record {
      genuine = not-false new.genuine one.0;
      for_us = not-false (is_for_us d t uid) two.0;
      zerofill = not-false new.zerofill three.0;
      rises = not-false (counter_rises d t new.counter) four.0;
    }

-- ---- the ten: the answer is that of the first six where they find fault, and that of the last four where not
module _ (d : Device) (lengths : Bool) (one : List ℕ) (new : Opened) where
  pub by_guards : (answer_by d lengths (pair_checks d (target_of one) (authority_of one)) ≡ 0 → ⊥) → answer_by d lengths (pair_checks d (target_of one) (authority_of one)) ≡ answer_by d lengths (load_checks d one new)
  unfolding answer_by
  by_guards h =
      sym (found_first ((not (made d), general_error) ∷ (not lengths, general_error) ∷ pair_checks d (target_of one) (authority_of one)) (opened_checks d (target_of one) (uid_of one) new) h)

  pub by_message : answer_by d lengths (pair_checks d (target_of one) (authority_of one)) ≡ 0 → opened_answer d (target_of one) (uid_of one) new ≡ answer_by d lengths (load_checks d one new)
  unfolding opened_answer answer_by
  by_message e =
      let g = guarded d lengths (target_of one) (authority_of one) e in
      simp (g.is_made, g.lengths_right, g.pair, g.writable, g.present, g.unlocked)

  -- the same, from the answer of all
  pub guards_decide : (answer_by d lengths (pair_checks d (target_of one) (authority_of one)) ≡ 0 → ⊥)
      → answer_by d lengths (load_checks d one new) ≡ answer_by d lengths (pair_checks d (target_of one) (authority_of one))
  guards_decide h = sym (by_guards h)

  pub message_decides : answer_by d lengths (pair_checks d (target_of one) (authority_of one)) ≡ 0
      → answer_by d lengths (load_checks d one new) ≡ opened_answer d (target_of one) (uid_of one) new
  message_decides e = sym (by_message e)

-- ---- a message that does not open is refused before what it would say is looked at
pub not_opened : (d : Device) (t : ℕ) (uid : List ℕ) → opened_answer d t uid unopened ≡ 7
unfolding opened_answer
not_opened d t uid = refl

pub ruleset loading = (guards_decide, message_decides, not_opened, uid_front, proof_taken, never_zero)
