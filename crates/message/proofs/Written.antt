-- The outcomes of the writer: what an answer of 0 tells, and what is left by a refusal and by a success.
-- Assumes nothing.
use mathlib.Core.Path.{◌≡◌, refl, sym, ap, ap₂, ◌∙◌}
use mathlib.Core.Bool.{Bool, true, false, not, cond}
use mathlib.Core.List.{List}
use mathlib.Core.Logic.{◌⊎◌, inl, inr}
use Prim.Native.Nat.{ℕ, ◌≤◌, ◌<◌}
use native.Mathlib.Omega.{arith}
use borrow.Author.Tests.{le-leb, leb-true, not-false}
use lib.Dec.{leb}
use lib.ListN.{length}
use Rattle.laws.specs.Lengths.{right_lengths}
use Rattle.laws.proofs.Test.{where_equal, where_other}
use Rattle.basics.specs.Answers.{no_error, general_error, key_invalid, written}
use Rattle.basics.proofs.Faults.{no_fault, never_zero}
use Rattle.message.specs.Flags.{flag_count}
use Rattle.message.proofs.FirstBlock.{one_bit}
use Rattle.message.proofs.Slots.{counter_below}
use Rattle.message.specs.FirstBlock.{max_counter}
use Rattle.message.specs.Messages.{m1, m2, m3, m4, m5}
use Rattle.message.specs.Slots.{counter_kept, allowed}
use Rattle.message.specs.Writer.{message_lengths, writer_answer, messages, full_form, proof_lengths, proof, proof_form}

-- ---- an answer of 0
pub no_faults : (lengths : Bool) (c f t a : ℕ) → writer_answer lengths c f t a ≡ 0
    → (lengths ≡ true) × (c ≤ max_counter) × (f < 32) × (allowed t a ≡ true)
unfolding writer_answer
no_faults lengths c f t a e =
    let one = no_fault (not lengths) 12 _ (λ z. omega arith) e in
    let two = no_fault (not (leb c max_counter)) 12 _ (λ z. omega arith) one.1 in
    let three = no_fault (not (leb f 31)) 12 _ (λ z. omega arith) two.1 in
    let four = no_fault (not (allowed t a)) 3 0 (λ z. omega arith) three.1 in
    let flags = leb-true f 31 (not-false _ three.0) in
    (not-false _ one.0, leb-true _ _ (not-false _ two.0), omega (arith, flags), not-false _ four.0)

pub faultless : (lengths : Bool) (c f t a : ℕ) → lengths ≡ true → c ≤ max_counter → f < 32 → allowed t a ≡ true → 0 ≡ writer_answer lengths c f t a
unfolding writer_answer
faultless lengths c f t a right counter flags pair =
    let few : f ≤ 31 = omega arith in
    simp (right, le-leb c max_counter counter, le-leb f 31 few, pair)

-- an answer is 0, 3 or 12
pub answers : (lengths : Bool) (c f t a : ℕ)
    → (writer_answer lengths c f t a ≡ no_error) ⊎ ((writer_answer lengths c f t a ≡ key_invalid) ⊎ (writer_answer lengths c f t a ≡ general_error))
unfolding writer_answer
answers lengths c f t a =
    either_way (not lengths) (inr (inr refl))
    (either_way (not (leb c max_counter)) (inr (inr refl))
    (either_way (not (leb f 31)) (inr (inr refl)) (either_way (not (allowed t a)) (inr (inl refl)) (inl refl))))
  where
    Numbers : ℕ → Type 0
    Numbers n = (n ≡ no_error) ⊎ ((n ≡ key_invalid) ⊎ (n ≡ general_error))

    either_way : {x y : ℕ} (b : Bool) → Numbers x → Numbers y → Numbers (cond b x y)
    either_way true p q = p
    either_way false p q = q

-- ---- a buffer
pub unwritten : (answer : ℕ) (result before : List ℕ) → (answer ≡ 0 → ⊥) → before ≡ written answer result before
unfolding written
unwritten answer result before h = where_other answer 0 result before h

pub is_written : (answer : ℕ) (result before : List ℕ) → answer ≡ 0 → result ≡ written answer result before
unfolding written
is_written answer result before h = where_equal answer 0 result before h

-- any answer but 0 leaves the buffers as they were
pub refusal_leaves : (uid auth_key key b1 b2 b3 : List ℕ) (t a c f : ℕ) → ((full_form uid t a auth_key c f key b1 b2 b3).answer ≡ 0 → ⊥)
    → ((full_form uid t a auth_key c f key b1 b2 b3).m1 ≡ b1) × ((full_form uid t a auth_key c f key b1 b2 b3).m2 ≡ b2)
    × ((full_form uid t a auth_key c f key b1 b2 b3).m3 ≡ b3)
unfolding full_form
refusal_leaves uid auth_key key b1 b2 b3 t a c f other = (sym (unwritten _ _ _ other), sym (unwritten _ _ _ other), sym (unwritten _ _ _ other))

pub proof_refusal_leaves : (uid key b4 b5 : List ℕ) (t a c : ℕ) → ((proof_form uid t a c key b4 b5).answer ≡ 0 → ⊥)
    → ((proof_form uid t a c key b4 b5).m4 ≡ b4) × ((proof_form uid t a c key b4 b5).m5 ≡ b5)
unfolding proof_form
proof_refusal_leaves uid key b4 b5 t a c other = (sym (unwritten _ _ _ other), sym (unwritten _ _ _ other))

-- ---- what is left, part by part
left : {n n' : ℕ} {a a' b b' c c' : List ℕ} → n ≡ n' → a ≡ a' → b ≡ b' → c ≡ c' → messages n a b c ≡ messages n' a' b' c'
left p q r s = cc

left_proof : {n n' : ℕ} {a a' b b' : List ℕ} → n ≡ n' → a ≡ a' → b ≡ b' → proof n a b ≡ proof n' a' b'
left_proof p q r = cc

-- ---- the full form
module _ (uid auth_key key b1 b2 b3 : List ℕ) (t a c f answer : ℕ)
    (e : answer ≡ writer_answer (right_lengths (message_lengths (length uid) (length auth_key) (length key) (length b1) (length b2) (length b3))) c f t a) where
  pub messages_refused : (answer ≡ 0 → ⊥) → messages answer b1 b2 b3 ≡ full_form uid t a auth_key c f key b1 b2 b3
  unfolding full_form
  messages_refused h =
      let other : writer_answer (right_lengths (message_lengths (length uid) (length auth_key) (length key) (length b1) (length b2) (length b3))) c f t a ≡ 0 → ⊥
      = λ z. h (e ∙ z) in
      left e (unwritten _ _ _ other) (unwritten _ _ _ other) (unwritten _ _ _ other)

  pub messages_written : (a1 a2 a3 : List ℕ) → answer ≡ 0 → a1 ≡ m1 uid t a → a2 ≡ m2 flag_count auth_key c f key → a3 ≡ m3 auth_key a1 a2
      → messages 0 a1 a2 a3 ≡ full_form uid t a auth_key c f key b1 b2 b3
  unfolding full_form
  messages_written a1 a2 a3 h e1 e2 e3 =
      let done = sym e ∙ h in
      left (sym done) (e1 ∙ is_written _ _ _ done) (e2 ∙ is_written _ _ _ done) (e3 ∙ ap₂ (m3 auth_key) e1 e2 ∙ is_written _ _ _ done)

-- ---- the device's proof
module _ (uid key b4 b5 : List ℕ) (t a c answer : ℕ)
    (e : answer ≡ writer_answer (right_lengths (proof_lengths (length uid) (length key) (length b4) (length b5))) c 0 t a) where
  pub proof_refused : (answer ≡ 0 → ⊥) → proof answer b4 b5 ≡ proof_form uid t a c key b4 b5
  unfolding proof_form
  proof_refused h =
      let other : writer_answer (right_lengths (proof_lengths (length uid) (length key) (length b4) (length b5))) c 0 t a ≡ 0 → ⊥ = λ z. h (e ∙ z) in
      left_proof e (unwritten _ _ _ other) (unwritten _ _ _ other)

  pub proof_written : (a4 a5 : List ℕ) → answer ≡ 0 → a4 ≡ m4 uid t a (counter_kept t c) key → a5 ≡ m5 key a4 → proof 0 a4 a5 ≡ proof_form uid t a c key b4 b5
  unfolding proof_form
  proof_written a4 a5 h e4 e5 =
      let done = sym e ∙ h in
      left_proof (sym done) (e4 ∙ is_written _ _ _ done) (e5 ∙ ap (m5 key) e4 ∙ is_written _ _ _ done)

-- ---- the two ways out of each, for the functions that write
pub ruleset messages_left = (never_zero, messages_refused, messages_written)

pub ruleset proof_left = (never_zero, counter_below, one_bit, proof_refused, proof_written)
