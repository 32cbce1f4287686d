-- Opening, writing and judging: what an answer of 0 tells, what each leaves by its answer and by its reply, and that writing says the
-- same of a number and of the number saturated.
-- Assumes nothing.
use mathlib.Core.Path.{◌≡◌, refl, sym, ap, ap₂, ◌∙◌, subst}
use mathlib.Core.Bool.{Bool, true, false, not, cond}
use mathlib.Core.List.{List, [], ◌∷◌}
use Prim.Native.Nat.{ℕ, ◌≤◌, ◌<◌}
use native.Mathlib.Omega.{arith}
use borrow.Author.Tests.{eq-eqb, ne_eqb, leb-true, leb-false, not-false}
use lib.Dec.{leb}
use lib.ListN.{length, get_or, replicate, get_or-eq_default}
use lib.Seq.{paste}
use Rattle.std.specs.Prelude.{Option, Some, None, Result, Ok, Err}
use Rattle.laws.specs.All.{all}
use Rattle.laws.specs.Lengths.{right_lengths}
use Rattle.laws.specs.Ranges.{within}
use Rattle.laws.specs.Same.{same}
use Rattle.laws.proofs.Lengths.{each_right}
use Rattle.laws.proofs.Ranges.{above}
use Rattle.laws.proofs.Test.{both}
use Rattle.aes.specs.State.{byte}
use Rattle.basics.specs.Answers.{no_error, number_of}
use Rattle.basics.specs.declared.Refusal.{Refusal}
use Rattle.basics.specs.Bytes.{block_at, zero_uid}
use Rattle.basics.specs.Marks.{is_mark}
use Rattle.basics.specs.Wide.{saturated}
use Rattle.basics.proofs.Bytes.{block_long, block_whole}
use Rattle.basics.proofs.Faults.{no_fault, never_zero}
use Rattle.basics.proofs.Wide.{saturates, fitting, wide_test, by_answer_lem}
use Rattle.message.specs.FirstBlock.{max_counter}
use Rattle.message.specs.Flags.{flag_count}
use Rattle.message.specs.Messages.{empty_key, build, m1, m2, m3, m4, m5}
use Rattle.message.specs.Slots.{allowed, counter_kept}
use Rattle.message.specs.Writer.{message_lengths, messages, full_form, proof_lengths, proof, proof_form}
use Rattle.message.proofs.Slots.{pair_slots, wide_pair}
use Rattle.message.proofs.Written.{faultless, messages_written, proof_written}
use Rattle.garage.specs.Book.{line_at, is_held}
use Rattle.garage.specs.Calls.{write_lengths, write_answer, noted, writing, judge_lengths, judge_answer, is_proof, taken, verdict_yes, verdict_no, judging, judged}
use Rattle.garage.specs.Open.{open_marks, is_open, unwritten, blank, open_lengths, open_answer, held_keys, opening}
use Rattle.garage.specs.Outcome.{Outcome, refused, done, by_answer}
use Rattle.garage.specs.Rules.{next_counter, secret_of, pair_answer}
use Rattle.garage.specs.declared.Book.{Book}
use Rattle.garage.proofs.Opened.{Pair, can_write, open_book}

-- ---- by the answer
module _ (answer : ℕ) (success refusal : Outcome) where
  pub is_done : answer ≡ 0 → by_answer answer success refusal ≡ success
  unfolding by_answer
  is_done h = ap (λ (b : Bool). cond b success refusal) (eq-eqb answer 0 h)

  pub is_refused : (answer ≡ 0 → ⊥) → by_answer answer success refusal ≡ refusal
  unfolding by_answer
  is_refused h = ap (λ (b : Bool). cond b success refusal) (ne_eqb answer 0 h)

-- ---- opening
pub record Openable (uid keys held counters : List ℕ) : Type 0 where
  pub long : right_lengths (open_lengths (length uid) (length keys) (length held) (length counters)) ≡ true
  pub named : same uid zero_uid ≡ false
  pub marks : all 15 (λ i. is_mark (byte held i)) ≡ true
  pub counts : all 13 (λ i. leb (get_or counters i 0) max_counter) ≡ true

-- each length that opening asks for
pub record Long (uid keys held counters : ℕ) : Type 0 where
  pub of_uid : uid ≡ 15
  pub of_keys : keys ≡ 240
  pub of_held : held ≡ 15
  pub of_counters : counters ≡ 13

pub long_of : (uid keys held counters : ℕ) → right_lengths (open_lengths uid keys held counters) ≡ true → Long uid keys held counters
long_of uid keys held counters e =
    let l = each_right (open_lengths uid keys held counters) e in
    record { of_uid = l 0; of_keys = l 1; of_held = l 2; of_counters = l 3 }

module _ (uid keys held counters : List ℕ) where
  pub openable : open_answer uid keys held counters ≡ 0 → Openable uid keys held counters
  unfolding open_answer
  openable e =
      let one = no_fault (not (right_lengths (open_lengths (length uid) (length keys) (length held) (length counters)))) 12 _ (λ z. omega arith) e in
      let two = no_fault (same uid zero_uid) 12 _ (λ z. omega arith) one.1 in
      let three = no_fault (not (all 15 (λ i. is_mark (byte held i)))) 12 _ (λ z. omega arith) two.1 in
      let four = no_fault (not (all 13 (λ i. leb (get_or counters i 0) max_counter))) 12 0 (λ z. omega arith) three.1 in
      record { long = not-false _ one.0; named = two.0; marks = not-false _ three.0; counts = not-false _ four.0 }

  pub uid_long : no_error ≡ open_answer uid keys held counters → length uid ≡ 15
  uid_long e = (long_of _ _ _ _ (openable (sym e)).long).of_uid

  pub held_long : no_error ≡ open_answer uid keys held counters → length held ≡ 15
  held_long e = (long_of _ _ _ _ (openable (sym e)).long).of_held

  pub counters_long : no_error ≡ open_answer uid keys held counters → length counters ≡ 13
  counters_long e = (long_of _ _ _ _ (openable (sym e)).long).of_counters

  module _ (answer : ℕ) (e : answer ≡ open_answer uid keys held counters) where
    pub open_refused : (after : Book) → (answer ≡ 0 → ⊥) → after ≡ blank → refused answer after [] ≡ opening uid keys held counters
    unfolding opening
    open_refused after h e-book = ap₂ (λ (n : ℕ) (b : Book). refused n b []) e e-book ∙ sym (is_refused _ _ _ (λ z. h (e ∙ z)))

    pub open_done : (after : Book) → answer ≡ 0
        → after ≡ unwritten uid (held_keys keys held) held (paste (replicate 15 0) 1 counters 13) open_marks
        → done after 0 [] ≡ opening uid keys held counters
    unfolding opening
    open_done after zero e-book = rw e-book (sym (is_done _ _ _ (sym e ∙ zero)))

-- ---- writing
secret_long : (b : Book) (authority : ℕ) → length (secret_of b authority) ≡ 16
unfolding secret_of
secret_long b authority = tests (is_held b authority)
  where
    tests : (t : Bool) → length (cond t (line_at b authority).key empty_key) ≡ 16
    tests true = block_long b.keys authority
    tests false = refl

pub record Writable (b : Book) (lengths : Bool) (flags target authority : ℕ) : Type 0 where
  pub opens : is_open b ≡ true
  pub long : lengths ≡ true
  pub few : flags < 32
  pub pair : Pair b target authority

pub writable : (b : Book) (lengths : Bool) (flags target authority : ℕ) → write_answer b lengths flags target authority ≡ 0
    → Writable b lengths flags target authority
unfolding write_answer pair_answer
writable b lengths flags target authority e =
    let one = no_fault (not (is_open b)) 12 _ (λ z. omega arith) e in
    let two = no_fault (not lengths) 12 _ (λ z. omega arith) one.1 in
    let three = no_fault (not (leb flags 31)) 12 _ (λ z. omega arith) two.1 in
    let flags_fit = leb-true flags 31 (not-false _ three.0) in
    record {
      opens = not-false _ one.0;
      long = not-false _ two.0;
      few = omega (arith, flags_fit);
      pair = can_write b target authority three.1;
    }

module _ (b : Book) (key b1 b2 b3 : List ℕ) where
  abbrev pub write_long : Bool
  write_long = right_lengths (write_lengths (length key) (length b1) (length b2) (length b3))

  module _ (target authority flags answer : ℕ) (e : answer ≡ write_answer b write_long flags target authority) where
    pub write_refused : (answer ≡ 0 → ⊥) → refused answer b (b1 ∷ b2 ∷ b3 ∷ []) ≡ writing b target authority flags key b1 b2 b3
    unfolding writing
    write_refused h = ap (λ (n : ℕ). refused n b (b1 ∷ b2 ∷ b3 ∷ [])) e ∙ sym (is_refused _ _ _ (λ z. h (e ∙ z)))

  -- and what an answer of 0 tells of all that was left
  pub was_written : (target authority flags : ℕ) → (writing b target authority flags key b1 b2 b3).answer ≡ 0
      → let built = build flag_count b.uid target authority (secret_of b authority) (next_counter b target) flags key in
      Writable b write_long flags target authority
      × (writing b target authority flags key b1 b2 b3 ≡ done (noted b target authority key) 0 (built.m1 ∷ built.m2 ∷ built.m3 ∷ []))
  unfolding writing
  was_written target authority flags zero =
      let answer = write_answer b write_long flags target authority in
      let fine : answer ≡ 0 = by_answer_lem answer (λ so. so)
      (λ other. absurd (other (ap (λ (o : Outcome). o.answer) (write_refused target authority flags answer refl other) ∙ zero))) in
      (writable b write_long flags target authority fine, is_done answer _ _ fine)

  -- a number and the number saturated
  wide_pair_answer : (target authority : ℕ) → pair_answer b (saturated 255 target) (saturated 255 authority) ≡ pair_answer b target authority
  unfolding pair_answer
  wide_pair_answer target authority = tests (allowed target authority) refl
    where
      tests : (t : Bool) → allowed target authority ≡ t
          → pair_answer b (saturated 255 target) (saturated 255 authority) ≡ pair_answer b target authority
      tests true h =
          let slots = pair_slots target authority h in
          rw (fitting 255 target (omega (arith, slots.1)), fitting 255 authority (omega (arith, slots.2))) refl
      tests false h = rw (wide_pair target authority, h) refl

  wide_write_answer : (lengths : Bool) (target authority flags : ℕ)
      → write_answer b lengths (saturated 255 flags) (saturated 255 target) (saturated 255 authority)
      ≡ write_answer b lengths flags target authority
  unfolding write_answer pair_answer
  wide_write_answer lengths target authority flags =
      ap₂ (λ (few : Bool) (rest : ℕ). cond (not (is_open b)) 12 (cond (not lengths) 12 (cond (not few) 12 rest)))
      (wide_test 255 31 flags (omega arith)) (wide_pair_answer target authority)

  pub wide_writing : (target authority flags : ℕ)
      → writing b (saturated 255 target) (saturated 255 authority) (saturated 255 flags) key b1 b2 b3
      ≡ writing b target authority flags key b1 b2 b3
  wide_writing target authority flags =
      let answer = write_answer b write_long flags target authority in
      by_answer_lem answer
      (λ zero. let ok = writable b write_long flags target authority zero in
      let slots = pair_slots target authority ok.pair.allows in
      let t = fitting 255 target (omega (arith, slots.1)) in
      let a = fitting 255 authority (omega (arith, slots.2)) in
      rw (t, a, fitting 255 flags (omega (arith, ok.few))) refl)
      (λ other. sym (write_refused _ _ _ answer (sym (wide_write_answer write_long target authority flags)) other)
      ∙ write_refused target authority flags answer refl other)

  -- what writing says of numbers as they came, by the bytes made of them
  pub as_it_came : (target authority flags t a f : ℕ) → t ≡ saturated 255 target → a ≡ saturated 255 authority → f ≡ saturated 255 flags
      → writing b target authority flags key b1 b2 b3
      ≡ (let built = build flag_count b.uid t a (secret_of b a) (next_counter b t) f key in
      let answer = write_answer b write_long f t a in
      by_answer answer (done (noted b t a key) 0 (built.m1 ∷ built.m2 ∷ built.m3 ∷ [])) (refused answer b (b1 ∷ b2 ∷ b3 ∷ [])))
  unfolding writing
  as_it_came target authority flags t a f p q r =
      let same : writing b t a f key b1 b2 b3 ≡ writing b target authority flags key b1 b2 b3 = rw (p, q, r) (wide_writing target authority flags) in
      sym same

  -- where no check finds fault the writer does not either
  pub writes : (t a f counter : ℕ) (secret : List ℕ) → length b.uid ≡ 15 → no_error ≡ write_answer b write_long f t a → counter ≡ next_counter b t
      → secret ≡ secret_of b a
      → (full_form b.uid t a secret counter f key b1 b2 b3
      ≡ messages 0 (m1 b.uid t a) (m2 flag_count secret counter f key) (m3 secret (m1 b.uid t a) (m2 flag_count secret counter f key)))
      × (block_at key 0 ≡ key)
  unfolding right_lengths
  writes t a f counter secret hu zero same_counter same_secret =
      let ok = writable b write_long f t a (sym zero) in
      let l = each_right (write_lengths (length key) (length b1) (length b2) (length b3)) ok.long in
      let fits : counter ≤ max_counter = omega (arith, same_counter, ok.pair.counts) in
      let hs = ap length same_secret ∙ secret_long b a in
      let lengths : right_lengths (message_lengths (length b.uid) (length secret) (length key) (length b1) (length b2) (length b3)) ≡ true
      = rw (hu, hs, l 0, l 1, l 2, l 3) in (
        sym (messages_written b.uid secret key b1 b2 b3 t a counter f 0 (faultless _ counter f t a lengths fits ok.few ok.pair.allows) _ _ _ refl refl refl refl),
        block_whole key (l 0),
      )

-- ---- judging
pub record Judgeable (b : Book) (lengths : Bool) (target : ℕ) : Type 0 where
  pub opens : is_open b ≡ true
  pub long : lengths ≡ true
  pub first : 1 ≤ target
  pub last : target ≤ 14

pub judgeable : (b : Book) (lengths : Bool) (target : ℕ) → judge_answer b lengths target ≡ 0 → Judgeable b lengths target
unfolding judge_answer
judgeable b lengths target e =
    let one = no_fault (not (is_open b)) 12 _ (λ z. omega arith) e in
    let two = no_fault (not lengths) 12 _ (λ z. omega arith) one.1 in
    let three = no_fault (not (within 1 14 target)) 3 0 (λ z. omega arith) two.1 in
    let range = both (leb 1 target) (leb target 14) (not-false _ three.0) in
    record {
      opens = not-false _ one.0;
      long = not-false _ two.0;
      first = leb-true 1 target range.0;
      last = leb-true target 14 range.1;
    }

module _ (b : Book) (fourth fifth : List ℕ) where
  abbrev pub judge_long : Bool
  judge_long = right_lengths (judge_lengths (length fourth) (length fifth))

  module _ (target answer : ℕ) (e : answer ≡ judge_answer b judge_long target) where
    pub judge_refused : (answer ≡ 0 → ⊥) → refused answer b [] ≡ judging b target fourth fifth
    unfolding judging
    judge_refused h = ap (λ (n : ℕ). refused n b []) e ∙ sym (is_refused _ _ _ (λ z. h (e ∙ z)))

    pub says_no : answer ≡ 0 → is_proof b target fourth fifth ≡ false → done b verdict_no [] ≡ judging b target fourth fifth
    unfolding judging
    says_no zero other = sym (is_done _ _ _ (sym e ∙ zero) ∙ ap (λ (t : Bool). cond t (done (taken b target) verdict_yes []) (done b verdict_no [])) other)

    pub says_yes : (after : Book) → answer ≡ 0 → is_proof b target fourth fifth ≡ true → after ≡ taken b target
        → done after verdict_yes [] ≡ judging b target fourth fifth
    unfolding judging
    says_yes after zero so e-book =
        ap (λ (x : Book). done x verdict_yes []) e-book
        ∙ sym (is_done _ _ _ (sym e ∙ zero) ∙ ap (λ (t : Bool). cond t (done (taken b target) verdict_yes []) (done b verdict_no [])) so)

  wide_target : (target : ℕ) → within 1 14 (saturated 255 target) ≡ within 1 14 target
  wide_target target = saturates (within 1 14) 255 target (λ h. sym (above 1 14 target (omega (arith, h))))

  wide_judge_answer : (lengths : Bool) (target : ℕ) → judge_answer b lengths (saturated 255 target) ≡ judge_answer b lengths target
  unfolding judge_answer
  wide_judge_answer lengths target =
      ap (λ (inside : Bool). cond (not (is_open b)) 12 (cond (not lengths) 12 (cond (not inside) 3 0))) (wide_target target)

  pub wide_judging : (target : ℕ) → judging b (saturated 255 target) fourth fifth ≡ judging b target fourth fifth
  wide_judging target =
      let answer = judge_answer b judge_long target in
      by_answer_lem answer
      (λ zero. let ok = judgeable b judge_long target zero in rw (fitting 255 target (omega (arith, ok.last))) refl)
      (λ other. sym (judge_refused _ answer (sym (wide_judge_answer judge_long target)) other) ∙ judge_refused target answer refl other)

  -- what a reply leaves, from what was found of a slot whose number is the target's, saturated
  module _ (target : ℕ) where
    pub judged_refused : (reply : Result (Option Book) Refusal) (refusal : Refusal) → reply ≡ Err refusal
        → number_of refusal ≡ judge_answer b judge_long target → judged b reply ≡ judging b target fourth fifth
    judged_refused reply refusal is e = ap (judged b) is ∙ judge_refused target (number_of refusal) e (never_zero refusal)

    module _ (e : no_error ≡ judge_answer b judge_long target) (slot : ℕ) (same_slot : slot ≡ saturated 255 target) where
      slot_is : slot ≡ target
      slot_is = same_slot ∙ fitting 255 target (omega (arith, (judgeable b judge_long target (sym e)).last))

      pub judged_no : is_proof b slot fourth fifth ≡ false → judged b (Ok None) ≡ judging b target fourth fifth
      judged_no other = says_no target 0 e refl (subst (λ (s : ℕ). is_proof b s fourth fifth ≡ false) slot_is other)

      pub judged_yes : (after : Book) → is_proof b slot fourth fifth ≡ true → after ≡ taken b slot
          → judged b (Ok (Some after)) ≡ judging b target fourth fifth
      judged_yes after so e-book =
          says_yes target 0 e after refl (subst (λ (s : ℕ). is_proof b s fourth fifth ≡ true) slot_is so) (e-book ∙ ap (taken b) slot_is)

-- ---- the comparison: where a message waits there is a slot, and what an open book writes as its proof is never refused
waits_in_slot : (b : Book) (target : ℕ) → length b.waits ≡ 15 → (line_at b target).waits ≡ 1 → target ≤ 14
waits_in_slot b target long so = tests (leb target 14) refl
  where
    tests : (t : Bool) → leb target 14 ≡ t → target ≤ 14
    tests true h = leb-true target 14 h
    tests false h =
        let none = get_or-eq_default b.waits 0 {n = target} (omega (arith, long, leb-false target 14 h)) in
        absurd (omega (arith, none, so))

pub waiting_proof : (b : Book) (target authority counter : ℕ) (key b4 b5 : List ℕ) → is_open b ≡ true → length b.uid ≡ 15 → length b.waits ≡ 15
    → (line_at b target).waits ≡ 1 → authority ≡ (line_at b target).authority → counter ≡ (line_at b target).newcounter
    → key ≡ (line_at b target).newkey → length b4 ≡ 32 → length b5 ≡ 16
    → proof_form b.uid target authority counter key b4 b5
    ≡ proof 0 (m4 b.uid target authority (counter_kept target counter) key) (m5 key (m4 b.uid target authority (counter_kept target counter) key))
unfolding right_lengths
waiting_proof b target authority counter key b4 b5 opened hu long so by same same_key h4 h5 =
    let now = ((open_book b opened).lines target (waits_in_slot b target long so)).waiting (eq-eqb _ 1 so) in
    let hk : length key ≡ 16 = ap length same_key ∙ block_long b.newkeys target in
    let few : counter ≤ max_counter = omega (arith, same, now.1, now.0.counts) in
    let pair : allowed target authority ≡ true = ap (allowed target) by ∙ now.0.allows in
    let lengths : right_lengths (proof_lengths (length b.uid) (length key) (length b4) (length b5)) ≡ true = rw (hu, hk, h4, h5) in
    sym (proof_written b.uid key b4 b5 target authority counter 0 (faultless _ counter 0 target authority lengths few (omega arith) pair) _ _ refl refl refl)

-- ---- what the proofs of opening and of judging stand on
pub ruleset opening_laws = (uid_long, held_long, counters_long, open_refused, open_done, never_zero)

pub ruleset judging_laws = (judgeable, judged_refused, judged_no, judged_yes)

pub ruleset writing_laws = (as_it_came, writes, never_zero)
