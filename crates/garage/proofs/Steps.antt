-- One call of an open book: it stays open, and each line stays, or has a message that was written for its slot, or what a yes put
-- there.
-- Assumes nothing.
use mathlib.Core.Path.{◌≡◌, refl, sym, ap, ◌∙◌, subst}
use mathlib.Core.Bool.{Bool, true, false, cond, false≢true}
use mathlib.Core.List.{List, [], ◌∷◌}
use Prim.Native.Nat.{ℕ, ◌+◌, ◌≤◌}
use native.Mathlib.Omega.{arith}
use borrow.Author.Tests.{eqb-true, eqb-false}
use lib.Dec.{eqb}
use lib.ListN.{length}
use Rattle.laws.specs.Ranges.{within, row_of}
use Rattle.laws.specs.Same.{same}
use Rattle.laws.proofs.Test.{both}
use Rattle.basics.specs.Bytes.{zero_uid}
use Rattle.basics.specs.Marks.{is_on}
use Rattle.basics.proofs.Bytes.{block_long}
use Rattle.message.specs.FirstBlock.{max_counter}
use Rattle.message.specs.Slots.{counter_kept}
use Rattle.garage.specs.Book.{line_at, is_held, put_line}
use Rattle.garage.specs.Calls.{write_answer, waiting_line, noted, writing, judge_answer, is_proof, taken_line, taken, verdict_yes, verdict_no, judging}
use Rattle.garage.specs.Open.{InUse}
use Rattle.garage.specs.Outcome.{Outcome, refused, done}
use Rattle.garage.specs.Rules.{next_counter}
use Rattle.garage.specs.declared.Book.{Book}
use Rattle.garage.specs.declared.Line.{Line}
use Rattle.garage.proofs.Called.{is_done, write_long, write_refused, judge_long, Judgeable, judgeable, judge_refused, says_no, says_yes}
use Rattle.garage.proofs.Lines.{that_line, other_line, shape_kept, besides}
use Rattle.garage.proofs.Opened.{Pair, Fine, Opened, open_book, book_open}

-- ---- writing: refused, or done
module _ (b : Book) (target authority flags : ℕ) (key b1 b2 b3 : List ℕ) where
  abbrev written : Outcome
  written = writing b target authority flags key b1 b2 b3

  abbrev answer : ℕ
  answer = write_answer b (write_long b key b1 b2 b3) flags target authority

  pub data WriteCase : Type 0 where
    write_refusal : (answer ≡ 0 → ⊥) → refused answer b (b1 ∷ b2 ∷ b3 ∷ []) ≡ written → WriteCase
    write_success : answer ≡ 0 → written.answer ≡ 0 → written.verdict ≡ 0 → written.book ≡ noted b target authority key → WriteCase

  pub write_case : WriteCase
  unfolding writing
  write_case = tests (eqb answer 0) refl
    where
      tests : (t : Bool) → eqb answer 0 ≡ t → WriteCase
      tests false e = let other = eqb-false answer 0 e in write_refusal other (write_refused b key b1 b2 b3 target authority flags answer refl other)
      tests true e =
          let zero = eqb-true answer 0 e in
          let so = is_done answer _ _ zero in
          write_success zero (ap (λ (o : Outcome). o.answer) so) (ap (λ (o : Outcome). o.verdict) so) (ap (λ (o : Outcome). o.book) so)

-- ---- judging: refused, or a no, or a yes
module _ (b : Book) (target : ℕ) (m4 m5 : List ℕ) where
  abbrev judged : Outcome
  judged = judging b target m4 m5

  abbrev found : ℕ
  found = judge_answer b (judge_long b m4 m5) target

  pub data JudgeCase : Type 0 where
    judge_refusal : (found ≡ 0 → ⊥) → refused found b [] ≡ judged → JudgeCase
    judge_no : found ≡ 0 → done b verdict_no [] ≡ judged → JudgeCase
    judge_yes : found ≡ 0 → is_proof b target m4 m5 ≡ true → done (taken b target) verdict_yes [] ≡ judged → JudgeCase

  pub judge_case : JudgeCase
  judge_case = tests (eqb found 0) refl
    where
      verdicts : found ≡ 0 → (t : Bool) → is_proof b target m4 m5 ≡ t → JudgeCase
      verdicts zero false e = judge_no zero (says_no b m4 m5 target found refl zero e)
      verdicts zero true e = judge_yes zero e (says_yes b m4 m5 target found refl (taken b target) zero e refl)

      tests : (t : Bool) → eqb found 0 ≡ t → JudgeCase
      tests false e = let other = eqb-false found 0 e in judge_refusal other (judge_refused b m4 m5 target found refl other)
      tests true e = verdicts (eqb-true found 0 e) (is_proof b target m4 m5) refl

  -- a yes tells that all was well, and that a message waits
  pub record Yes : Type 0 where
    pub well : Judgeable b (judge_long b m4 m5) target
    pub waited : is_on (line_at b target).waits ≡ true
    pub is_taken : done (taken b target) verdict_yes [] ≡ judged

  pub a_yes : judged.verdict ≡ verdict_yes → Yes
  unfolding is_proof
  a_yes so = cases judge_case
    where
      not_yes : (n : ℕ) → n ≡ 0 → n ≡ 1 → ⊥
      not_yes n p q = omega (arith, p, q)

      cases : JudgeCase → Yes
      cases (judge_refusal other e) = absurd (not_yes _ (sym (ap (λ (o : Outcome). o.verdict) e)) so)
      cases (judge_no zero e) = absurd (not_yes _ (sym (ap (λ (o : Outcome). o.verdict) e)) so)
      cases (judge_yes zero e is) = record { well = judgeable b _ target zero; waited = (both _ _ e).0; is_taken = is }

-- ---- the line at a slot where one was put
pub data Place (b put : Book) (target : ℕ) (new : Line) (slot : ℕ) : Type 0 where
  here : slot ≡ target → line_at put slot ≡ new → Place b put target new slot
  elsewhere : (slot ≡ target → ⊥) → line_at put slot ≡ line_at b slot → Place b put target new slot

-- ---- a line that is put: of the message that is written, and of a yes
module _ (b : Book) (in_use : InUse b) where
  abbrev opened : Opened b
  opened = open_book b in_use.1

  -- a pair that can have a message still can, where no key is lost and the target's counter stays
  pair_kept : (after : Book) (target authority : ℕ) → (is_held after authority ≡ false → is_held b authority ≡ false)
      → (line_at after target).counter ≡ (line_at b target).counter → Pair b target authority → Pair after target authority
  unfolding next_counter
  pair_kept after target authority held counter p = record {
    allows = p.allows;
    by_key = λ h. p.by_key (held h);
    counts = subst (λ (c : ℕ). counter_kept target (c + 1) ≤ max_counter) (sym counter) p.counts;
  }

  next_kept : (after : Book) (target : ℕ) → (line_at after target).counter ≡ (line_at b target).counter → next_counter b target ≡ next_counter after target
  unfolding next_counter
  next_kept after target counter = ap (λ (c : ℕ). counter_kept target (c + 1)) (sym counter)

  -- a line that is as it was, in a book that has lost no key
  fine_kept : (after : Book) (slot : ℕ) → ((n : ℕ) → is_held after n ≡ false → is_held b n ≡ false) → line_at after slot ≡ line_at b slot → slot ≤ 14
      → Fine after slot (line_at after slot)
  fine_kept after slot held same fits =
      let f = opened.lines slot fits in
      let counter = ap (λ (l : Line). l.counter) same in
      subst (Fine after slot) (sym same) (record {
        counted = f.counted;
        marked = f.marked;
        unheld = f.unheld;
        waiting = λ h. let now = f.waiting h in
            (pair_kept after slot _ (held _) counter now.0, now.1 ∙ next_kept after slot counter);
        silent = f.silent;
      })

  -- the book with a line put anew
  module _ (target : ℕ) (new : Line) (fits : target ≤ 14) (long : length new.key ≡ 16) (longer : length new.newkey ≡ 16) where
    abbrev put : Book
    put = put_line target new b

    place : (slot : ℕ) → Place b put target new slot
    place slot = tests (eqb slot target) refl
      where
        tests : (t : Bool) → eqb slot target ≡ t → Place b put target new slot
        tests true e =
            let is = eqb-true slot target e in
            here is (ap (line_at put) is ∙ that_line target new b in_use.0 fits long longer)
        tests false e = let other = eqb-false slot target e in elsewhere other (other_line target new b in_use.0 fits long longer slot other)

    -- it stays open where the new line is fine in it, and no key is lost
    put_in_use : (is_on new.held ≡ false → is_held b target ≡ false) → Fine put target new → InUse put
    put_in_use held fine = (
      shape_kept target new b in_use.0 fits long longer,
      book_open put (record {
        open_marks_lem = (besides target new b).1 ∙ opened.open_marks_lem;
        named = ap (λ (uid : List ℕ). same uid zero_uid) (besides target new b).0 ∙ opened.named;
        lines = λ slot h. line slot h (place slot);
      }),
    )
      where
        none_lost : (n : ℕ) → Place b put target new n → is_held put n ≡ false → is_held b n ≡ false
        none_lost n (here is e) h =
            ap (is_held b) is ∙ held (sym (ap (λ (l : Line). is_on l.held) e) ∙ h)
        none_lost n (elsewhere other e) h = sym (ap (λ (l : Line). is_on l.held) e) ∙ h

        line : (slot : ℕ) → slot ≤ 14 → Place b put target new slot → Fine put slot (line_at put slot)
        line slot h (here is e) = subst (Fine put slot) (sym e) (subst (λ (s : ℕ). Fine put s new) (sym is) fine)
        line slot h (elsewhere other e) = fine_kept put slot (λ n. none_lost n (place n)) e h

  -- a message that is written
  module _ (target authority : ℕ) (key : List ℕ) (fits : target ≤ 14) (long : length key ≡ 16) (pair : Pair b target authority) where
    abbrev noted_line : Line
    noted_line = waiting_line authority (next_counter b target) key (line_at b target)

    pub note_place : (slot : ℕ) → Place b (noted b target authority key) target noted_line slot
    note_place = place target noted_line fits (block_long b.keys target) long

    note_counter : (line_at (noted b target authority key) target).counter ≡ (line_at b target).counter
    note_counter = ap (λ (l : Line). l.counter) (that_line target noted_line b in_use.0 fits (block_long b.keys target) long)

    note_held : (n : ℕ) → Place b (noted b target authority key) target noted_line n → is_held (noted b target authority key) n ≡ is_held b n
    note_held n (here is e) = ap (λ (l : Line). is_on l.held) e ∙ sym (ap (is_held b) is)
    note_held n (elsewhere other e) = ap (λ (l : Line). is_on l.held) e

    pub note_in_use : InUse (noted b target authority key)
    note_in_use =
        let f = opened.lines target fits in
        let after = noted b target authority key in
        put_in_use target noted_line fits (block_long b.keys target) long (λ h. h) (record {
          counted = f.counted;
          marked = (f.marked.0, refl);
          unheld = f.unheld;
          waiting = λ h.
              (pair_kept after target authority (λ none. sym (note_held authority (note_place authority)) ∙ none) note_counter pair, next_kept after target note_counter);
          silent = λ h. absurd (false≢true (sym h));
        })

  -- a yes
  module _ (target : ℕ) (fits : target ≤ 14) (waits : is_on (line_at b target).waits ≡ true) where
    abbrev taken_line_here : Line
    taken_line_here = taken_line (line_at b target)

    pub take_place : (slot : ℕ) → Place b (taken b target) target taken_line_here slot
    take_place = place target taken_line_here fits (block_long b.newkeys target) refl

    pub taken_counter : (line_at b target).newcounter ≡ next_counter b target
    taken_counter = ((opened.lines target fits).waiting waits).1

    counter_fits : (slot c : ℕ) → counter_kept slot c ≤ max_counter → counter_kept slot c ≤ counter_kept slot max_counter
    unfolding counter_kept row_of
    counter_fits slot c h = tests (within 1 13 slot) h
      where
        tests : (t : Bool) → cond t c 0 ≤ max_counter → cond t c 0 ≤ cond t max_counter 0
        tests true h = h
        tests false h = omega arith

    pub take_in_use : InUse (taken b target)
    unfolding next_counter
    take_in_use =
        let now = (opened.lines target fits).waiting waits in
        put_in_use target taken_line_here fits (block_long b.newkeys target) refl (λ h. absurd (false≢true (sym h))) (record {
          counted = subst (λ (c : ℕ). c ≤ counter_kept target max_counter) (sym now.1) (counter_fits target _ now.0.counts);
          marked = (refl, refl);
          unheld = λ h. absurd (false≢true (sym h));
          waiting = λ h. absurd (false≢true h);
          silent = λ h. (refl, refl, refl);
        })
