-- What the foreman can rely on holds. A call changes a line in one of three ways (`Change`); over a day each theorem is an
-- induction on its calls.
-- Assumes nothing.
use mathlib.Core.Path.{◌≡◌, refl, sym, ap, ◌∙◌, subst}
use mathlib.Core.Bool.{Bool, true, false, cond, false≢true}
use mathlib.Core.List.{List, [], ◌∷◌}
use mathlib.Core.Logic.{inl}
use Prim.Native.Nat.{ℕ, ◌+◌, ◌≤◌}
use native.Mathlib.Omega.{arith}
use borrow.Author.Tests.{eq-eqb}
use lib.ListN.{length}
use Rattle.laws.specs.Among.{Among}
use Rattle.laws.specs.Ranges.{within, row_of}
use Rattle.laws.proofs.Lengths.{each_right}
use Rattle.basics.specs.Answers.{no_error, key_invalid, key_empty, key_update_error, general_error}
use Rattle.basics.specs.Marks.{off, is_on}
use Rattle.basics.proofs.Faults.{first_among}
use Rattle.message.specs.Slots.{counter_kept}
use Rattle.message.proofs.Slots.{pair_slots}
use Rattle.garage.specs.Book.{line_at}
use Rattle.garage.specs.Calls.{write_lengths, write_checks, write_answer, waiting_line, noted, writing, judge_checks, judge_answer, judging, taken_line, taken, verdict_yes, verdict_no}
use Rattle.garage.specs.Open.{is_open, InUse}
use Rattle.garage.specs.Outcome.{Outcome, refused}
use Rattle.garage.specs.Promised.{EachCall, settled_line, OverTime}
use Rattle.garage.specs.Rules.{next_counter}
use Rattle.garage.specs.Runs.{Call, write, judge, lent, step, run, after, wrote, said_yes, count}
use Rattle.garage.specs.declared.Book.{Book}
use Rattle.garage.specs.declared.Line.{Line}
use Rattle.garage.proofs.Called.{write_long, writable, write_refused, judge_long, judge_refused}
use Rattle.garage.proofs.Lines.{besides}
use Rattle.garage.proofs.Opened.{and_true, open_book}
use Rattle.garage.proofs.Steps.{WriteCase, write_refusal, write_success, write_case, JudgeCase, judge_refusal, judge_no, judge_yes, judge_case, a_yes, Place, here, elsewhere, note_place, note_in_use, take_place, taken_counter, take_in_use}

-- ---- what a call does to a line
pub data Change (b : Book) (call : Call) (slot : ℕ) : Type 0 where
  stays : line_at (step b call).book slot ≡ line_at b slot → Change b call slot
  gets_message : wrote slot (call, step b call) ≡ true → (authority counter : ℕ) (key : List ℕ)
      → line_at (step b call).book slot ≡ waiting_line authority counter key (line_at b slot) → Change b call slot
  takes : said_yes slot (call, step b call) ≡ true → slot ≤ 14 → (line_at b slot).newcounter ≡ next_counter b slot
      → line_at (step b call).book slot ≡ taken_line (line_at b slot) → Change b call slot

module _ (b : Book) (in_use : InUse b) where
  write_changes : (target authority flags : ℕ) (key b1 b2 b3 : List ℕ) (slot : ℕ) → WriteCase b target authority flags key b1 b2 b3
      → let call = write target authority flags key b1 b2 b3 in Change b call slot × InUse (step b call).book
  write_changes target authority flags key b1 b2 b3 slot (write_refusal other e) =
      let back = ap (λ (o : Outcome). o.book) e in
      (stays (sym (ap (λ (x : Book). line_at x slot) back)), subst InUse back in_use)
  write_changes target authority flags key b1 b2 b3 slot (write_success zero zero-out quiet e) =
      let ok = writable b _ flags target authority zero in
      let fits = (pair_slots target authority ok.pair.allows).1 in
      let long = each_right (write_lengths (length key) (length b1) (length b2) (length b3)) ok.long 0 in (
        placed (note_place b in_use target authority key fits long ok.pair slot),
        subst InUse (sym e) (note_in_use b in_use target authority key fits long ok.pair),
      )
    where
      placed : Place b (noted b target authority key) target (waiting_line authority (next_counter b target) key (line_at b target)) slot
          → Change b (write target authority flags key b1 b2 b3) slot
      placed (here is line) =
          gets_message (and_true _ _ (eq-eqb target slot (sym is)) (eq-eqb _ 0 zero-out)) authority (next_counter b target) key
          (ap (λ (x : Book). line_at x slot) e ∙ line ∙ ap (λ (s : ℕ). waiting_line authority (next_counter b target) key (line_at b s)) (sym is))
      placed (elsewhere other line) = stays (ap (λ (x : Book). line_at x slot) e ∙ line)

  judge_changes : (target : ℕ) (m4 m5 : List ℕ) (slot : ℕ) → JudgeCase b target m4 m5
      → let call = judge target m4 m5 in Change b call slot × InUse (step b call).book
  judge_changes target m4 m5 slot (judge_refusal other e) =
      let back = ap (λ (o : Outcome). o.book) e in
      (stays (sym (ap (λ (x : Book). line_at x slot) back)), subst InUse back in_use)
  judge_changes target m4 m5 slot (judge_no zero e) =
      let back = ap (λ (o : Outcome). o.book) e in
      (stays (sym (ap (λ (x : Book). line_at x slot) back)), subst InUse back in_use)
  judge_changes target m4 m5 slot (judge_yes zero so e) =
      let yes = a_yes b target m4 m5 (sym (ap (λ (o : Outcome). o.verdict) e)) in
      let back = ap (λ (o : Outcome). o.book) e in
      (placed (take_place b in_use target yes.well.last yes.waited slot), subst InUse back (take_in_use b in_use target yes.well.last yes.waited))
    where
      placed : Place b (taken b target) target (taken_line (line_at b target)) slot → Change b (judge target m4 m5) slot
      placed (here is line) =
          let yes = a_yes b target m4 m5 (sym (ap (λ (o : Outcome). o.verdict) e)) in
          takes (and_true _ _ (eq-eqb target slot (sym is)) (eq-eqb _ 1 (sym (ap (λ (o : Outcome). o.verdict) e))))
          (subst (λ (s : ℕ). s ≤ 14) (sym is) yes.well.last)
          (subst (λ (s : ℕ). (line_at b s).newcounter ≡ next_counter b s) (sym is) (taken_counter b in_use target yes.well.last yes.waited))
          (sym (ap (λ (o : Outcome). line_at o.book slot) e) ∙ line ∙ ap (λ (s : ℕ). taken_line (line_at b s)) (sym is))
      placed (elsewhere other line) = stays (sym (ap (λ (o : Outcome). line_at o.book slot) e) ∙ line)

  changes : (call : Call) (slot : ℕ) → Change b call slot × InUse (step b call).book
  changes (write target authority flags key b1 b2 b3) slot =
      write_changes target authority flags key b1 b2 b3 slot (write_case b target authority flags key b1 b2 b3)
  changes (judge target m4 m5) slot = judge_changes target m4 m5 slot (judge_case b target m4 m5)

-- ---- over a day
pub in_use_after : (b : Book) (calls : List Call) → InUse b → InUse (after b (run b calls))
in_use_after b [] h = h
in_use_after b (call ∷ calls) h = in_use_after (step b call).book calls (changes b h call 0).1

step_uid : (b : Book) (call : Call) → (step b call).book.uid ≡ b.uid
step_uid b (write target authority flags key b1 b2 b3) = cases (write_case b target authority flags key b1 b2 b3)
  where
    cases : WriteCase b target authority flags key b1 b2 b3 → (writing b target authority flags key b1 b2 b3).book.uid ≡ b.uid
    cases (write_refusal other e) = sym (ap (λ (o : Outcome). o.book.uid) e)
    cases (write_success zero zero-out quiet e) = ap (λ (x : Book). x.uid) e ∙ (besides target _ b).0
step_uid b (judge target m4 m5) = cases (judge_case b target m4 m5)
  where
    cases : JudgeCase b target m4 m5 → (judging b target m4 m5).book.uid ≡ b.uid
    cases (judge_refusal other e) = sym (ap (λ (o : Outcome). o.book.uid) e)
    cases (judge_no zero e) = sym (ap (λ (o : Outcome). o.book.uid) e)
    cases (judge_yes zero so e) = sym (ap (λ (o : Outcome). o.book.uid) e) ∙ (besides target _ b).0

uid_after : (b : Book) (calls : List Call) → (after b (run b calls)).uid ≡ b.uid
uid_after b [] = refl
uid_after b (call ∷ calls) = uid_after (step b call).book calls ∙ step_uid b call

-- the counter of a message that waits is above the last one, or both are none
next_above : (slot last max : ℕ) → last ≤ counter_kept slot max → last ≤ counter_kept slot (last + 1)
unfolding counter_kept row_of
next_above slot last max h = tests (within 1 13 slot) h
  where
    tests : (t : Bool) → last ≤ cond t max 0 → last ≤ cond t (last + 1) 0
    tests true h = omega arith
    tests false h = h

counter_step : (b : Book) (call : Call) (slot : ℕ) → InUse b → (line_at b slot).counter ≤ (line_at (step b call).book slot).counter
unfolding next_counter
counter_step b call slot h = cases (changes b h call slot).0
  where
    cases : Change b call slot → (line_at b slot).counter ≤ (line_at (step b call).book slot).counter
    cases (stays e) = let same = ap (λ (l : Line). l.counter) e in omega (arith, same)
    cases (gets_message so authority counter key e) = let same = ap (λ (l : Line). l.counter) e in omega (arith, same)
    cases (takes so fits next e) =
        let new = ap (λ (l : Line). l.counter) e in
        let rises = next_above slot (line_at b slot).counter _ ((open_book b h.1).lines slot fits).counted in
        omega (arith, new, next, rises)

counter_after : (b : Book) (calls : List Call) (slot : ℕ) → InUse b → (line_at b slot).counter ≤ (line_at (after b (run b calls)) slot).counter
counter_after b [] slot h = omega arith
counter_after b (call ∷ calls) slot h =
    omega (arith, counter_step b call slot h, counter_after (step b call).book calls slot (changes b h call slot).1)

-- none that passes a test: not the first, and none after it
none : (t : Bool) (rest : ℕ) → cond t 1 0 + rest ≡ 0 → (t ≡ false) × (rest ≡ 0)
none true rest e = absurd (omega (arith, e))
none false rest e = (refl, omega (arith, e))

settled_after : (b : Book) (calls : List Call) (slot : ℕ) → InUse b → count (said_yes slot) (run b calls) ≡ 0
    → settled_line (line_at (after b (run b calls)) slot) ≡ settled_line (line_at b slot)
settled_after b [] slot h zero = refl
settled_after b (call ∷ calls) slot h zero =
    let no-yes = none (said_yes slot (call, step b call)) _ zero in
    settled_after (step b call).book calls slot (changes b h call slot).1 no-yes.1 ∙ cases no-yes.0 (changes b h call slot).0
  where
    cases : said_yes slot (call, step b call) ≡ false → Change b call slot
        → settled_line (line_at (step b call).book slot) ≡ settled_line (line_at b slot)
    cases no-yes (stays e) = ap settled_line e
    cases no-yes (gets_message so authority counter key e) = ap settled_line e
    cases no-yes (takes so fits next e) = absurd (false≢true (sym no-yes ∙ so))

-- where no message is written for a slot and none of it judged with a yes, its line stays
pub line_after : (b : Book) (calls : List Call) (slot : ℕ) → InUse b → count (wrote slot) (run b calls) ≡ 0
    → count (said_yes slot) (run b calls) ≡ 0 → line_at (after b (run b calls)) slot ≡ line_at b slot
line_after b [] slot h unwritten zero = refl
line_after b (call ∷ calls) slot h unwritten zero =
    let no-yes = none (said_yes slot (call, step b call)) _ zero in
    let not_written = none (wrote slot (call, step b call)) _ unwritten in
    line_after (step b call).book calls slot (changes b h call slot).1 not_written.1 no-yes.1
    ∙ cases not_written.0 no-yes.0 (changes b h call slot).0
  where
    cases : wrote slot (call, step b call) ≡ false → said_yes slot (call, step b call) ≡ false → Change b call slot
        → line_at (step b call).book slot ≡ line_at b slot
    cases not_written no-yes (stays e) = e
    cases not_written no-yes (gets_message so authority counter key e) = absurd (false≢true (sym not_written ∙ so))
    cases not_written no-yes (takes so fits next e) = absurd (false≢true (sym no-yes ∙ so))

-- where no message is written for a slot and nothing waits, nothing does
quiet_after : (b : Book) (calls : List Call) (slot : ℕ) → InUse b → count (wrote slot) (run b calls) ≡ 0 → (line_at b slot).waits ≡ off
    → (line_at (after b (run b calls)) slot).waits ≡ off
quiet_after b [] slot h unwritten quiet = quiet
quiet_after b (call ∷ calls) slot h unwritten quiet =
    let not_written = none (wrote slot (call, step b call)) _ unwritten in
    quiet_after (step b call).book calls slot (changes b h call slot).1 not_written.1
    (cases not_written.0 (changes b h call slot).0)
  where
    cases : wrote slot (call, step b call) ≡ false → Change b call slot → (line_at (step b call).book slot).waits ≡ off
    cases not_written (stays e) = ap (λ (l : Line). l.waits) e ∙ quiet
    cases not_written (gets_message so authority counter key e) = absurd (false≢true (sym not_written ∙ so))
    cases not_written (takes so fits next e) = ap (λ (l : Line). l.waits) e

-- a message that was written waits
pub written_waits : (b : Book) (target authority flags : ℕ) (key b1 b2 b3 : List ℕ) → InUse b
    → (writing b target authority flags key b1 b2 b3).answer ≡ no_error
    → line_at (writing b target authority flags key b1 b2 b3).book target ≡ waiting_line authority (next_counter b target) key (line_at b target)
written_waits b target authority flags key b1 b2 b3 h zero = cases (write_case b target authority flags key b1 b2 b3)
  where
    placed : Place b (noted b target authority key) target (waiting_line authority (next_counter b target) key (line_at b target)) target
        → line_at (noted b target authority key) target ≡ waiting_line authority (next_counter b target) key (line_at b target)
    placed (here is e) = e
    placed (elsewhere other e) = absurd (other refl)

    cases : WriteCase b target authority flags key b1 b2 b3
        → line_at (writing b target authority flags key b1 b2 b3).book target ≡ waiting_line authority (next_counter b target) key (line_at b target)
    cases (write_refusal other e) = absurd (other (ap (λ (o : Outcome). o.answer) e ∙ zero))
    cases (write_success fine zero-out quiet e) =
        let ok = writable b _ flags target authority fine in
        let fits = (pair_slots target authority ok.pair.allows).1 in
        let long = each_right (write_lengths (length key) (length b1) (length b2) (length b3)) ok.long 0 in
        ap (λ (x : Book). line_at x target) e ∙ placed (note_place b h target authority key fits long ok.pair target)

-- and after a yes its key and counter are in the book
pub yes_takes : (b : Book) (target : ℕ) (m4 m5 : List ℕ) → InUse b → (judging b target m4 m5).verdict ≡ verdict_yes
    → line_at (judging b target m4 m5).book target ≡ taken_line (line_at b target)
yes_takes b target m4 m5 h so =
    let yes = a_yes b target m4 m5 so in
    sym (ap (λ (o : Outcome). line_at o.book target) yes.is_taken) ∙ placed (take_place b h target yes.well.last yes.waited target)
  where
    placed : Place b (taken b target) target (taken_line (line_at b target)) target → line_at (taken b target) target ≡ taken_line (line_at b target)
    placed (here is e) = e
    placed (elsewhere other e) = absurd (other refl)

-- a verdict where nothing waits
quiet_no : (b : Book) (target : ℕ) (m4 m5 : List ℕ) → (line_at b target).waits ≡ off → (judging b target m4 m5).verdict ≡ verdict_no
quiet_no b target m4 m5 quiet = cases (judge_case b target m4 m5)
  where
    cases : JudgeCase b target m4 m5 → (judging b target m4 m5).verdict ≡ verdict_no
    cases (judge_refusal other e) = sym (ap (λ (o : Outcome). o.verdict) e)
    cases (judge_no zero e) = sym (ap (λ (o : Outcome). o.verdict) e)
    cases (judge_yes zero so e) =
        let yes = a_yes b target m4 m5 (sym (ap (λ (o : Outcome). o.verdict) e)) in
        absurd (false≢true (sym (ap is_on quiet) ∙ yes.waited))

pub over_time : OverTime
over_time = record {
  stays_open = in_use_after;
  uid_stays = uid_after;
  no_counter_falls = counter_after;
  only_by_yes = settled_after;
  to_the_last_written = λ b target authority flags key b1 b2 b3 m4 m5 calls h zero unwritten no so.
      let first = (writing b target authority flags key b1 b2 b3).book in
      let fresh = (changes b h (write target authority flags key b1 b2 b3) target).1 in
      let line = line_after first calls target fresh unwritten no ∙ written_waits b target authority flags key b1 b2 b3 h zero in
      ap settled_line (yes_takes (after first (run first calls)) target m4 m5 (in_use_after first calls fresh) so ∙ ap taken_line line);
  once = λ b target m4 m5 m4' m5' calls h so unwritten.
      let first = (judging b target m4 m5).book in
      let fresh = (changes b h (judge target m4 m5) target).1 in
      quiet_no (after first (run first calls)) target m4' m5'
      (quiet_after first calls target fresh unwritten (ap (λ (l : Line). l.waits) (yes_takes b target m4 m5 h so)));
}

-- ---- one call
module _ (b : Book) where
  abbrev table : List ℕ
  table = no_error ∷ key_invalid ∷ key_empty ∷ key_update_error ∷ general_error ∷ []

  write_table : (lengths : Bool) (flags target authority : ℕ) → Among (write_answer b lengths flags target authority) table
  unfolding write_answer
  write_table lengths flags target authority = first_among table (write_checks b lengths flags target authority) (inl refl) refl

  judge_table : (lengths : Bool) (target : ℕ) → Among (judge_answer b lengths target) table
  unfolding judge_answer
  judge_table lengths target = first_among table (judge_checks b lengths target) (inl refl) refl

  each_answer : (call : Call) → Among (step b call).answer table
  each_answer (write target authority flags key b1 b2 b3) = cases (write_case b target authority flags key b1 b2 b3)
    where
      cases : WriteCase b target authority flags key b1 b2 b3 → Among (writing b target authority flags key b1 b2 b3).answer table
      cases (write_refusal other e) =
          subst (λ (n : ℕ). Among n table) (ap (λ (o : Outcome). o.answer) e) (write_table (write_long b key b1 b2 b3) flags target authority)
      cases (write_success zero zero-out quiet e) = inl zero-out
  each_answer (judge target m4 m5) = cases (judge_case b target m4 m5)
    where
      cases : JudgeCase b target m4 m5 → Among (judging b target m4 m5).answer table
      cases (judge_refusal other e) = subst (λ (n : ℕ). Among n table) (ap (λ (o : Outcome). o.answer) e) (judge_table (judge_long b m4 m5) target)
      cases (judge_no zero e) = inl (sym (ap (λ (o : Outcome). o.answer) e))
      cases (judge_yes zero so e) = inl (sym (ap (λ (o : Outcome). o.answer) e))

  is_refusal : (n : ℕ) (x : Book) (buffers : List (List ℕ)) (o : Outcome) → refused n x buffers ≡ o → o ≡ refused o.answer x buffers
  is_refusal n x buffers o e = sym e ∙ ap (λ (m : ℕ). refused m x buffers) (ap (λ (p : Outcome). p.answer) e)

  each_refusal : (call : Call) → ((step b call).answer ≡ no_error → ⊥) → step b call ≡ refused (step b call).answer b (lent call)
  each_refusal (write target authority flags key b1 b2 b3) other = cases (write_case b target authority flags key b1 b2 b3)
    where
      cases : WriteCase b target authority flags key b1 b2 b3
          → writing b target authority flags key b1 b2 b3
          ≡ refused (writing b target authority flags key b1 b2 b3).answer b (b1 ∷ b2 ∷ b3 ∷ [])
      cases (write_refusal not_zero e) = is_refusal _ b (b1 ∷ b2 ∷ b3 ∷ []) _ e
      cases (write_success zero zero-out quiet e) = absurd (other zero-out)
  each_refusal (judge target m4 m5) other = cases (judge_case b target m4 m5)
    where
      cases : JudgeCase b target m4 m5 → judging b target m4 m5 ≡ refused (judging b target m4 m5).answer b []
      cases (judge_refusal not_zero e) = is_refusal _ b [] _ e
      cases (judge_no zero e) = is_refusal 0 b [] _ e
      cases (judge_yes zero so e) = absurd (other (sym (ap (λ (o : Outcome). o.answer) e)))

  each_no : (target : ℕ) (m4 m5 : List ℕ) → ((judging b target m4 m5).verdict ≡ verdict_yes → ⊥)
      → judging b target m4 m5 ≡ refused (judging b target m4 m5).answer b []
  each_no target m4 m5 other = cases (judge_case b target m4 m5)
    where
      cases : JudgeCase b target m4 m5 → judging b target m4 m5 ≡ refused (judging b target m4 m5).answer b []
      cases (judge_refusal not_zero e) = is_refusal _ b [] _ e
      cases (judge_no zero e) = is_refusal 0 b [] _ e
      cases (judge_yes zero so e) = absurd (other (sym (ap (λ (o : Outcome). o.verdict) e)))

  write_shut : (lengths : Bool) (flags target authority : ℕ) → is_open b ≡ false → general_error ≡ write_answer b lengths flags target authority
  unfolding write_answer
  write_shut lengths flags target authority shut = rw shut refl

  judge_shut : (lengths : Bool) (target : ℕ) → is_open b ≡ false → general_error ≡ judge_answer b lengths target
  unfolding judge_answer
  judge_shut lengths target shut = rw shut refl

  twelve : (n : ℕ) → n ≡ 12 → n ≡ 0 → ⊥
  twelve n p q = omega (arith, p, q)

  each_shut : (call : Call) → is_open b ≡ false → step b call ≡ refused general_error b (lent call)
  each_shut (write target authority flags key b1 b2 b3) shut =
      sym (write_refused b key b1 b2 b3 target authority flags general_error (write_shut (write_long b key b1 b2 b3) flags target authority shut) (twelve _ refl))
  each_shut (judge target m4 m5) shut =
      sym (judge_refused b m4 m5 target general_error (judge_shut (judge_long b m4 m5) target shut) (twelve _ refl))

pub each_call : EachCall
each_call = record {
  from_the_table = each_answer;
  not_open = each_shut;
  refusal_changes_nothing = each_refusal;
  no_changes_nothing = each_no;
}
