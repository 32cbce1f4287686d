-- What an open book tells of its lines: the counter, what is held, and what waits. `open_line` has the facts of one line.
-- Assumes nothing.
use mathlib.Core.Path.{◌≡◌, refl, sym}
use mathlib.Core.Bool.{Bool, true, false, not, cond, ◌&&◌, ◌||◌, false≢true}
use Prim.Native.Nat.{ℕ, ◌≤◌}
use native.Mathlib.Omega.{arith}
use borrow.Author.Tests.{leb-true, le-leb, eqb-true, eq-eqb, not-true, not-false}
use lib.Dec.{eqb, leb}
use Rattle.laws.specs.Same.{same}
use Rattle.laws.proofs.Same.{same_equal, equal_same}
use Rattle.laws.proofs.Test.{both, all_each, each_all}
use Rattle.basics.specs.Bytes.{zero_uid}
use Rattle.basics.specs.Marks.{is_on, is_mark}
use Rattle.basics.proofs.Faults.{no_fault}
use Rattle.modes.specs.Blocks.{zero_block}
use Rattle.message.specs.FirstBlock.{max_counter}
use Rattle.message.specs.Slots.{counter_kept, allowed}
use Rattle.garage.specs.Book.{line_at, is_held}
use Rattle.garage.specs.Open.{open_marks, waiting_fine, line_fine, lines_fine, is_open}
use Rattle.garage.specs.Rules.{next_counter, pair_answer}
use Rattle.garage.specs.declared.Book.{Book}
use Rattle.garage.specs.declared.Line.{Line}

-- ---- a pair that can have a message
pub record Pair (b : Book) (target authority : ℕ) : Type 0 where
  pub allows : allowed target authority ≡ true
  pub by_key : is_held b authority ≡ false → authority ≡ target
  pub counts : next_counter b target ≤ max_counter

itself : (held same : Bool) → (not held && not same) ≡ false → held ≡ false → same ≡ true
itself false true e h = refl
itself false false e h = sym e
itself true same e h = absurd (false≢true (sym h))

pub can_write : (b : Book) (target authority : ℕ) → pair_answer b target authority ≡ 0 → Pair b target authority
unfolding pair_answer
can_write b target authority e =
    let one = no_fault (not (allowed target authority)) 3 _ (λ z. omega arith) e in
    let two = no_fault (not (is_held b authority) && not (eqb authority target)) 4 _ (λ z. omega arith) one.1 in
    let three = no_fault (not (leb (next_counter b target) max_counter)) 7 0 (λ z. omega arith) two.1 in
    record {
      allows = not-false _ one.0;
      by_key = λ h. eqb-true authority target (itself (is_held b authority) (eqb authority target) two.0 h);
      counts = leb-true _ _ (not-false _ three.0);
    }

itself_back : (held same : Bool) → (held ≡ false → same ≡ true) → (not held && not same) ≡ false
itself_back true same h = refl
itself_back false true h = refl
itself_back false false h = sym (h refl)

pub writes_pair : (b : Book) (target authority : ℕ) → Pair b target authority → pair_answer b target authority ≡ 0
unfolding pair_answer
writes_pair b target authority p =
    let own = itself_back (is_held b authority) (eqb authority target) (λ h. eq-eqb authority target (p.by_key h)) in
    simp (p.allows, own, le-leb (next_counter b target) max_counter p.counts)

-- ---- a line
pub record Fine (b : Book) (slot : ℕ) (line : Line) : Type 0 where
  pub counted : line.counter ≤ counter_kept slot max_counter
  pub marked : (is_mark line.held ≡ true) × (is_mark line.waits ≡ true)
  pub unheld : is_on line.held ≡ false → line.key ≡ zero_block
  pub waiting : is_on line.waits ≡ true → Pair b slot line.authority × (line.newcounter ≡ next_counter b slot)
  pub silent : is_on line.waits ≡ false → (line.authority ≡ 0) × (line.newcounter ≡ 0) × (line.newkey ≡ zero_block)

-- one of two tests, by the first
or_false : (a b : Bool) → (a || b) ≡ true → a ≡ false → b ≡ true
or_false true b e h = absurd (false≢true (sym h))
or_false false b e h = e

false_or : (a b : Bool) → (a ≡ false → b ≡ true) → (a || b) ≡ true
false_or true b h = refl
false_or false b h = h refl

if_true : (t x y : Bool) → cond t x y ≡ true → t ≡ true → x ≡ true
if_true true x y e h = e
if_true false x y e h = absurd (false≢true h)

if_false : (t x y : Bool) → cond t x y ≡ true → t ≡ false → y ≡ true
if_false true x y e h = absurd (false≢true (sym h))
if_false false x y e h = e

if_either : (t x y : Bool) → (t ≡ true → x ≡ true) → (t ≡ false → y ≡ true) → cond t x y ≡ true
if_either true x y p q = p refl
if_either false x y p q = q refl

pub and_true : (a b : Bool) → a ≡ true → b ≡ true → (a && b) ≡ true
and_true true true p q = refl
and_true true false p q = q
and_true false b p q = p

module _ (b : Book) (slot : ℕ) (line : Line) where
  abbrev waits_fine : Bool
  waits_fine = eqb (pair_answer b slot line.authority) 0 && eqb line.newcounter (next_counter b slot)

  abbrev rests : Bool
  rests = eqb line.authority 0 && eqb line.newcounter 0 && same line.newkey zero_block

  abbrev three : Bool
  three = is_mark line.held && is_mark line.waits && (is_on line.held || same line.key zero_block)

  pub fine_line : line_fine b slot line ≡ true → Fine b slot line
  unfolding line_fine waiting_fine
  fine_line e =
      let all = both (leb line.counter (counter_kept slot max_counter)) (three && waiting_fine b slot line) e in
      let more = both three (waiting_fine b slot line) all.1 in
      let two = both (is_mark line.held && is_mark line.waits) (is_on line.held || same line.key zero_block) more.0 in
      record {
        counted = leb-true _ _ all.0;
        marked = both _ _ two.0;
        unheld = λ h. equal_same _ _ (or_false _ _ two.1 h);
        waiting = λ h. let now = both _ _ (if_true (is_on line.waits) waits_fine rests more.1 h) in
            (can_write b slot line.authority (eqb-true _ _ now.0), eqb-true _ _ now.1);
        silent = λ h. let now = both _ _ (if_false (is_on line.waits) waits_fine rests more.1 h) in
            let none = both _ _ now.0 in
            (eqb-true _ _ none.0, eqb-true _ _ none.1, equal_same _ _ now.1);
      }

  pub line_fine_lem : Fine b slot line → line_fine b slot line ≡ true
  unfolding line_fine waiting_fine
  line_fine_lem f =
      and_true _ _ (le-leb _ _ f.counted)
      (and_true _ _
      (and_true _ _ (and_true _ _ f.marked.0 f.marked.1) (false_or _ _ (λ h. same_equal _ _ (f.unheld h))))
      (if_either (is_on line.waits) waits_fine rests
      (λ h. let now = f.waiting h in and_true _ _ (eq-eqb _ _ (writes_pair b slot line.authority now.0)) (eq-eqb _ _ now.1))
      (λ h. let none = f.silent h in
      and_true _ _ (and_true _ _ (eq-eqb _ _ none.0) (eq-eqb _ _ none.1)) (same_equal _ _ none.2))))

true_not : (a : Bool) → a ≡ false → not a ≡ true
true_not true h = sym h
true_not false h = refl

-- ---- a book
pub record Opened (b : Book) : Type 0 where
  pub open_marks_lem : b.marks ≡ open_marks
  pub named : same b.uid zero_uid ≡ false
  pub lines : (slot : ℕ) → slot ≤ 14 → Fine b slot (line_at b slot)

pub open_book : (b : Book) → is_open b ≡ true → Opened b
unfolding is_open lines_fine
open_book b e =
    let one = both (same b.marks open_marks && not (same b.uid zero_uid)) (lines_fine b) e in
    let two = both (same b.marks open_marks) (not (same b.uid zero_uid)) one.0 in
    record {
      open_marks_lem = equal_same _ _ two.0;
      named = not-true _ two.1;
      lines = λ slot h. fine_line b slot (line_at b slot) (all_each 15 (λ n. line_fine b n (line_at b n)) one.1 slot (omega (arith, h)));
    }

pub book_open : (b : Book) → Opened b → is_open b ≡ true
unfolding is_open lines_fine
book_open b o =
    and_true _ _ (and_true _ _ (same_equal _ _ o.open_marks_lem) (true_not _ o.named))
    (each_all 15 (λ n. line_fine b n (line_at b n)) (λ slot h. line_fine_lem b slot (line_at b slot) (o.lines slot (omega (arith, h)))))
