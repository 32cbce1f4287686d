-- When a book counts as open; the blank book, and opening.
-- Assumes nothing.
use Rattle.std.specs.Prelude.{◌≡◌, Bool, true, not, cond, ◌&&◌, ◌||◌, List, [], ◌∷◌, ℕ, ◌/◌, eqb, leb, length, get_or, replicate}
use Rattle.std.proofs.Math.Seq.{paste}
use Rattle.laws.specs.All.{all}
use Rattle.laws.specs.Lengths.{right_lengths}
use Rattle.laws.specs.Same.{same}
use Rattle.laws.specs.Tabulate.{tabulate}
use Rattle.aes.specs.State.{byte}
use Rattle.basics.specs.Answers.{no_error, general_error, first_fault}
use Rattle.basics.specs.Bytes.{zero_uid}
use Rattle.basics.specs.Marks.{off, on, is_on, is_mark}
use Rattle.modes.specs.Blocks.{zero_block}
use Rattle.message.specs.FirstBlock.{max_counter}
use Rattle.message.specs.Slots.{counter_kept}
use Rattle.garage.specs.Book.{line_at, Shaped}
use Rattle.garage.specs.Outcome.{Outcome, refused, done, by_answer}
use Rattle.garage.specs.Rules.{next_counter, pair_answer}
use Rattle.garage.specs.declared.Book.{Book}
use Rattle.garage.specs.declared.Line.{Line}

-- ---- when a book counts as open: it has the marks of an open one, its UID isn't zero, and each line is as it may be
abbrev pub open_marks : List ℕ
open_marks = on ∷ off ∷ off ∷ off ∷ []

-- nothing of a message is left where none waits; one that waits could be written now, with the same counter
unfoldable pub waiting_fine : Book → ℕ → Line → Bool
waiting_fine b slot line =
    cond (is_on line.waits)
    (eqb (pair_answer b slot line.authority) no_error && eqb line.newcounter (next_counter b slot))
    (eqb line.authority 0 && eqb line.newcounter 0 && same line.newkey zero_block)

-- the counter is at most 268,435,455, or 0 where the slot has none; a key that isn't held is zero
unfoldable pub line_fine : Book → ℕ → Line → Bool
line_fine b slot line =
    leb line.counter (counter_kept slot max_counter)
    && (is_mark line.held && is_mark line.waits && (is_on line.held || same line.key zero_block) && waiting_fine b slot line)

unfoldable pub lines_fine : Book → Bool
lines_fine b = all 15 (λ slot. line_fine b slot (line_at b slot))

unfoldable pub is_open : Book → Bool
is_open b = same b.marks open_marks && not (same b.uid zero_uid) && lines_fine b

-- what theorems ask of a book: it has the shape that its type gives it, and is open
abbrev pub InUse : Book → Type 0
InUse b = Shaped b × (is_open b ≡ true)

-- ---- the blank book: all zero, and not open
abbrev pub unwritten : List ℕ → List ℕ → List ℕ → List ℕ → List ℕ → Book
unwritten uid keys held counters marks =
    record {
      keys = keys;
      newkeys = replicate 240 0;
      counters = counters;
      newcounters = replicate 15 0;
      held = held;
      waits = replicate 15 off;
      authorities = replicate 15 0;
      uid = uid;
      marks = marks;
    }

abbrev pub blank : Book
blank = unwritten zero_uid (replicate 240 0) (replicate 15 off) (replicate 15 0) (replicate 4 off)

-- ---- opening: from the UID, the keys of slots 0 to 14 with a mark for each, on where it is held, and the last counters of slots
-- 1 to 13
abbrev pub open_lengths : ℕ → ℕ → ℕ → ℕ → List (ℕ × ℕ)
open_lengths uid keys held counters = (uid, 15) ∷ (keys, 240) ∷ (held, 15) ∷ (counters, 13) ∷ []

-- a wrong length; a UID of zeros; a mark that is neither; a counter above 268,435,455
abbrev pub open_checks : List ℕ → List ℕ → List ℕ → List ℕ → List (Bool × ℕ)
open_checks uid keys held counters =
    (not (right_lengths (open_lengths (length uid) (length keys) (length held) (length counters))), general_error)
    ∷ (same uid zero_uid, general_error)
    ∷ (not (all 15 (λ i. is_mark (byte held i))), general_error)
    ∷ (not (all 13 (λ i. leb (get_or counters i 0) max_counter)), general_error)
    ∷ []

unfoldable pub open_answer : List ℕ → List ℕ → List ℕ → List ℕ → ℕ
open_answer uid keys held counters = first_fault (open_checks uid keys held counters)

-- sixteen bytes a slot; a key that isn't held is kept as zeros
unfoldable pub held_keys : List ℕ → List ℕ → List ℕ
held_keys keys held = tabulate 240 (λ i. cond (is_on (byte held (i / 16))) (byte keys i) 0)

-- nothing waits in a new book
abbrev pub new_book : List ℕ → List ℕ → List ℕ → List ℕ → Book
new_book uid keys held counters = unwritten uid (held_keys keys held) held (paste (replicate 15 0) 1 counters 13) open_marks

unfoldable pub opening : List ℕ → List ℕ → List ℕ → List ℕ → Outcome
opening uid keys held counters =
    let answer = open_answer uid keys held counters in
    by_answer answer (done (new_book uid keys held counters) 0 []) (refused answer blank [])
