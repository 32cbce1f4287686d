-- Writing M1 to M3, and judging an M4 and M5, with the order of their checks, for lent buffers of any lengths and any numbers.
-- Assumes nothing.
use Rattle.std.specs.Prelude.{Bool, not, cond, ◌&&◌, List, [], ◌∷◌, ℕ, ◌-◌, ◌^◌, leb, length, Option, Some, None, Result, Ok, Err}
use Rattle.laws.specs.Lengths.{right_lengths}
use Rattle.laws.specs.Ranges.{within}
use Rattle.laws.specs.Same.{same}
use Rattle.basics.specs.Answers.{general_error, key_invalid, number_of, first_fault}
use Rattle.basics.specs.declared.Refusal.{Refusal}
use Rattle.basics.specs.Marks.{off, on, is_on}
use Rattle.modes.specs.Blocks.{zero_block}
use Rattle.message.specs.Flags.{flag_count}
use Rattle.message.specs.Messages.{build, m4, m5}
use Rattle.message.specs.Slots.{counter_kept}
use Rattle.garage.specs.Book.{line_at, put_line}
use Rattle.garage.specs.Open.{is_open}
use Rattle.garage.specs.Outcome.{Outcome, refused, done, by_answer}
use Rattle.garage.specs.Rules.{next_counter, secret_of, pair_checks}
use Rattle.garage.specs.declared.Book.{Book}
use Rattle.garage.specs.declared.Line.{Line}

-- ---- writing
-- the new key 16 bytes; M1, M2 and M3 have room for 16, 32 and 16
abbrev pub write_lengths : ℕ → ℕ → ℕ → ℕ → List (ℕ × ℕ)
write_lengths key m1 m2 m3 = (key, 16) ∷ (m1, 16) ∷ (m2, 32) ∷ (m3, 16) ∷ []

-- not open; a wrong length; flags above 31; then those of the pair
abbrev pub write_checks : Book → Bool → ℕ → ℕ → ℕ → List (Bool × ℕ)
write_checks b lengths flags target authority =
    (not (is_open b), general_error)
    ∷ (not lengths, general_error)
    ∷ (not (leb flags (2 ^ flag_count - 1)), general_error)
    ∷ pair_checks b target authority

unfoldable pub write_answer : Book → Bool → ℕ → ℕ → ℕ → ℕ
write_answer b lengths flags target authority = first_fault (write_checks b lengths flags target authority)

-- it waits, in place of what waited for that target
abbrev pub waiting_line : ℕ → ℕ → List ℕ → Line → Line
waiting_line authority counter key line =
    record {
      key = line.key;
      held = line.held;
      counter = line.counter;
      waits = on;
      authority = authority;
      newcounter = counter;
      newkey = key;
    }

abbrev pub noted : Book → ℕ → ℕ → List ℕ → Book
noted b target authority key = put_line target (waiting_line authority (next_counter b target) key (line_at b target)) b

unfoldable pub writing : Book → ℕ → ℕ → ℕ → List ℕ → List ℕ → List ℕ → List ℕ → Outcome
writing b target authority flags key before1 before2 before3 =
    let lengths = write_lengths (length key) (length before1) (length before2) (length before3) in
    let answer = write_answer b (right_lengths lengths) flags target authority in
    let built = build flag_count b.uid target authority (secret_of b authority) (next_counter b target) flags key in
    by_answer answer
    (done (noted b target authority key) 0 (built.m1 ∷ built.m2 ∷ built.m3 ∷ []))
    (refused answer b (before1 ∷ before2 ∷ before3 ∷ []))

-- ---- judging
-- M4 32 bytes, M5 16
abbrev pub judge_lengths : ℕ → ℕ → List (ℕ × ℕ)
judge_lengths m4 m5 = (m4, 32) ∷ (m5, 16) ∷ []

-- not open; a wrong length; a target outside 1 to 14
abbrev pub judge_checks : Book → Bool → ℕ → List (Bool × ℕ)
judge_checks b lengths target =
    (not (is_open b), general_error)
    ∷ (not lengths, general_error)
    ∷ (not (within 1 14 target), key_invalid)
    ∷ []

unfoldable pub judge_answer : Book → Bool → ℕ → ℕ
judge_answer b lengths target = first_fault (judge_checks b lengths target)

-- a message waits for the target, and both are what a device of that UID writes for it
unfoldable pub is_proof : Book → ℕ → List ℕ → List ℕ → Bool
is_proof b target fourth fifth =
    let line = line_at b target in
    let expected = m4 b.uid target line.authority (counter_kept target line.newcounter) line.newkey in
    is_on line.waits && (same fourth expected && same fifth (m5 line.newkey expected))

-- the new key and its counter are in the book, and nothing waits
abbrev pub taken_line : Line → Line
taken_line line =
    record {
      key = line.newkey;
      held = on;
      counter = line.newcounter;
      waits = off;
      authority = 0;
      newcounter = 0;
      newkey = zero_block;
    }

abbrev pub taken : Book → ℕ → Book
taken b target = put_line target (taken_line (line_at b target)) b

abbrev pub verdict_yes : ℕ
verdict_yes = 1

abbrev pub verdict_no : ℕ
verdict_no = 0

unfoldable pub judging : Book → ℕ → List ℕ → List ℕ → Outcome
judging b target fourth fifth =
    let answer = judge_answer b (right_lengths (judge_lengths (length fourth) (length fifth))) target in
    by_answer answer
    (cond (is_proof b target fourth fifth) (done (taken b target) verdict_yes []) (done b verdict_no []))
    (refused answer b [])

-- what a reply to it leaves: a yes and the book after it; a no, or a refusal, and the book as it was
abbrev pub judged : Book → Result (Option Book) Refusal → Outcome
judged b (Ok (Some after)) = done after verdict_yes []
judged b (Ok None) = done b verdict_no []
judged b (Err refusal) = refused (number_of refusal) b []
