-- Calls of a book one after another, each on the book that the one before it left.
-- Assumes nothing.
use Rattle.std.specs.Prelude.{Bool, false, cond, ◌&&◌, List, [], ◌∷◌, ℕ, ◌+◌, eqb}
use Rattle.basics.specs.Answers.{no_error}
use Rattle.garage.specs.Calls.{writing, judging, verdict_yes}
use Rattle.garage.specs.Outcome.{Outcome}
use Rattle.garage.specs.declared.Book.{Book}

-- with the numbers and buffers that it is given; b1 to b3 are room for M1 to M3
pub data Call : Type 0 where
  write : (target authority flags : ℕ) (key b1 b2 b3 : List ℕ) → Call
  judge : (target : ℕ) (m4 m5 : List ℕ) → Call

abbrev pub lent : Call → List (List ℕ)
lent (write target authority flags key b1 b2 b3) = b1 ∷ b2 ∷ b3 ∷ []
lent (judge target m4 m5) = []

abbrev pub step : Book → Call → Outcome
step b (write target authority flags key b1 b2 b3) = writing b target authority flags key b1 b2 b3
step b (judge target m4 m5) = judging b target m4 m5

-- the foreman's day: each call, with what it left
abbrev pub run : Book → List Call → List (Call × Outcome)
run b [] = []
run b (call ∷ calls) = (call, step b call) ∷ run (step b call).book calls

-- the book after it
abbrev pub after : Book → List (Call × Outcome) → Book
after b [] = b
after b (entry ∷ day) = after entry.1.book day

-- ---- a message that was written for a slot, and a yes for it
abbrev pub is_write_to : ℕ → Call → Bool
is_write_to slot (write target authority flags key b1 b2 b3) = eqb target slot
is_write_to slot (judge target m4 m5) = false

abbrev pub is_judge_of : ℕ → Call → Bool
is_judge_of slot (write target authority flags key b1 b2 b3) = false
is_judge_of slot (judge target m4 m5) = eqb target slot

abbrev pub wrote : ℕ → Call × Outcome → Bool
wrote slot entry = is_write_to slot entry.0 && eqb entry.1.answer no_error

abbrev pub said_yes : ℕ → Call × Outcome → Bool
said_yes slot entry = is_judge_of slot entry.0 && eqb entry.1.verdict verdict_yes

-- how many there were on a day
abbrev pub count : (Call × Outcome → Bool) → List (Call × Outcome) → ℕ
count test [] = 0
count test (entry ∷ day) = cond (test entry) 1 0 + count test day
