-- What a call of the book leaves: the answer's number, the book, the verdict (0 where the call has none), and the lent buffers that
-- it writes to, in their order.
-- Assumes nothing.
use Rattle.std.specs.Prelude.{cond, List, ℕ, eqb}
use Rattle.basics.specs.Answers.{no_error}
use Rattle.garage.specs.declared.Book.{Book}

pub record Outcome : Type 0 where
  pub answer : ℕ
  pub book : Book
  pub verdict : ℕ
  pub buffers : List (List ℕ)

abbrev pub outcome : ℕ → Book → ℕ → List (List ℕ) → Outcome
outcome answer b verdict buffers = record { answer = answer; book = b; verdict = verdict; buffers = buffers }

abbrev pub refused : ℕ → Book → List (List ℕ) → Outcome
refused answer b before = outcome answer b 0 before

abbrev pub done : Book → ℕ → List (List ℕ) → Outcome
done b verdict after = outcome no_error b verdict after

-- a success where the answer is 0, and a refusal where it is any other
unfoldable pub by_answer : ℕ → Outcome → Outcome → Outcome
by_answer answer success refusal = cond (eqb answer no_error) success refusal
