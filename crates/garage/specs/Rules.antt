-- The rules of the book, each in one place: the counter of a new message, the secret that it is written under, and whether a pair
-- can have one.
-- Assumes nothing.
use Rattle.std.specs.Prelude.{Bool, not, cond, ◌&&◌, List, [], ◌∷◌, ℕ, ◌+◌, eqb, leb}
use Rattle.basics.specs.Answers.{key_invalid, key_empty, key_update_error, first_fault}
use Rattle.message.specs.FirstBlock.{max_counter}
use Rattle.message.specs.Messages.{empty_key}
use Rattle.message.specs.Slots.{counter_kept, allowed}
use Rattle.garage.specs.Book.{line_at, is_held}
use Rattle.garage.specs.declared.Book.{Book}

-- the last counter plus one; 0 for slot 14
unfoldable pub next_counter : Book → ℕ → ℕ
next_counter b target = counter_kept target ((line_at b target).counter + 1)

-- the authority's key; the target itself, where its key isn't held, counts as sixteen FF
unfoldable pub secret_of : Book → ℕ → List ℕ
secret_of b authority = cond (is_held b authority) (line_at b authority).key empty_key

-- pair; the authority's key not held and the authority not the target itself; a counter past 268,435,455
abbrev pub pair_checks : Book → ℕ → ℕ → List (Bool × ℕ)
pair_checks b target authority =
    (not (allowed target authority), key_invalid)
    ∷ (not (is_held b authority) && not (eqb authority target), key_empty)
    ∷ (not (leb (next_counter b target) max_counter), key_update_error)
    ∷ []

unfoldable pub pair_answer : Book → ℕ → ℕ → ℕ
pair_answer b target authority = first_fault (pair_checks b target authority)
