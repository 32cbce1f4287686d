-- A table by ranges: each row has a first and a last number, both included, and what holds between them.
-- Assumes nothing.
use Rattle.std.specs.Prelude.{Bool, cond, ◌&&◌, List, [], ◌∷◌, ℕ, leb}

abbrev pub within : ℕ → ℕ → ℕ → Bool
within first last n = leb first n && leb n last

module _ {A : Type 0} where
  -- what the first row says that n lies in, and the last argument where there is none
  unfoldable pub row_of : ℕ → List (ℕ × ℕ × A) → A → A
  row_of n [] other = other
  row_of n (row ∷ rows) other = cond (within row.0 row.1 n) row.2 (row_of n rows other)
