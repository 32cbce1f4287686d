-- The test whether numbers are those asked for, such as the lengths of buffers: a row has a number, and what it must be.
-- Assumes nothing.
use Rattle.std.specs.Prelude.{Bool, true, ◌&&◌, List, [], ◌∷◌, ℕ, eqb}

-- row after row, as far as all before were right
abbrev pub right_from : Bool → List (ℕ × ℕ) → Bool
right_from so [] = so
right_from so (row ∷ rows) = right_from (so && eqb row.0 row.1) rows

unfoldable pub right_lengths : List (ℕ × ℕ) → Bool
right_lengths rows = right_from true rows
