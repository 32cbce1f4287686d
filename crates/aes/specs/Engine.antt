-- What the engine's helpers hand to one another.
-- Assumes nothing.
use Rattle.std.specs.Prelude.{◌≡◌, List, [], ◌∷◌, ℕ}
use Rattle.aes.specs.State.{byte}
use Rattle.aes.specs.Schedule.{word}

-- a mixing of the column that a list of four bytes is
abbrev pub on_column : (ℕ → ℕ → ℕ → ℕ → List ℕ) → List ℕ → List ℕ
on_column f l = f (byte l 0) (byte l 1) (byte l 2) (byte l 3)

-- the state whose columns are the words a, b, c and d
abbrev pub four_columns : List ℕ → List ℕ → List ℕ → List ℕ → List ℕ
four_columns a b c d =
    byte a 0 ∷ byte a 1 ∷ byte a 2 ∷ byte a 3
    ∷ byte b 0 ∷ byte b 1 ∷ byte b 2 ∷ byte b 3
    ∷ byte c 0 ∷ byte c 1 ∷ byte c 2 ∷ byte c 3
    ∷ byte d 0 ∷ byte d 1 ∷ byte d 2 ∷ byte d 3
    ∷ []

-- t is the state s after a mixing that may give what `gives` says of each column
pub record Mixed (gives : List ℕ → List ℕ → Type 0) (s t : List ℕ) : Type 0 where
  pub a : List ℕ
  pub b : List ℕ
  pub c : List ℕ
  pub d : List ℕ
  pub first : gives (word s 0) a
  pub second : gives (word s 1) b
  pub third : gives (word s 2) c
  pub fourth : gives (word s 3) d
  pub whole : t ≡ four_columns a b c d
