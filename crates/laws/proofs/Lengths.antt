-- What the test of lengths tells of each of them. `each_right` gives the length of row k from the test of all rows.
-- Assumes nothing.
use mathlib.Core.Path.{◌≡◌, refl}
use mathlib.Core.Bool.{Bool, true, ◌&&◌}
use mathlib.Core.List.{List, [], ◌∷◌}
use Prim.Native.Nat.{ℕ, zero, suc}
use borrow.Author.Tests.{eqb-true}
use lib.Dec.{eqb}
use lib.ListN.{get_or}
use Rattle.laws.proofs.Test.{both}
use Rattle.laws.specs.Lengths.{right_from, right_lengths}

-- row k: its number is what it must be; past the last row, 0 is 0
abbrev pub Right : List (ℕ × ℕ) → ℕ → Type 0
Right rows k = (get_or rows k (0, 0)).0 ≡ (get_or rows k (0, 0)).1

so_far : (so : Bool) (rows : List (ℕ × ℕ)) → right_from so rows ≡ true → so ≡ true
so_far so [] h = h
so_far so (row ∷ rows) h = (both so (eqb row.0 row.1) (so_far (so && eqb row.0 row.1) rows h)).0

each_from : (so : Bool) (rows : List (ℕ × ℕ)) → right_from so rows ≡ true → (k : ℕ) → Right rows k
each_from so [] h k = refl
each_from so (row ∷ rows) h zero = eqb-true row.0 row.1 (both so (eqb row.0 row.1) (so_far (so && eqb row.0 row.1) rows h)).1
each_from so (row ∷ rows) h (suc k) = each_from (so && eqb row.0 row.1) rows h k

pub each_right : (rows : List (ℕ × ℕ)) → right_lengths rows ≡ true → (k : ℕ) → Right rows k
unfolding right_lengths
each_right rows h = each_from true rows h
