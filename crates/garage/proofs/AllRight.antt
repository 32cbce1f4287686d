-- A test of lengths, each with what it must be beside it, is the test of every row, as an iterator's `all` makes it.
-- Assumes nothing.
use mathlib.Core.Path.{◌≡◌, sym, ap, ◌∙◌}
use mathlib.Core.Bool.{Bool, true, ◌&&◌, and-true, and_assoc}
use mathlib.Core.List.{List, [], ◌∷◌}
use Prim.Native.Nat.{ℕ}
use lib.Dec.{eqb}
use lib.ListN.{length, get_or}
use Rattle.laws.specs.All.{all}
use Rattle.laws.specs.Lengths.{right_from, right_lengths}
use Rattle.laws.proofs.AllOf.{first, all_decided}

abbrev row_right : List (ℕ × ℕ) → ℕ → Bool
row_right rows k = eqb (get_or rows k (0, 0)).0 (get_or rows k (0, 0)).1

so_far : (so : Bool) (rows : List (ℕ × ℕ)) → right_from so rows ≡ (so && all (length rows) (row_right rows))
unfolding all
so_far so [] = sym (and-true so)
so_far so (row ∷ rows) =
    so_far (so && eqb row.0 row.1) rows ∙ and_assoc so (eqb row.0 row.1) (all (length rows) (row_right rows))
    ∙ ap (λ (b : Bool). so && b) (first (length rows) (row_right (row ∷ rows)))

pub all_right : (rows : List (ℕ × ℕ)) → right_lengths rows ≡ all (length rows) (row_right rows)
unfolding right_lengths
all_right rows = so_far true rows

pub ruleset right_decided = (all_right, all_decided)
