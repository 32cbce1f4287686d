-- The test whether two lists of numbers are the same.
-- Assumes nothing.
use Rattle.std.specs.Prelude.{Bool, true, false, ◌&&◌, List, [], ◌∷◌, ℕ, eqb}

unfoldable pub same : List ℕ → List ℕ → Bool
same [] [] = true
same (x ∷ a) (y ∷ b) = eqb x y && same a b
same [] (y ∷ b) = false
same (x ∷ a) [] = false
