-- The comparison of two texts of one length, folded over their bytes in pairs: it is `same`.
-- Assumes nothing.
use mathlib.Core.Path.{◌≡◌, sym, ◌∙◌}
use mathlib.Core.Bool.{Bool, true, ◌&&◌, and_assoc, and-true}
use mathlib.Core.List.{List, [], ◌∷◌}
use Prim.Native.Nat.{ℕ}
use native.Mathlib.Omega.{arith}
use lib.Dec.{eqb}
use lib.ListN.{length}
use Rattle.std.specs.List.{fold, zip}
use Rattle.laws.specs.Same.{same}

-- a pair of bytes more
abbrev pub agree : Bool → ℕ × ℕ → Bool
agree so pair = so && eqb pair.0 pair.1

agreed_from : (a b : List ℕ) (so : Bool) → length a ≡ length b → fold agree so (zip a b) ≡ so && same a b
unfolding same
agreed_from [] [] so long = sym (and-true so)
agreed_from [] (y ∷ b) so long = absurd (omega arith)
agreed_from (x ∷ a) [] so long = absurd (omega arith)
agreed_from (x ∷ a) (y ∷ b) so long = agreed_from a b (so && eqb x y) (omega arith) ∙ and_assoc so (eqb x y) (same a b)

pub agreed : (a b : List ℕ) → length a ≡ length b → fold agree true (zip a b) ≡ same a b
agreed a b long = agreed_from a b true long
