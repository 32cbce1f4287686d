-- An array of zeros that is filled from the front with elements of a list.
-- Assumes nothing.
use mathlib.Core.Path.{◌≡◌, ap, ◌∙◌}
use mathlib.Core.List.{List, ◌∷◌, ◌++◌}
use Prim.Native.Nat.{ℕ, suc, ◌-◌, ◌≤◌, ◌<◌}
use native.Mathlib.Omega.{arith}
use lib.ListN.{length, take, set, replicate}
use lib.Seq.{length-take-le, set_at}

-- i of n places are filled
abbrev pub Filled : ℕ → List ℕ → ℕ → List ℕ → Type 0
Filled n l i p = p ≡ take i l ++ replicate (n - i) 0

-- any number stored in the next place
pub put_next : (l p : List ℕ) (n i v : ℕ) → i < n → i ≤ length l → Filled n l i p → set p i v ≡ take i l ++ (v ∷ replicate (n - suc i) 0)
put_next l p n i v room enough inv =
    let next : n - i ≡ suc (n - suc i) = omega arith in
    ap (λ (q : List ℕ). set q i v) (inv ∙ ap (λ (k : ℕ). take i l ++ replicate k 0) next)
    ∙ set_at (take i l) 0 (replicate (n - suc i) 0) v i (length-take-le i l enough)
