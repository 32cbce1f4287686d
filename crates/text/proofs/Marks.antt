-- Where the first mark stands: none stands before it, and one stands there unless it is the end.
-- Assumes nothing.
use mathlib.Core.Path.{◌≡◌, refl}
use mathlib.Core.Bool.{true, false}
use mathlib.Core.List.{List}
use Prim.Native.Nat.{ℕ, ◌≤◌, ◌<◌}
use lib.Dec.{eqb}
use lib.ListN.{length, get_or}
use Rattle.std.proofs.lemmas.List.Sums.{prefix_len-le-length, fails_before_first, passes_at_first}
use Rattle.text.specs.Marks.{index_of}

pub first_mark : (mark : ℕ) (text : List ℕ) → (index_of mark text ≡ index_of mark text) × (index_of mark text ≤ length text)
    × ((k : ℕ) → k < index_of mark text → eqb (get_or text k 0) mark ≡ false)
    × (index_of mark text < length text → eqb (get_or text (index_of mark text) 0) mark ≡ true)
unfolding index_of
first_mark mark text = (refl, prefix_len-le-length _ text, λ k. fails_before_first _ text k 0, passes_at_first _ text 0)
