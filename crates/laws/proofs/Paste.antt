-- A list with a part pasted in, and what then lies at each index.
-- Assumes nothing.
use Prim.Native.Nat.{ℕ, ◌+◌, ◌≤◌, ◌<◌}
use mathlib.Core.Path.{◌≡◌, sym, ◌∙◌, ap}
use mathlib.Core.List.{List, ◌++◌}
use native.Mathlib.Omega.{arith}
use lib.ListN.{length, take, get_or, get_or-append}
use lib.Seq.{paste, take-paste, drop-paste, length-take-le, get_or-take, get_or-drop, get_or-append-add}

-- n elements of s pasted into d at `at`
module _ (d s : List ℕ) (at n : ℕ) (room : at + n ≤ length d) (enough : n ≤ length s) where
  -- up to their end there is d's front and they; d's front is `at` long
  up_to : (i : ℕ) → i < at + n → get_or (paste d at s n) i 0 ≡ get_or (take at d ++ take n s) i 0
  up_to i l =
      sym (get_or-take (at + n) (paste d at s n) i 0 l) ∙ ap (λ (t : List ℕ). get_or t i 0) (take-paste d at s n (omega arith) enough)

  front : length (take at d) ≡ at
  front = length-take-le at d (omega arith)

  pub paste_before : (i : ℕ) → i < at → get_or (paste d at s n) i 0 ≡ get_or d i 0
  paste_before i l =
      up_to i (omega arith) ∙ get_or-append (take at d) (take n s) 0 i (omega (arith, front)) ∙ get_or-take at d i 0 l

  pub paste_at : (i : ℕ) → i < n → get_or (paste d at s n) (at + i) 0 ≡ get_or s i 0
  paste_at i l =
      up_to (at + i) (omega arith)
      ∙ sym (ap (λ (k : ℕ). get_or (take at d ++ take n s) (k + i) 0) front)
      ∙ get_or-append-add (take at d) (take n s) i 0
      ∙ get_or-take n s i 0 l

  pub paste_after : (i : ℕ) → get_or (paste d at s n) (at + n + i) 0 ≡ get_or d (at + n + i) 0
  paste_after i =
      sym (get_or-drop (at + n) (paste d at s n) i 0)
      ∙ ap (λ (t : List ℕ). get_or t i 0) (drop-paste d at s n (omega arith) enough)
      ∙ get_or-drop (at + n) d i 0
