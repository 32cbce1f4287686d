-- A text over the front of a buffer: none of it, one byte more, and all of it that has room.
-- Assumes nothing.
use mathlib.Core.Path.{◌≡◌, sym, ap, ap₂, ◌∙◌}
use mathlib.Core.List.{List, [], ◌∷◌, ◌++◌}
use Prim.Native.Nat.{ℕ, suc, ◌-◌, ◌≤◌, ◌<◌, min}
use native.Mathlib.Decide.{dec_le}
use native.Mathlib.Nat.{lt_of_not-le}
use native.Mathlib.Numerals.{add-one}
use native.Mathlib.Omega.{arith}
use lib.ListN.{length, take, drop, get_or, set, length-append, length-take, length-drop, drop_of_length-le, take-append-drop}
use lib.Seq.{take-nil, take_all, take-suc, take-append-le, length-take-le, drop-cons, append_snoc, set-append_seam, set_out}
use Rattle.text.specs.Buffers.{over}

pub over_none : (b : List ℕ) → over [] b ≡ b
unfolding over
over_none b = ap (λ (l : List ℕ). l ++ b) (take-nil (length b))

-- a byte more, where there is room for it
put_next : (s b : List ℕ) (v : ℕ) → length s < length b → set (over s b) (length s) v ≡ over (s ++ (v ∷ [])) b
unfolding over
put_next s b v room =
    let more : length (s ++ (v ∷ [])) ≡ suc (length s) = length-append s (v ∷ []) ∙ add-one (length s) in
    ap₂ (λ (x y : List ℕ). set (x ++ y) (length s) v) (take_all (length b) s (omega arith)) (drop-cons b (length s) 0 room)
    ∙ set-append_seam s (get_or b (length s) 0) (drop (suc (length s)) b) v
    ∙ sym (append_snoc s v (drop (suc (length s)) b))
    ∙ sym (ap₂ (λ (x : List ℕ) (n : ℕ). x ++ drop n b) (take_all (length b) (s ++ (v ∷ [])) (omega arith)) more)

-- where there is none, what comes after changes nothing
over_past : (s t b : List ℕ) → length b ≤ length s → over (s ++ t) b ≡ over s b
unfolding over
over_past s t b full =
    ap₂ (λ (x y : List ℕ). x ++ y) (take-append-le (length b) s t full)
    (drop_of_length-le b {i = length (s ++ t)} (omega (arith, length-append s t)) ∙ sym (drop_of_length-le b {i = length s} full))

length_over : (s b : List ℕ) → length (over s b) ≡ length b
unfolding over
length_over s b =
    length-append (take (length b) s) (drop (length s) b) ∙ omega (arith, length-take (length b) s, length-drop (length s) b)

pub over_more : (s b : List ℕ) (v : ℕ) → set (over s b) (length s) v ≡ over (s ++ (v ∷ [])) b
over_more s b v = cases (dec_le (length b) (length s))
  where
    cases : Dec (length b ≤ length s) → set (over s b) (length s) v ≡ over (s ++ (v ∷ [])) b
    cases (yes h) = set_out (over s b) (length s) v (omega (arith, length_over s b)) ∙ sym (over_past s (v ∷ []) b h)
    cases (no h) = put_next s b v (lt_of_not-le h)

-- the last byte of a front is set over the others, and what has no room changes nothing
pub over_last : (t b : List ℕ) (i : ℕ) → 0 < i → i ≤ length t → over (take i t) b ≡ set (over (take (i - 1) t) b) (i - 1) (get_or t (i - 1) 0)
over_last t b i some enough =
    let k : ℕ = i - 1 in
    let next : i ≡ suc k = omega arith in
    let long : length (take k t) ≡ k = length-take-le k t (omega arith) in
    ap (λ (l : List ℕ). over l b) (ap (λ (n : ℕ). take n t) next ∙ take-suc t k 0 (omega arith))
    ∙ sym (over_more (take k t) b (get_or t k 0))
    ∙ ap (λ (n : ℕ). set (over (take k t) b) n (get_or t k 0)) long

pub over_all : (t b : List ℕ) (i : ℕ) → i ≡ min (length t) (length b) → over (take i t) b ≡ over t b
over_all t b i e = cases (dec_le (length b) (length t))
  where
    cases : Dec (length b ≤ length t) → over (take i t) b ≡ over t b
    cases (yes h) =
        let full : length b ≤ length (take i t) = omega (arith, e, length-take i t) in
        sym (over_past (take i t) (drop i t) b full) ∙ ap (λ (l : List ℕ). over l b) (take-append-drop i t)
    cases (no h) = ap (λ (l : List ℕ). over l b) (take_all i t (omega (arith, e, lt_of_not-le h)))
