-- A loop that reads digits: character after character, and two digits to a byte.
-- Assumes nothing.
use mathlib.Core.Path.{◌≡◌, refl, sym, ap, ap₂, ◌∙◌}
use mathlib.Core.Bool.{Bool, true, false, cond}
use mathlib.Core.List.{List, [], ◌∷◌, ◌++◌, append-nil}
use Prim.Native.Nat.{ℕ, suc, ◌+◌, ◌-◌, ◌*◌, ◌/◌, ◌%◌, ◌≤◌, ◌<◌}
use native.Mathlib.Numerals.{add-one}
use native.Mathlib.Omega.{arith}
use borrow.Author.Tests.{lt-ltb, le-ltb, eqb-true, eqb-false}
use lib.Dec.{eqb, ltb}
use lib.ListN.{length, take, get_or, set, length-append}
use lib.Seq.{take-suc, take_all, get_or-append_seam}
use Rattle.text.specs.Marks.{index_of}
use Rattle.laws.specs.All.{all}
use Rattle.laws.proofs.Test.{agree}
use Rattle.text.proofs.Buffers.{over_none, over_more}
use Rattle.text.specs.Buffers.{over}
use Rattle.text.specs.Hex.{letters, letter_of, digit_value, in_digits, digits_in, pairs}

-- ---- the digits of a text, character after character
parted : (b : Bool) (x : ℕ) (u v : List ℕ) → cond b (x ∷ u ++ v) (u ++ v) ≡ cond b (x ∷ u) u ++ v
parted true x u v = refl
parted false x u v = refl

digits_parts : (s t : List ℕ) → digits_in (s ++ t) ≡ digits_in s ++ digits_in t
unfolding digits_in
digits_parts [] t = refl
digits_parts (c ∷ s) t =
    ap (λ (l : List ℕ). cond (ltb (digit_value c) 16) (digit_value c ∷ l) l) (digits_parts s t)
    ∙ parted (ltb (digit_value c) 16) (digit_value c) (digits_in s) (digits_in t)

digits_next : (text : List ℕ) (i : ℕ) → i < length text
    → digits_in (take (i + 1) text) ≡ digits_in (take i text) ++ digits_in (get_or text i 0 ∷ [])
digits_next text i h =
    ap digits_in (ap (λ (n : ℕ). take n text) (add-one i) ∙ take-suc text i 0 h) ∙ digits_parts (take i text) (get_or text i 0 ∷ [])

-- ---- two digits to a byte: the first of them adds none
length_pairs : (l : List ℕ) → length (pairs l) ≡ length l / 2
unfolding pairs
length_pairs [] = refl
length_pairs (a ∷ []) = refl
length_pairs (a ∷ b ∷ l) = ap suc (length_pairs l) ∙ omega arith

first_of_two : (l : List ℕ) (d : ℕ) → length l % 2 ≡ 0 → pairs (l ++ (d ∷ [])) ≡ pairs l
unfolding pairs
first_of_two [] d h = refl
first_of_two (a ∷ []) d h = absurd (omega arith)
first_of_two (a ∷ b ∷ l) d h = ap (λ (t : List ℕ). (16 * a + b) ∷ t) (first_of_two l d (omega arith))

second_of_two : (l : List ℕ) (d : ℕ) → length l % 2 ≡ 1 → pairs (l ++ (d ∷ [])) ≡ pairs l ++ ((16 * get_or l (length l - 1) 0 + d) ∷ [])
unfolding pairs
second_of_two [] d h = absurd (omega arith)
second_of_two (a ∷ []) d h = refl
second_of_two (a ∷ b ∷ l) d h =
    let at : suc (suc (length l)) - 1 ≡ suc (suc (length l - 1)) = omega arith in
    ap (λ (t : List ℕ). (16 * a + b) ∷ t) (second_of_two l d (omega arith))
    ∙ sym (ap (λ (k : ℕ). (16 * a + b) ∷ (pairs l ++ ((16 * get_or (a ∷ b ∷ l) k 0 + d) ∷ []))) at)

-- ---- the loop: what it keeps is how many digits there are so far, the last of them, and their bytes over a buffer
abbrev pub Read : List ℕ → List ℕ → List ℕ → ℕ → ℕ → Type 0
Read b w digits count high = (count ≡ length digits) × (high ≡ get_or digits (length digits - 1) 0) × (w ≡ over (pairs digits) b)

-- a digit more is counted, is the last, and makes a byte of two
pub counted : (l : List ℕ) (d : ℕ) → (length (l ++ (d ∷ [])) ≡ length l + 1) × (get_or (l ++ (d ∷ [])) (length l) 0 ≡ d)
counted l d = (length-append l (d ∷ []), get_or-append_seam l d [] 0)

pub read_more : (b l : List ℕ) (d : ℕ) → over (pairs (l ++ (d ∷ []))) b
    ≡ cond (eqb (length l % 2) 0) (over (pairs l) b) (set (over (pairs l) b) (length l / 2) (16 * get_or l (length l - 1) 0 + d))
read_more b l d = put (eqb (length l % 2) 0) refl
  where
    x : ℕ
    x = 16 * get_or l (length l - 1) 0 + d

    put : (t : Bool) → eqb (length l % 2) 0 ≡ t → over (pairs (l ++ (d ∷ []))) b ≡ cond t (over (pairs l) b) (set (over (pairs l) b) (length l / 2) x)
    put true e = ap (λ (s : List ℕ). over s b) (first_of_two l d (omega (arith, eqb-true (length l % 2) 0 e)))
    put false e =
        ap (λ (s : List ℕ). over s b) (second_of_two l d (omega (arith, eqb-false (length l % 2) 0 e)))
        ∙ sym (over_more (pairs l) b x) ∙ ap (λ (k : ℕ). set (over (pairs l) b) k x) (length_pairs l)

-- the next character is a digit, or is none
module _ (text : List ℕ) (i : ℕ) (there : i < length text) where
  abbrev next : ℕ
  next = digit_value (get_or text i 0)

  pub read_digit : next < 16 → digits_in (take (i + 1) text) ≡ digits_in (take i text) ++ (next ∷ [])
  unfolding digits_in
  read_digit small = digits_next text i there ∙ ap (λ (t : Bool). digits_in (take i text) ++ cond t (next ∷ []) []) (lt-ltb next 16 small)

  pub read_other : 16 ≤ next → digits_in (take (i + 1) text) ≡ digits_in (take i text)
  unfolding digits_in
  read_other large =
      digits_next text i there ∙ ap (λ (t : Bool). digits_in (take i text) ++ cond t (next ∷ []) []) (le-ltb next 16 large)
      ∙ append-nil (digits_in (take i text))

pub ruleset reading = (over_none, counted, read_more, read_digit, read_other, take_all)

-- ---- bytes that were put in digits are read back
letter_value : (k : ℕ) → k < 16 → digit_value (get_or letters k 0) ≡ k
unfolding all index_of
letter_value = agree (λ k. digit_value (get_or letters k 0)) (λ k. k) 16 refl

read_letter : (n : ℕ) (text : List ℕ) → digits_in (letter_of n ∷ text) ≡ n % 16 ∷ digits_in text
unfolding digits_in
read_letter n text =
    let value = letter_value (n % 16) (omega arith) in
    let c : ℕ = letter_of n in
    ap (λ (t : Bool). cond t (digit_value c ∷ digits_in text) (digits_in text)) (lt-ltb (digit_value c) 16 (omega (arith, value)))
    ∙ ap (λ (x : ℕ). x ∷ digits_in text) value

pub read_back : (bytes : List ℕ) → ((i : ℕ) → get_or bytes i 0 < 256) → pairs (digits_in (in_digits bytes)) ≡ bytes
unfolding in_digits digits_in pairs
read_back [] small = refl
read_back (x ∷ bytes) small =
    let whole : 16 * (x / 16 % 16) + x % 16 ≡ x = omega (arith, small 0) in
    ap pairs (read_letter (x / 16) (letter_of x ∷ in_digits bytes) ∙ ap (λ (t : List ℕ). x / 16 % 16 ∷ t) (read_letter x (in_digits bytes)))
    ∙ ap₂ (λ (y : ℕ) (t : List ℕ). y ∷ t) whole (read_back bytes (λ i. small (suc i)))
