-- The key schedule: it is of bytes; and a turn of the loop that makes it.
-- Assumes nothing.
use mathlib.Core.Path.{◌≡◌, refl, ap, ap₂, ◌∙◌}
use mathlib.Core.List.{List, [], ◌∷◌, ◌++◌}
use Prim.Native.Nat.{ℕ, zero, suc, ◌+◌, ◌-◌, ◌*◌, ◌/◌, ◌%◌, ◌<◌, ◌≤◌}
use native.Mathlib.Omega.{arith}
use lib.Dec.{lit<}
use lib.ListN.{take}
use lib.Seq.{get_or-take, take_all}
use Rattle.laws.specs.Xor.{◌xor◌}
use Rattle.laws.proofs.Xor.{xor_byte}
use Rattle.field.proofs.Laws.{xtime_byte, sbox_byte}
use Rattle.aes.specs.State.{byte, Bytes}
use Rattle.aes.proofs.Bytes.{four_bytes, append_bytes}
use Rattle.aes.specs.Schedule.{word, add_word, rot_word, sub_word, power_of_x, rcon, temp, next_word, more_words, key_expansion}

-- ---- it is of bytes
add_bytes : (a b : List ℕ) → Bytes a → Bytes b → Bytes (add_word a b)
add_bytes a b ha hb = four_bytes _ _ _ _ (sum 0) (sum 1) (sum 2) (sum 3)
  where
    sum : (i : ℕ) → byte a i xor byte b i < 256
    sum i = xor_byte (byte a i) (byte b i) (ha i) (hb i)

word_bytes : (w : List ℕ) (i : ℕ) → Bytes w → Bytes (word w i)
word_bytes w i h = four_bytes _ _ _ _ (h _) (h _) (h _) (h _)

power_byte : (n : ℕ) → power_of_x n < 256
unfolding power_of_x
power_byte zero = lit< tt
power_byte (suc n) = xtime_byte (power_of_x n)

temp_bytes : (w : List ℕ) (i n : ℕ) → Bytes w → Bytes (temp w i n)
temp_bytes w i zero h =
    add_bytes (sub_word (rot_word (word w (i - 1)))) (rcon (i / 4)) (four_bytes _ _ _ _ (sbox_byte _) (sbox_byte _) (sbox_byte _) (sbox_byte _))
    (four_bytes _ _ _ _ (power_byte (i / 4 - 1)) (lit< tt) (lit< tt) (lit< tt))
temp_bytes w i (suc n) h = word_bytes w (i - 1) h

next_bytes : (w : List ℕ) (i : ℕ) → Bytes w → Bytes (next_word w i)
unfolding next_word
next_bytes w i h = add_bytes (word w (i - 4)) (temp w i (i % 4)) (word_bytes w (i - 4) h) (temp_bytes w i (i % 4) h)

more_bytes : (n i : ℕ) (w : List ℕ) → Bytes w → Bytes (more_words n i w)
unfolding more_words
more_bytes zero i w h = h
more_bytes (suc n) i w h =
    more_bytes n (i + 1) (w ++ next_word w i) (append_bytes w (next_word w i) h (next_bytes w i h))

pub expansion_bytes : (key : List ℕ) → Bytes key → Bytes (key_expansion key)
unfolding key_expansion
expansion_bytes key h = more_bytes 40 4 key h

-- ---- it reads only words that are made
module _ (w : List ℕ) (i : ℕ) (h : 4 ≤ i) where
  made_byte : (n : ℕ) → n < 4 * i → byte (take (4 * i) w) n ≡ byte w n
  made_byte n l = get_or-take (4 * i) w n 0 l

  made_word : (j : ℕ) → j < i → word (take (4 * i) w) j ≡ word w j
  made_word j l =
      λ k. made_byte (4 * j) (omega arith) k ∷ made_byte (4 * j + 1) (omega arith) k ∷ made_byte (4 * j + 2) (omega arith) k
      ∷ made_byte (4 * j + 3) (omega arith) k ∷ []

  made_temp : (n : ℕ) → temp (take (4 * i) w) i n ≡ temp w i n
  made_temp zero = ap (λ (t : List ℕ). add_word (sub_word (rot_word t)) (rcon (i / 4))) (made_word (i - 1) (omega arith))
  made_temp (suc n) = made_word (i - 1) (omega arith)

  made_next : next_word (take (4 * i) w) i ≡ next_word w i
  unfolding next_word
  made_next = ap₂ add_word (made_word (i - 4) (omega arith)) (made_temp (i % 4))

-- ---- the loop that makes it: no word is left, or one more is made
pub words_none : (i : ℕ) (w : List ℕ) → more_words 0 i w ≡ w
unfolding more_words
words_none i w = refl

pub words_first : (n i at : ℕ) (w : List ℕ) → 1 ≤ n → 4 ≤ i → at ≡ 4 * i
    → more_words n i (take at w) ≡ more_words (n - 1) (i + 1) (take at w ++ next_word w i)
unfolding more_words
words_first zero i at w some low place = absurd (omega arith)
words_first (suc n) i at w some low place =
    let same : next_word (take at w) i ≡ next_word w i = ap (λ (k : ℕ). next_word (take k w) i) place ∙ made_next w i low in
    let left : n ≡ suc n - 1 = omega arith in
    ap₂ (λ (m : ℕ) (x : List ℕ). more_words m (i + 1) (take at w ++ x)) left same

pub ruleset expanding = (words_none, words_first, take_all)
