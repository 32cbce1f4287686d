-- The key expansion of FIPS 197, 5.2, for keys of Nk = 4 words. The schedule is kept as its bytes, four a word.
-- Assumes nothing.
use Rattle.std.specs.Prelude.{List, [], ◌∷◌, ◌++◌, ℕ, zero, suc, ◌+◌, ◌-◌, ◌*◌, ◌/◌, ◌%◌}
use Rattle.laws.specs.Xor.{◌xor◌}
use Rattle.field.specs.Field.{xtime}
use Rattle.field.specs.Sbox.{sbox}
use Rattle.aes.specs.State.{byte}

-- word i of w
abbrev pub word : List ℕ → ℕ → List ℕ
word w i = byte w (4 * i) ∷ byte w (4 * i + 1) ∷ byte w (4 * i + 2) ∷ byte w (4 * i + 3) ∷ []

abbrev pub add_word : List ℕ → List ℕ → List ℕ
add_word a b = (byte a 0 xor byte b 0) ∷ (byte a 1 xor byte b 1) ∷ (byte a 2 xor byte b 2) ∷ (byte a 3 xor byte b 3) ∷ []

abbrev pub rot_word : List ℕ → List ℕ
rot_word a = byte a 1 ∷ byte a 2 ∷ byte a 3 ∷ byte a 0 ∷ []

abbrev pub sub_word : List ℕ → List ℕ
sub_word a = sbox (byte a 0) ∷ sbox (byte a 1) ∷ sbox (byte a 2) ∷ sbox (byte a 3) ∷ []

-- the round constant j, from 1 on, is the word x^(j-1), 0, 0, 0
unfoldable pub power_of_x : ℕ → ℕ
power_of_x zero = 1
power_of_x (suc n) = xtime (power_of_x n)

abbrev pub rcon : ℕ → List ℕ
rcon j = power_of_x (j - 1) ∷ 0 ∷ 0 ∷ 0 ∷ []

-- the word that is added to the one Nk before it, by i mod Nk
abbrev pub temp : List ℕ → ℕ → ℕ → List ℕ
temp w i zero = add_word (sub_word (rot_word (word w (i - 1)))) (rcon (i / 4))
temp w i (suc n) = word w (i - 1)

unfoldable pub next_word : List ℕ → ℕ → List ℕ
next_word w i = add_word (word w (i - 4)) (temp w i (i % 4))

-- n words more, from word i on
unfoldable pub more_words : ℕ → ℕ → List ℕ → List ℕ
more_words zero i w = w
more_words (suc n) i w = more_words n (i + 1) (w ++ next_word w i)

-- the words 0 to 43: the key is the first four
unfoldable pub key_expansion : List ℕ → List ℕ
key_expansion key = more_words 40 4 key
