-- Hexadecimal digits: the letter of each and its value, bytes written in digits, and the bytes that stand in a text in digits.
-- Assumes nothing.
use Rattle.std.specs.Prelude.{cond, List, [], ◌∷◌, ℕ, ◌+◌, ◌*◌, ◌/◌, ◌%◌, ltb, get_or}
use Rattle.text.specs.Marks.{index_of}

-- 0 to 9, a to f
abbrev pub letters : List ℕ
letters = 48 ∷ 49 ∷ 50 ∷ 51 ∷ 52 ∷ 53 ∷ 54 ∷ 55 ∷ 56 ∷ 57 ∷ 97 ∷ 98 ∷ 99 ∷ 100 ∷ 101 ∷ 102 ∷ []

-- the last digit of a number
abbrev pub letter_of : ℕ → ℕ
letter_of n = get_or letters (n % 16) 0

-- where it stands among the letters, and 16 for any other character
abbrev pub digit_value : ℕ → ℕ
digit_value c = index_of c letters

-- two digits for each byte
unfoldable pub in_digits : List ℕ → List ℕ
in_digits [] = []
in_digits (x ∷ bytes) = letter_of (x / 16) ∷ letter_of x ∷ in_digits bytes

-- the values of a text's digits, whatever stands between them
unfoldable pub digits_in : List ℕ → List ℕ
digits_in [] = []
digits_in (c ∷ text) = cond (ltb (digit_value c) 16) (digit_value c ∷ digits_in text) (digits_in text)

-- a byte for each two digits; one that is left over gives none
unfoldable pub pairs : List ℕ → List ℕ
pairs [] = []
pairs (a ∷ []) = []
pairs (a ∷ b ∷ digits) = (16 * a + b) ∷ pairs digits
