-- The steps of a round, FIPS 197, 5.1.1 to 5.1.4, and of its inverse, 5.3.1 to 5.3.3.
-- Assumes nothing.
use Rattle.std.specs.Prelude.{List, [], ◌∷◌, ◌++◌, ℕ, ◌+◌, ◌*◌, ◌%◌}
use Rattle.laws.specs.Xor.{◌xor◌}
use Rattle.field.specs.Field.{mul}
use Rattle.field.specs.Sbox.{sbox, inv_sbox}
use Rattle.aes.specs.State.{byte, state}

-- a substitution of each byte
unfoldable pub substitute : (ℕ → ℕ) → List ℕ → List ℕ
substitute f s = state (λ i. f (byte s i))

-- 5.1.1 and 5.3.2
unfoldable pub sub_bytes : List ℕ → List ℕ
sub_bytes s = substitute sbox s

unfoldable pub inv_sub_bytes : List ℕ → List ℕ
inv_sub_bytes s = substitute inv_sbox s

-- the rows moved to the left, row r by n r columns: the byte at i is of row i mod 4, the next column is 4 bytes on, and past
-- the last column comes the first
unfoldable pub move_rows : ℕ → List ℕ → List ℕ
move_rows n s = state (λ i. byte s ((i + 4 * n * (i % 4)) % 16))

-- 5.1.2: s'_(r,c) = s_(r,c+r), row r moves r columns to the left
unfoldable pub shift_rows : List ℕ → List ℕ
shift_rows s = move_rows 1 s

-- 5.3.1: s'_(r,c) = s_(r,c-r), which is s_(r,c+3r)
unfoldable pub inv_shift_rows : List ℕ → List ℕ
inv_shift_rows s = move_rows 3 s

-- 4.3: the matrix of the word a0 a1 a2 a3, times the column b0 b1 b2 b3
unfoldable pub matrix : ℕ → ℕ → ℕ → ℕ → ℕ → ℕ → ℕ → ℕ → List ℕ
matrix a0 a1 a2 a3 b0 b1 b2 b3 =
    (mul a0 b0 xor mul a3 b1 xor mul a2 b2 xor mul a1 b3)
    ∷ (mul a1 b0 xor mul a0 b1 xor mul a3 b2 xor mul a2 b3)
    ∷ (mul a2 b0 xor mul a1 b1 xor mul a0 b2 xor mul a3 b3)
    ∷ (mul a3 b0 xor mul a2 b1 xor mul a1 b2 xor mul a0 b3)
    ∷ []

-- each of the four columns, from its four bytes
unfoldable pub columns : (ℕ → ℕ → ℕ → ℕ → List ℕ) → List ℕ → List ℕ
columns f s =
    f (byte s 0) (byte s 1) (byte s 2) (byte s 3)
    ++ f (byte s 4) (byte s 5) (byte s 6) (byte s 7)
    ++ f (byte s 8) (byte s 9) (byte s 10) (byte s 11)
    ++ f (byte s 12) (byte s 13) (byte s 14) (byte s 15)

-- 5.1.3 and 5.3.3
abbrev pub mix_column : ℕ → ℕ → ℕ → ℕ → List ℕ
mix_column = matrix 0x02 0x01 0x01 0x03

abbrev pub inv_mix_column : ℕ → ℕ → ℕ → ℕ → List ℕ
inv_mix_column = matrix 0x0e 0x09 0x0d 0x0b

unfoldable pub mix_columns : List ℕ → List ℕ
mix_columns s = columns mix_column s

unfoldable pub inv_mix_columns : List ℕ → List ℕ
inv_mix_columns s = columns inv_mix_column s

-- 5.1.4: round r takes the words 4 r to 4 r + 3 of the schedule w, its bytes 16 r to 16 r + 15
unfoldable pub add_round_key : List ℕ → ℕ → List ℕ → List ℕ
add_round_key w r s = state (λ i. byte s i xor byte w (16 * r + i))
