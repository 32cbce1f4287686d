-- CMAC of SP 800-38B, section 6, over a block cipher `ciph` under its key, with MACs of all 128 bits.
-- Assumes nothing.
use Rattle.std.specs.Prelude.{◌≡◌, cond, ℕ, ◌+◌, ◌-◌, ◌*◌, ◌/◌, ◌%◌, ◌^◌, ◌<◌, max, eqb, length, take, drop, replicate}
use mathlib.Core.List.{List, [], ◌∷◌, ◌++◌, foldl}
use Rattle.field.specs.Field.{bit}
use Rattle.aes.specs.State.{byte, state}
use Rattle.modes.specs.Blocks.{◌⊕◌, zero_block, blocks}
use Rattle.modes.specs.Cbc.{chained}

-- X << 1: each byte has its own lower seven bits, and then the highest bit of the next byte
unfoldable pub shift_left : List ℕ → List ℕ
shift_left x = state (λ i. byte x i * 2 % 256 + byte x (i + 1) / 128)

-- 5.3: R_128 = 0^120 10000111
abbrev pub r128 : List ℕ
r128 = replicate 15 0 ++ (0x87 ∷ [])

-- 6.1, steps 2 and 3: X << 1 if MSB_1(X) = 0, else (X << 1) ⊕ R_128
unfoldable pub double : List ℕ → List ℕ
double x = cond (eqb (bit (byte x 0) 7) 0) (shift_left x) (shift_left x ⊕ r128)

-- 6.1, steps 1 to 4: L = CIPH_K(0^128), K1 and K2
unfoldable pub k1 : (List ℕ → List ℕ) → List ℕ
k1 ciph = double (ciph zero_block)

unfoldable pub k2 : (List ℕ → List ℕ) → List ℕ
k2 ciph = double (k1 ciph)

-- 6.2, step 2: n, the number of blocks of a message of so many bits
abbrev pub block_count : ℕ → ℕ
block_count bits = max 1 ((bits + 127) / 128)

-- the first t bits of a byte, a 1, and zeros
abbrev pub cut : ℕ → ℕ → ℕ
cut t b = (b / 2 ^ (8 - t) * 2 + 1) * 2 ^ (7 - t)

-- M_n* || 1 0^j, where M_n* is the first r bits of x, r < 128: its whole bytes, the byte with its last bits, and zeros
unfoldable pub padded : ℕ → List ℕ → List ℕ
padded r x = take (r / 8) x ++ (cut (r % 8) (byte x (r / 8)) ∷ replicate (15 - r / 8) 0)

-- 6.2, step 4: M_n, from the first r bits of the last block
unfoldable pub last_block : (List ℕ → List ℕ) → ℕ → List ℕ → List ℕ
last_block ciph r x = cond (eqb r 128) (k1 ciph ⊕ x) (k2 ciph ⊕ padded r x)

-- 6.2, step 3: where the last block begins
abbrev pub last_at : ℕ → ℕ
last_at bits = 16 * (block_count bits - 1)

-- 6.2, steps 5 to 7, of the first `bits` bits of a message in whole blocks: C_i = CIPH_K(C_(i-1) ⊕ M_i) from C_0 = 0^128, and
-- the MAC is C_n
unfoldable pub cmac : (List ℕ → List ℕ) → ℕ → List ℕ → List ℕ
cmac ciph bits message =
    foldl (chained ciph) zero_block
    (blocks (take (last_at bits) message) ++ (last_block ciph (bits - 8 * last_at bits) (drop (last_at bits) message) ∷ []))

-- ---- of a text of whole bytes: zero bytes after its end, which do not count, make its last block whole
abbrev pub whole_blocks : List ℕ → List ℕ
whole_blocks text = text ++ replicate (16 * block_count (8 * length text) - length text) 0

unfoldable pub text_mac : (List ℕ → List ℕ) → List ℕ → List ℕ
text_mac ciph text = cmac ciph (8 * length text) (whole_blocks text)

-- ---- bit i of a message, the most significant of a byte first; messages that have their first `bits` bits in common
abbrev pub message_bit : List ℕ → ℕ → ℕ
message_bit message i = bit (byte message (i / 8)) (7 - i % 8)

abbrev pub Agree : ℕ → List ℕ → List ℕ → Type 0
Agree bits a b = (i : ℕ) → i < bits → message_bit a i ≡ message_bit b i
