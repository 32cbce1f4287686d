-- The compression function and the key derivation of 001, 4.3.3: Miyaguchi-Preneel with AES.
-- Assumes nothing.
use mathlib.Core.List.{List, ◌∷◌, ◌++◌, foldl}
use Rattle.std.specs.Prelude.{ℕ, ◌+◌, ◌-◌, ◌*◌, ◌/◌, ◌%◌, length, replicate}
use Rattle.aes.specs.Cipher.{cipher}
use Rattle.modes.specs.Blocks.{◌⊕◌, zero_block, blocks}
use Rattle.modes.specs.Number.{in_bytes}

-- OUT_i = ENC(key OUT_(i-1), x_i) ⊕ x_i ⊕ OUT_(i-1)
abbrev pub compressed : List ℕ → List ℕ → List ℕ
compressed out x = cipher out x ⊕ x ⊕ out

-- the blocks of a text, carried on from an output
unfoldable pub compress_from : List ℕ → List ℕ → List ℕ
compress_from out text = foldl compressed out (blocks text)

-- from OUT_0 = 0
unfoldable pub compress : List ℕ → List ℕ
compress text = compress_from zero_block text

-- KDF(K, C): the compression of K | C, where C has the padding in it
unfoldable pub kdf : List ℕ → List ℕ → List ℕ
kdf key constant = compress (key ++ constant)

-- ---- the preprocessing of a message of l bits: a 1, k zeros with k the smallest for which l + 1 + k = 88 modulo 128, and l
-- itself in 40 bits. Here for messages in whole bytes: the byte 80 has the 1 and seven of the zeros
abbrev pub zero_bits : ℕ → ℕ
zero_bits l = (216 - (l + 1) % 128) % 128

unfoldable pub padding : ℕ → List ℕ
padding l = (0x80 ∷ replicate (zero_bits l / 8) 0) ++ in_bytes 5 l

unfoldable pub preprocessed : List ℕ → List ℕ
preprocessed message = message ++ padding (8 * length message)
