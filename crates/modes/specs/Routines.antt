-- The routines on lent buffers: what each leaves, for buffers of any lengths.
-- Assumes nothing.
use Rattle.std.specs.Prelude.{List, ℕ, length}
use Rattle.aes.specs.Cipher.{cipher, inv_cipher}
use Rattle.modes.specs.Answer.{Outcome, outcome, three_blocks, cbc_lengths, cmac_lengths, compress_lengths}
use Rattle.modes.specs.Cbc.{cbc_encrypt, cbc_decrypt}
use Rattle.modes.specs.Cmac.{cmac}
use Rattle.modes.specs.Compression.{compress_from, kdf}

-- ECB of one block
abbrev pub ecb_encryption : List ℕ → List ℕ → List ℕ → Outcome
ecb_encryption key input output = outcome (three_blocks (length key) (length input) (length output)) (cipher key input) output

abbrev pub ecb_decryption : List ℕ → List ℕ → List ℕ → Outcome
ecb_decryption key input output = outcome (three_blocks (length key) (length input) (length output)) (inv_cipher key input) output

abbrev pub cbc_encryption : List ℕ → List ℕ → List ℕ → List ℕ → Outcome
cbc_encryption key iv input output =
    outcome (cbc_lengths (length key) (length iv) (length input) (length output)) (cbc_encrypt (cipher key) iv input) output

abbrev pub cbc_decryption : List ℕ → List ℕ → List ℕ → List ℕ → Outcome
cbc_decryption key iv input output =
    outcome (cbc_lengths (length key) (length iv) (length input) (length output)) (cbc_decrypt (inv_cipher key) iv input) output

-- CMAC of the first `bits` bits of a message
abbrev pub authentication : List ℕ → ℕ → List ℕ → List ℕ → Outcome
authentication key bits message output =
    outcome (cmac_lengths (length key) bits (length message) (length output)) (cmac (cipher key) bits message) output

-- the compression of a text, carried on from an earlier output or zero
abbrev pub compression : List ℕ → List ℕ → List ℕ → Outcome
compression start text output = outcome (compress_lengths (length start) (length text) (length output)) (compress_from start text) output

-- KDF(K, C)
abbrev pub derivation : List ℕ → List ℕ → List ℕ → Outcome
derivation key constant output = outcome (three_blocks (length key) (length constant) (length output)) (kdf key constant) output
