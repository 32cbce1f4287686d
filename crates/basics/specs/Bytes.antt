-- A block of a text by its number, and the text with it put anew; a UID, the first 15 bytes of a text. Past the end of a text there
-- are zeros.
-- Assumes nothing.
use Rattle.std.specs.Prelude.{cond, List, ℕ, ◌+◌, ◌*◌, leb, length, replicate}
use Rattle.std.proofs.Math.Seq.{paste}
use Rattle.laws.specs.Tabulate.{tabulate}
use Rattle.aes.specs.State.{byte, state}

unfoldable pub block_at : List ℕ → ℕ → List ℕ
block_at text number = state (λ i. byte text (16 * number + i))

-- a number that is no block's changes nothing
unfoldable pub put_block : List ℕ → ℕ → List ℕ → List ℕ
put_block text number block = cond (leb (16 * number + 16) (length text)) (paste text (16 * number) block 16) text

unfoldable pub uid_from : List ℕ → List ℕ
uid_from text = tabulate 15 (λ i. byte text i)

-- no device's
abbrev pub zero_uid : List ℕ
zero_uid = replicate 15 0
