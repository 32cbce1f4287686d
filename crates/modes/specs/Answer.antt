-- What a routine on lent buffers leaves: its answer, and its output. And the lengths that each routine takes.
-- Assumes nothing.
use mathlib.Core.List.{flatten}
use Rattle.std.specs.Prelude.{◌≡◌, Bool, true, false, ◌&&◌, cond, List, [], ◌∷◌, ℕ, ◌*◌, ◌%◌, eqb, leb, length}
use Rattle.laws.specs.Lengths.{right_lengths}
use Rattle.basics.specs.Answers.{no_error, general_error}
use Rattle.aes.specs.Schedule.{key_expansion}
use Rattle.modes.specs.Blocks.{blocks, outputs}
use Rattle.modes.specs.Cmac.{block_count}

pub record Outcome : Type 0 where
  pub answer : ℕ
  pub output : List ℕ

-- where the lengths are right it is done, and the output holds the result; where not, it is refused, and the output stays
unfoldable pub outcome : Bool → List ℕ → List ℕ → Outcome
outcome right result output = record { answer = cond right no_error general_error; output = cond right result output }

-- ECB: key, in and out 16 bytes each; KDF: key, constant and out likewise
unfoldable pub three_blocks : ℕ → ℕ → ℕ → Bool
three_blocks first second third = right_lengths ((first, 16) ∷ (second, 16) ∷ (third, 16) ∷ [])

-- CBC: 1 to 4,096 blocks, IV of 16 bytes, output as long as input
unfoldable pub cbc_lengths : ℕ → ℕ → ℕ → ℕ → Bool
cbc_lengths key iv input output =
    eqb key 16 && (eqb iv 16 && (eqb (input % 16) 0 && (leb (16 * 1) input && (leb input (16 * 4096) && eqb output input))))

-- MAC: 0 to 524,288 bits, the message exactly 16 times max(1, ceiling of bits / 128) bytes, output 16 bytes
unfoldable pub cmac_lengths : ℕ → ℕ → ℕ → ℕ → Bool
cmac_lengths key bits message output =
    eqb key 16 && (leb bits 524288 && (eqb message (16 * block_count bits) && eqb output 16))

-- compression: a start of 16 bytes, any number of whole blocks, output 16 bytes
unfoldable pub compress_lengths : ℕ → ℕ → ℕ → Bool
compress_lengths start text output = right_lengths ((start, 16) ∷ (text % 16, 0) ∷ (output, 16) ∷ [])

-- what a routine leaves that writes, where three buffers are of a block each, what a step may give of the first two to the third
pub record OfTwoBlocks (gives : List ℕ → List ℕ → List ℕ → Type 0) (first second before : List ℕ) (answer : ℕ) (after : List ℕ) : Type 0 where
  pub refused : three_blocks (length first) (length second) (length before) ≡ false → (answer ≡ general_error) × (after ≡ before)
  pub done : three_blocks (length first) (length second) (length before) ≡ true → (answer ≡ no_error) × gives first second after

-- and one that goes through a text block by block, with a step that may give of a schedule, of what is carried and of a block the
-- block to write and what to carry on. It is told by any two rules that the step keeps to
pub record OfBlocks (gives : List ℕ → List ℕ → List ℕ → List ℕ × List ℕ → Type 0) (key iv text before : List ℕ) (answer : ℕ) (after : List ℕ) : Type 0 where
  pub refused : cbc_lengths (length key) (length iv) (length text) (length before) ≡ false → (answer ≡ general_error) × (after ≡ before)
  pub done : cbc_lengths (length key) (length iv) (length text) (length before) ≡ true
      → (answer ≡ no_error)
      × ((out next : List ℕ → List ℕ → List ℕ)
      → ((c x : List ℕ) (r : List ℕ × List ℕ) → gives (key_expansion key) c x r → r ≡ (out c x, next c x))
      → after ≡ flatten (outputs out next iv (blocks text)))
