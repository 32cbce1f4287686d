-- Texts of whole blocks, b = 128 bits each, and what goes through a text block by block.
-- Assumes nothing.
use Rattle.std.specs.Prelude.{◌≡◌, List, [], ◌∷◌, ℕ, zero, suc, ◌*◌, ◌/◌, length, take, drop, replicate}
use Rattle.laws.specs.Xor.{◌xor◌}
use Rattle.aes.specs.State.{byte, state, Bytes}

-- the exclusive or of two blocks, bit by bit
infixl 68 ◌⊕◌
unfoldable pub ◌⊕◌ : List ℕ → List ℕ → List ℕ
a ⊕ b = state (λ i. byte a i xor byte b i)

-- 0^128
abbrev pub zero_block : List ℕ
zero_block = replicate 16 0

-- the first n blocks of a text, and all of them: X_1, X_2, .. X_n. `flatten` writes blocks one after the other again
unfoldable pub parse : ℕ → List ℕ → List (List ℕ)
parse zero text = []
parse (suc n) text = take 16 text ∷ parse n (drop 16 text)

unfoldable pub blocks : List ℕ → List (List ℕ)
blocks text = parse (length text / 16) text

-- block by block, with something carried from each to the next: `out` gives a block out, `next` what is carried on.
-- What is carried at the end is `foldl next`
unfoldable pub outputs : (List ℕ → List ℕ → List ℕ) → (List ℕ → List ℕ → List ℕ) → List ℕ → List (List ℕ) → List (List ℕ)
outputs out next c [] = []
outputs out next c (x ∷ xs) = out c x ∷ outputs out next (next c x) xs

-- what theorems ask of a text: n whole blocks of bytes
pub record Text (n : ℕ) (s : List ℕ) : Type 0 where
  pub long : length s ≡ 16 * n
  pub small : Bytes s
