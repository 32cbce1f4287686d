-- The cipher block chaining mode of SP 800-38A, 6.2, over a block cipher `ciph` under its key and the inverse `inv`.
-- Assumes nothing.
use mathlib.Core.List.{List, flatten}
use Rattle.std.specs.Prelude.{ℕ}
use Rattle.modes.specs.Blocks.{◌⊕◌, blocks, outputs}

-- C_1 = CIPH_K(P_1 ⊕ IV), C_j = CIPH_K(P_j ⊕ C_(j-1)): a block from the one before it; it is carried on
abbrev pub chained : (List ℕ → List ℕ) → List ℕ → List ℕ → List ℕ
chained ciph before p = ciph (p ⊕ before)

unfoldable pub cbc_encrypt : (List ℕ → List ℕ) → List ℕ → List ℕ → List ℕ
cbc_encrypt ciph iv text = flatten (outputs (chained ciph) (chained ciph) iv (blocks text))

-- P_1 = CIPH^-1_K(C_1) ⊕ IV, P_j = CIPH^-1_K(C_j) ⊕ C_(j-1): the ciphertext is carried on
abbrev pub unchained : (List ℕ → List ℕ) → List ℕ → List ℕ → List ℕ
unchained inv before c = inv c ⊕ before

abbrev pub itself : List ℕ → List ℕ → List ℕ
itself before c = c

unfoldable pub cbc_decrypt : (List ℕ → List ℕ) → List ℕ → List ℕ → List ℕ
cbc_decrypt inv iv text = flatten (outputs (unchained inv) itself iv (blocks text))
