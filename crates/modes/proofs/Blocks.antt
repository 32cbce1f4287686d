-- The blocks of a text.
-- Assumes nothing.
use mathlib.Core.Path.{◌≡◌, refl, sym, ap, ap₂, ◌∙◌}
use mathlib.Core.List.{List, [], ◌∷◌, ◌++◌}
use Prim.Native.Nat.{ℕ, zero, suc, ◌*◌, ◌/◌, ◌≤◌, ◌<◌}
use native.Mathlib.Omega.{arith}
use lib.ListN.{length, take, drop, length-append, length-drop}
use lib.Seq.{take_all, take-append-le, drop-append-le}
use Rattle.std.specs.Simd.{first_chunks}
use Rattle.modes.specs.Blocks.{parse, blocks}

-- as the library cuts it
chunks_parsed : (n : ℕ) (text : List ℕ) → first_chunks 16 n text ≡ parse n text
unfolding parse
chunks_parsed zero text = refl
chunks_parsed (suc n) text = ap (λ (xs : List (List ℕ)). take 16 text ∷ xs) (chunks_parsed n (drop 16 text))

pub chunks : (text : List ℕ) → first_chunks 16 (length text / 16) text ≡ blocks text
unfolding blocks
chunks text = chunks_parsed (length text / 16) text

pub blocks_more : (text : List ℕ) → 16 ≤ length text → blocks text ≡ take 16 text ∷ blocks (drop 16 text)
unfolding blocks parse
blocks_more text h =
    let n : length text / 16 ≡ suc (length (drop 16 text) / 16) = omega (arith, length-drop 16 text) in
    ap (λ (n : ℕ). parse n text) n

pub blocks_none : (text : List ℕ) → length text < 16 → blocks text ≡ []
unfolding blocks parse
blocks_none text h = let n : length text / 16 ≡ 0 = omega arith in ap (λ (n : ℕ). parse n text) n

pub blocks_one : (text : List ℕ) → length text ≡ 16 → blocks text ≡ text ∷ []
blocks_one text h =
    blocks_more text (omega arith)
    ∙ ap₂ (λ (x : List ℕ) (xs : List (List ℕ)). x ∷ xs) (take_all 16 text (omega arith)) (blocks_none (drop 16 text) (omega (arith, length-drop 16 text)))

-- of a text of n whole blocks and another after it
pub blocks_append : (n : ℕ) (s t : List ℕ) → length s ≡ 16 * n → blocks (s ++ t) ≡ blocks s ++ blocks t
blocks_append zero [] t h = ap (λ (b : List (List ℕ)). b ++ blocks t) (sym (blocks_none [] (omega arith)))
blocks_append zero (x ∷ s) t h = absurd (omega arith)
blocks_append (suc n) s t h =
    let enough : 16 ≤ length s = omega arith in
    blocks_more (s ++ t) (omega (arith, length-append s t))
    ∙ ap₂ (λ (x y : List ℕ). x ∷ blocks y) (take-append-le 16 s t enough) (drop-append-le 16 s t enough)
    ∙ ap (λ (b : List (List ℕ)). take 16 s ∷ b) (blocks_append n (drop 16 s) t (length-drop 16 s ∙ omega arith))
    ∙ ap (λ (b : List (List ℕ)). b ++ blocks t) (sym (blocks_more s enough))
