-- Texts of whole blocks, as lists of blocks and back; the exclusive or of blocks. Parsing and flattening undo one another on
-- whole blocks, so a round trip of texts is one of lists of blocks.
-- Assumes nothing.
use mathlib.Core.Path.{◌≡◌, refl, ap, ap₂, ◌∙◌, subst⁻¹}
use mathlib.Core.List.{List, [], ◌∷◌, ◌++◌, flatten}
use Prim.Native.Nat.{ℕ, zero, suc, ◌*◌}
use native.Mathlib.Omega.{arith}
use lib.Dec.{lit<}
use lib.ListN.{length, take, drop, length-append, length-drop, take-append-drop}
use lib.Seq.{length-take-le}
use Rattle.laws.specs.Xor.{◌xor◌}
use Rattle.laws.proofs.Tabulate.{get_d_tabulate, tabulate_same, tabulate_own}
use Rattle.laws.proofs.Xor.{xor_byte, xor_cancels}
use Rattle.aes.specs.State.{byte, Block, Bytes}
use Rattle.aes.proofs.Bytes.{append_bytes, take_bytes, drop_bytes, state_block}
use Rattle.modes.specs.Blocks.{◌⊕◌, blocks, Text}
use Rattle.modes.proofs.Blocks.{blocks_more, blocks_none, blocks_one, blocks_append}

-- ---- the exclusive or
pub sum_block : (a b : List ℕ) → Bytes a → Bytes b → Block (a ⊕ b)
unfolding ◌⊕◌
sum_block a b ha hb = state_block (λ i. byte a i xor byte b i) (λ i. xor_byte (byte a i) (byte b i) (ha i) (hb i))

pub sum_cancels : (a b : List ℕ) → length a ≡ 16 → a ⊕ b ⊕ b ≡ a
unfolding ◌⊕◌
sum_cancels a b long =
    tabulate_same 16 _ _ (λ i h. ap (λ (x : ℕ). x xor byte b i) (get_d_tabulate 16 _ i h) ∙ xor_cancels (byte a i) (byte b i))
    ∙ tabulate_own 16 a long

-- ---- a list of blocks
abbrev pub AllBlocks : List (List ℕ) → Type 0
AllBlocks [] = Unit {0}
AllBlocks (b ∷ bs) = Block b × AllBlocks bs

pub rest : (n : ℕ) (text : List ℕ) → Text (suc n) text → Text n (drop 16 text)
rest n text t = record { long = length-drop 16 text ∙ omega (arith, t.long); small = drop_bytes 16 text t.small }

pub first : (n : ℕ) (text : List ℕ) → Text (suc n) text → Block (take 16 text)
first n text t = record { long = length-take-le 16 text (omega (arith, t.long)); small = take_bytes 16 text t.small }

-- a text's first block, and the others
pub text_more : (n : ℕ) (text : List ℕ) → Text (suc n) text → blocks text ≡ take 16 text ∷ blocks (drop 16 text)
text_more n text t = blocks_more text (omega (arith, t.long))

pub text_blocks : (n : ℕ) (text : List ℕ) → Text n text → AllBlocks (blocks text)
text_blocks zero text t = subst⁻¹ AllBlocks (blocks_none text (omega (arith, t.long))) tt
text_blocks (suc n) text t =
    subst⁻¹ AllBlocks (text_more n text t) (first n text t, text_blocks n (drop 16 text) (rest n text t))

-- parsed, and written one after the other again
pub text_flatten : (n : ℕ) (text : List ℕ) → length text ≡ 16 * n → flatten (blocks text) ≡ text
unfolding flatten
text_flatten zero [] h = ap flatten (blocks_none [] (omega arith))
text_flatten zero (x ∷ text) h = absurd (omega arith)
text_flatten (suc n) text h =
    ap flatten (blocks_more text (omega arith))
    ∙ ap (λ (l : List ℕ). take 16 text ++ l) (text_flatten n (drop 16 text) (length-drop 16 text ∙ omega arith))
    ∙ take-append-drop 16 text

-- written one after the other, and parsed again
pub flatten_blocks : (bs : List (List ℕ)) → AllBlocks bs → blocks (flatten bs) ≡ bs
unfolding flatten
flatten_blocks [] all = blocks_none [] (omega arith)
flatten_blocks (b ∷ bs) all =
    blocks_append 1 b (flatten bs) all.0.long
    ∙ ap₂ (λ (x y : List (List ℕ)). x ++ y) (blocks_one b all.0.long) (flatten_blocks bs all.1)

pub flatten_text : (bs : List (List ℕ)) → AllBlocks bs → Text (length bs) (flatten bs)
unfolding flatten
flatten_text [] all = record { long = refl; small = λ i. lit< tt }
flatten_text (b ∷ bs) all =
    let t = flatten_text bs all.1 in
    record {
      long = length-append b (flatten bs) ∙ omega (arith, all.0.long, t.long);
      small = append_bytes b (flatten bs) all.0.small t.small;
    }

pub length_blocks : (n : ℕ) (text : List ℕ) → length text ≡ 16 * n → length (blocks text) ≡ n
length_blocks zero text h = ap length (blocks_none text (omega arith))
length_blocks (suc n) text h =
    ap length (blocks_more text (omega arith)) ∙ ap suc (length_blocks n (drop 16 text) (length-drop 16 text ∙ omega arith))
