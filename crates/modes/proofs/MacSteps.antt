-- CMAC: the last block where it is not complete, the steps of the code put together, and that a MAC is a block.
-- Assumes nothing.
use mathlib.Core.Path.{◌≡◌, refl, sym, ap, ap₂, ◌∙◌, subst}
use mathlib.Core.List.{List, [], ◌∷◌, foldl, foldl-append}
use Prim.Native.Nat.{ℕ, ◌-◌, ◌*◌}
use native.Mathlib.Omega.{arith}
use lib.ListN.{length, take, drop, length-drop}
use lib.Seq.{take_all}
use Rattle.laws.proofs.Test.{where_other}
use Rattle.aes.specs.Cipher.{cipher}
use Rattle.aes.specs.State.{Block}
use Rattle.aes.proofs.RoundTrip.{cipher_block}
use Rattle.modes.specs.Blocks.{◌⊕◌, zero_block, blocks}
use Rattle.modes.specs.Cbc.{chained}
use Rattle.modes.specs.Cmac.{k1, k2, padded, block_count, last_at, last_block, cmac}

module _ (ciph : List ℕ → List ℕ) where
  pub incomplete : (r : ℕ) (x : List ℕ) → (r ≡ 128 → ⊥) → k2 ciph ⊕ padded r x ≡ last_block ciph r x
  unfolding last_block
  incomplete r x e = where_other r 128 (k1 ciph ⊕ x) (k2 ciph ⊕ padded r x) e

  -- the blocks before the last chained, and then the last
  last_chained : (bits : ℕ) (m : List ℕ)
      → ciph (last_block ciph (bits - 8 * last_at bits) (drop (last_at bits) m) ⊕ foldl (chained ciph) zero_block (blocks (take (last_at bits) m)))
      ≡ cmac ciph bits m
  unfolding cmac
  last_chained bits m =
      sym (foldl-append (chained ciph) zero_block (blocks (take (last_at bits) m)) (last_block ciph (bits - 8 * last_at bits) (drop (last_at bits) m) ∷ []))

  pub mac_steps : (bits : ℕ) (m : List ℕ) (at : ℕ) (c x t : List ℕ) → length m ≡ 16 * block_count bits → at ≡ last_at bits
      → c ≡ foldl (chained ciph) zero_block (blocks (take at m)) → x ≡ take 16 (drop at m)
      → t ≡ chained ciph c (last_block ciph (bits - 8 * at) x) → t ≡ cmac ciph bits m
  mac_steps bits m at c x t long here ec ex et =
      let rest : x ≡ drop (last_at bits) m
      = ex ∙ take_all 16 (drop at m) (omega (arith, length-drop at m)) ∙ ap (λ (k : ℕ). drop k m) here in
      et
      ∙ ap₂ (chained ciph) (ec ∙ ap (λ (k : ℕ). foldl (chained ciph) zero_block (blocks (take k m))) here)
      (ap₂ (λ (k : ℕ) (y : List ℕ). last_block ciph (bits - 8 * k) y) here rest)
      ∙ last_chained bits m

  -- as the code has them
  pub mac_whole : (bits : ℕ) (m : List ℕ) → length m ≡ 16 * block_count bits → let at : ℕ = length m - 16 in
      cmac ciph bits m
      ≡ chained ciph (foldl (chained ciph) zero_block (blocks (take at m))) (last_block ciph (bits - 8 * at) (take 16 (drop at m)))
  mac_whole bits m long = sym (mac_steps bits m (length m - 16) _ _ _ long (omega arith) refl refl refl)

-- a MAC is a block, of any message
pub mac_block : (key : List ℕ) (bits : ℕ) (m : List ℕ) → Block key → Block (cmac (cipher key) bits m)
mac_block key bits m k = subst Block (last_chained (cipher key) bits m) (cipher_block key _ k)
