-- The compression, carried on; and that it gives blocks.
-- Assumes nothing.
use mathlib.Core.Path.{◌≡◌, refl, sym, ap, ◌∙◌, subst⁻¹}
use mathlib.Core.List.{List, ◌++◌, append_assoc, foldl, foldl-append}
use Prim.Native.Nat.{ℕ, ◌*◌}
use native.Mathlib.Omega.{arith}
use lib.ListN.{length, length-append}
use Rattle.aes.specs.Cipher.{cipher}
use Rattle.aes.specs.State.{Block}
use Rattle.aes.proofs.Bytes.{tested_bytes, zero_block_lem}
use Rattle.aes.proofs.RoundTrip.{inverses}
use Rattle.modes.specs.Blocks.{◌⊕◌, zero_block, blocks}
use Rattle.modes.specs.Compression.{compressed, compress_from, compress, kdf}
use Rattle.modes.specs.Constants.{constant_of}
use Rattle.modes.specs.declared.Constant.{Constant}
use Rattle.modes.specs.declared.Constant.TheVariants.{KeyUpdateEnc, KeyUpdateMac, DebugKey, PrngKey, PrngSeedKey, PrngExtension}
use Rattle.modes.proofs.Blocks.{blocks_one, blocks_append}
use Rattle.modes.proofs.Texts.{sum_block}

-- a text of whole blocks, and from its output another
pub carried_on : (n : ℕ) (out s t : List ℕ) → length s ≡ 16 * n → compress_from out (s ++ t) ≡ compress_from (compress_from out s) t
unfolding compress_from
carried_on n out s t h = ap (foldl compressed out) (blocks_append n s t h) ∙ foldl-append compressed out (blocks s) (blocks t)

pub one_block : (out x : List ℕ) → length x ≡ 16 → compress_from out x ≡ compressed out x
unfolding compress_from
one_block out x h = ap (foldl compressed out) (blocks_one x h)

-- a block more
pub and_a_block : (n : ℕ) (out s x : List ℕ) → length s ≡ 16 * n → length x ≡ 16 → compress_from out (s ++ x) ≡ compressed (compress_from out s) x
and_a_block n out s x hs hx = carried_on n out s x hs ∙ one_block (compress_from out s) x hx

-- two blocks, and three
pub two_compressed : (x y : List ℕ) → length x ≡ 16 → length y ≡ 16 → compress (x ++ y) ≡ compressed (compressed zero_block x) y
unfolding compress
two_compressed x y hx hy = and_a_block 1 zero_block x y hx hy ∙ ap (λ (out : List ℕ). compressed out y) (one_block zero_block x hx)

pub three_compressed : (x y z : List ℕ) → length x ≡ 16 → length y ≡ 16 → length z ≡ 16 → compress (x ++ (y ++ z)) ≡ compressed (compress (x ++ y)) z
unfolding compress
three_compressed x y z hx hy hz =
    ap (compress_from zero_block) (sym (append_assoc x y z)) ∙ and_a_block 2 zero_block (x ++ y) z (length-append x y ∙ omega arith) hz

-- ---- blocks give a block
compressed_block : (out x : List ℕ) → Block out → Block x → Block (compressed out x)
compressed_block out x ho hx =
    sum_block (cipher out x ⊕ x) out (sum_block (cipher out x) x ((inverses out ho).there.keeps x hx).small hx.small).small ho.small

pub kdf_block : (key constant : List ℕ) → Block key → Block constant → Block (kdf key constant)
unfolding kdf
kdf_block key constant hk hc =
    subst⁻¹ Block (two_compressed key constant hk.long hc.long)
    (compressed_block (compressed zero_block key) constant (compressed_block zero_block key zero_block_lem hk) hc)

pub constant_block : (name : Constant) → Block (constant_of name)
constant_block KeyUpdateEnc = record { long = refl; small = tested_bytes (constant_of KeyUpdateEnc) refl }
constant_block KeyUpdateMac = record { long = refl; small = tested_bytes (constant_of KeyUpdateMac) refl }
constant_block DebugKey = record { long = refl; small = tested_bytes (constant_of DebugKey) refl }
constant_block PrngKey = record { long = refl; small = tested_bytes (constant_of PrngKey) refl }
constant_block PrngSeedKey = record { long = refl; small = tested_bytes (constant_of PrngSeedKey) refl }
constant_block PrngExtension = record { long = refl; small = tested_bytes (constant_of PrngExtension) refl }
