-- The constants end in the padding that the compression asks for, so that KDF is the compression of a preprocessed message.
-- Assumes nothing.
use mathlib.Core.Path.{◌≡◌, refl, sym, ap, ◌∙◌}
use mathlib.Core.List.{List, ◌++◌, append_assoc}
use Prim.Native.Nat.{ℕ, ◌+◌, ◌*◌, ◌^◌, ◌%◌, ◌<◌}
use native.Mathlib.Nat.{mod-eq_of_lt}
use native.Mathlib.Omega.{arith}
use lib.ListN.{length, length-append}
use Rattle.modes.proofs.InBytes.{number_in_bytes}
use Rattle.modes.specs.Compression.{compress, kdf, zero_bits, padding, preprocessed}
use Rattle.modes.specs.Constants.{constant_of, label}
use Rattle.modes.specs.Number.{number, in_bytes}
use Rattle.modes.specs.declared.Constant.TheVariants.{KeyUpdateEnc, KeyUpdateMac, DebugKey, PrngKey, PrngSeedKey, PrngExtension}

-- the zeros are as many as 4.3.3 asks for, the fewest, and fill whole bytes; the length is that number
pub zeros_asked : (l : ℕ) → ((l + 1 + zero_bits l) % 128 ≡ 88) × (zero_bits l < 128)
zeros_asked l = (omega arith, omega arith)

pub zeros_in_bytes : (n : ℕ) → zero_bits (8 * n) % 8 ≡ 7
zeros_in_bytes n = omega arith

pub length_in_40_bits : (l : ℕ) → l < 2 ^ 40 → number (in_bytes 5 l) ≡ l
length_in_40_bits l h = number_in_bytes 5 l ∙ mod-eq_of_lt h

-- a key of 128 bits and a label of 48: 176 bits. The constants 1 to 5 are labels with that padding, and the last is the
-- padding of 256 bits
pub constants_padded :
    (constant_of KeyUpdateEnc ≡ label 1 ++ padding 176) × (constant_of KeyUpdateMac ≡ label 2 ++ padding 176)
    × (constant_of DebugKey ≡ label 3 ++ padding 176) × (constant_of PrngKey ≡ label 4 ++ padding 176)
    × (constant_of PrngSeedKey ≡ label 5 ++ padding 176) × (constant_of PrngExtension ≡ padding 256)
unfolding padding
constants_padded = (refl, refl, refl, refl, refl, refl)

pub kdf_preprocessed : (key constant : List ℕ) (number : ℕ) → length key ≡ 16 → constant ≡ label number ++ padding 176
    → kdf key constant ≡ compress (preprocessed (key ++ label number))
unfolding kdf preprocessed
kdf_preprocessed key constant number long e =
    let bits : 8 * length (key ++ label number) ≡ 176 = omega (arith, length-append key (label number)) in
    ap compress
    (ap (λ (c : List ℕ). key ++ c) e ∙ sym (append_assoc key (label number) (padding 176)) ∙ ap (λ (l : ℕ). key ++ label number ++ padding l) (sym bits))

pub extension_preprocessed : (message : List ℕ) → length message ≡ 32 → message ++ constant_of PrngExtension ≡ preprocessed message
unfolding preprocessed
extension_preprocessed message long =
    let bits : 8 * length message ≡ 256 = omega arith in
    ap (λ (c : List ℕ). message ++ c) (constants_padded.5 ∙ ap padding (sym bits))
