-- The first block with its five flags, byte by byte: the shifts and masks of the code. `FirstBlock.antt` has the block as one
-- number; here that number is taken apart into bytes.
-- Assumes nothing.
use mathlib.Core.Path.{◌≡◌, refl, sym, ap, ap₂, ◌∙◌, subst}
use mathlib.Core.Bool.{Bool, true, false, ◌&&◌, true≢false}
use mathlib.Core.List.{List, [], ◌∷◌, ◌++◌}
use Prim.Native.Nat.{ℕ, ◌+◌, ◌*◌, ◌/◌, ◌%◌, ◌^◌, ◌≤◌, ◌<◌}
use native.Mathlib.Omega.{arith}
use borrow.Author.Tests.{eq-eqb, ne_eqb, eqb-true, eqb-false}
use lib.Bits.{bit_or, bit_and, or_shifted, and_mask}
use lib.Dec.{eqb}
use lib.ListN.{length, take, drop, replicate, length-drop, take-append-drop}
use lib.Pow.{shr-shr, high, low, mod-pow-add}
use Rattle.laws.specs.Same.{same}
use Rattle.laws.specs.Tabulate.{tabulate}
use Rattle.laws.proofs.Same.{same_equal, equal_same}
use Rattle.laws.proofs.Tabulate.{tabulate_part}
use Rattle.aes.specs.State.{byte, Bytes}
use Rattle.aes.proofs.Bytes.{drop_bytes}
use Rattle.modes.specs.Number.{number, in_bytes}
use Rattle.modes.proofs.Number.{number_below, number_append, number_zeros}
use Rattle.modes.proofs.InBytes.{in_bytes_append, in_bytes_number}
use Rattle.message.specs.FirstBlock.{first_block, counter_of, flags_of, filler_of}

-- ---- packing: counter and flags are in the first five bytes
five_bytes : (c f : ℕ) → first_block 5 c f ≡ in_bytes 5 (c * 4096 + f * 128) ++ replicate 11 0
unfolding first_block
five_bytes c f =
    ap (in_bytes 16) (sum c f)
    ∙ in_bytes_append 5 11 (c * 4096 + f * 128) 0 (omega arith)
  where
    sum : (c f : ℕ) → c * 2 ^ 100 + f * 2 ^ 95 ≡ (c * 4096 + f * 128) * 256 ^ 11 + 0
    sum c f = omega arith

pub packed : (c f : ℕ) → c ≤ 268435455 → f < 32
    → (c * 16 % 4294967296 / 16777216 % 256 ∷ c * 16 % 4294967296 / 65536 % 256 ∷ c * 16 % 4294967296 / 256 % 256
    ∷ bit_or (c * 16 % 4294967296 % 256) (f / 2) ∷ f * 128 % 256 ∷ replicate 11 0)
    ≡ first_block 5 c f
packed c f hc hf =
    let h : ℕ = c * 4096 + f * 128 in
    let b0 : c * 16 % 4294967296 / 16777216 % 256 ≡ h / 256 ^ 4 % 256 = omega arith in
    let b1 : c * 16 % 4294967296 / 65536 % 256 ≡ h / 256 ^ 3 % 256 = omega arith in
    let b2 : c * 16 % 4294967296 / 256 % 256 ≡ h / 256 ^ 2 % 256 = omega arith in
    let top : c * 16 % 4294967296 % 256 ≡ c % 16 * 16 = omega arith in
    let b3 : bit_or (c * 16 % 4294967296 % 256) (f / 2) ≡ h / 256 ^ 1 % 256
    = ap (λ (x : ℕ). bit_or x (f / 2)) top ∙ or_shifted (c % 16) 4 (f / 2) (omega arith) ∙ omega arith in
    let b4 : f * 128 % 256 ≡ h / 256 ^ 0 % 256 = omega arith in
    rw (b0, b1, b2, b3, b4) (sym (five_bytes c f))

-- ---- reading: the number of the first five bytes, and what comes after them
module _ (b : List ℕ) (long : length b ≡ 16) (small : Bytes b) where
  abbrev head : ℕ
  head = byte b 0 * 4294967296 + byte b 1 * 16777216 + byte b 2 * 65536 + byte b 3 * 256 + byte b 4

  abbrev tail : ℕ
  tail = number (drop 5 b)

  eleven : length (drop 5 b) ≡ 11
  eleven = length-drop 5 b ∙ omega arith

  tail_below : tail < 2 ^ 88
  tail_below = subst (λ (k : ℕ). number (drop 5 b) < 256 ^ k) eleven (number_below (drop 5 b) (drop_bytes 5 b small))

  in_parts : number b ≡ head * 2 ^ 88 + tail
  unfolding number tabulate
  in_parts =
      let five : byte b 0 ∷ byte b 1 ∷ byte b 2 ∷ byte b 3 ∷ byte b 4 ∷ [] ≡ take 5 b = tabulate_part 5 b 0 (omega arith) in
      let sums : number (byte b 0 ∷ byte b 1 ∷ byte b 2 ∷ byte b 3 ∷ byte b 4 ∷ []) ≡ head = omega arith in
      ap number (sym (take-append-drop 5 b))
      ∙ number_append (take 5 b) (drop 5 b)
      ∙ ap₂ (λ (x k : ℕ). x * 256 ^ k + tail) (sym (ap number five) ∙ sums) eleven

  head_of : number b / 2 ^ 88 ≡ head
  head_of = ap (λ (x : ℕ). x / 2 ^ 88) in_parts ∙ high head 88 tail_below

  pub counter_by_shift : (byte b 0 * 16777216 + byte b 1 * 65536 + byte b 2 * 256 + byte b 3) / 16 ≡ counter_of b
  unfolding counter_of
  counter_by_shift = omega (arith, small 4) ∙ ap (λ (h : ℕ). h / 2 ^ 12) (sym head_of) ∙ shr-shr (number b) 88 12

  pub flags_by_shifts : bit_or (bit_and (byte b 3) 15 * 2 % 256) (byte b 4 / 128) ≡ flags_of 5 b
  unfolding flags_of
  flags_by_shifts =
      let fits : byte b 3 % 16 * 2 % 256 ≡ byte b 3 % 16 * 2 = omega arith in
      ap (λ (x : ℕ). bit_or (x * 2 % 256) (byte b 4 / 128)) (and_mask (byte b 3) 4)
      ∙ ap (λ (x : ℕ). bit_or x (byte b 4 / 128)) fits
      ∙ or_shifted (byte b 3 % 16) 1 (byte b 4 / 128) (omega (arith, small 4))
      ∙ omega (arith, small 3, small 4)
      ∙ ap (λ (h : ℕ). h / 2 ^ 7 % 32) (sym head_of)
      ∙ ap (λ (x : ℕ). x % 32) (shr-shr (number b) 88 7)

  -- the filler: seven bits of byte 4, and the bytes after it
  filler_parts : filler_of 5 b ≡ byte b 4 % 128 * 2 ^ 88 + tail
  unfolding filler_of
  filler_parts =
      mod-pow-add (number b) 7 88
      ∙ ap₂ (λ (x y : ℕ). x % 128 * 2 ^ 88 + y) head_of (ap (λ (x : ℕ). x % 2 ^ 88) in_parts ∙ low head 88 tail_below)
      ∙ ap (λ (x : ℕ). x * 2 ^ 88 + tail) (omega arith)

  zero_tail : tail ≡ 0 → drop 5 b ≡ replicate 11 0
  zero_tail e =
      sym (in_bytes_number (drop 5 b) (drop_bytes 5 b small))
      ∙ ap₂ in_bytes eleven e

  pub filler_by_bytes : eqb (bit_and (byte b 4) 127) 0 && same (drop 5 b) (replicate 11 0) ≡ eqb (filler_of 5 b) 0
  filler_by_bytes =
      ap (λ (x : ℕ). eqb x 0 && same (drop 5 b) (replicate 11 0)) (and_mask (byte b 4) 7)
      ∙ tests (eqb (byte b 4 % 128) 0) (same (drop 5 b) (replicate 11 0)) refl refl
    where
      tests : (s t : Bool) → eqb (byte b 4 % 128) 0 ≡ s → same (drop 5 b) (replicate 11 0) ≡ t → s && t ≡ eqb (filler_of 5 b) 0
      tests true true hs ht =
          let zero_bits = eqb-true (byte b 4 % 128) 0 hs in
          let zeros : tail ≡ 0 = ap number (equal_same (drop 5 b) (replicate 11 0) ht) ∙ number_zeros 11 in
          sym (eq-eqb (filler_of 5 b) 0 (filler_parts ∙ omega (arith, zero_bits, zeros)))
      tests true false hs ht =
          sym (ne_eqb (filler_of 5 b) 0 (λ (e : filler_of 5 b ≡ 0). true≢false (sym (same_equal (drop 5 b) (replicate 11 0) (zero_tail (omega (arith, e, filler_parts)))) ∙ ht)))
      tests false t hs ht =
          sym (ne_eqb (filler_of 5 b) 0 (λ (e : filler_of 5 b ≡ 0). eqb-false (byte b 4 % 128) 0 hs (omega (arith, e, filler_parts))))
