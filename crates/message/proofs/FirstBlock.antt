-- The first block over any number n of flags: what was packed is read back, and what was read back packs to the block exactly
-- where the filler is zero. M4's clear block is the case of one flag, which is 1. Packing and reading are quotients and
-- remainders by powers of two, so both directions hold for every n up to 100, with no bytes in them.
-- Assumes nothing.
use mathlib.Core.Path.{◌≡◌, refl, sym, ap, ◌∙◌, subst}
use mathlib.Core.List.{List}
use mathlib.Core.Logic.{◌↔◌}
use Prim.Native.Nat.{ℕ, ◌+◌, ◌-◌, ◌*◌, ◌/◌, ◌%◌, ◌^◌, ◌≤◌, ◌<◌}
use native.Mathlib.Nat.{add_assoc, add-mul, add-zero, mul_assoc, mod-eq_of_lt, mod-lt}
use native.Mathlib.Omega.{arith}
use lib.Pow.{pow-add, pow_pos, shl_lt, shr_lt, shl-shr, split, high, low, mod-pow-add}
use Rattle.laws.proofs.Powers.{joined_below, zeros_after}
use Rattle.aes.specs.State.{Block}
use Rattle.modes.specs.Number.{number, in_bytes}
use Rattle.modes.proofs.Number.{number_below}
use Rattle.modes.proofs.InBytes.{length_in_bytes, in_bytes_small, number_in_bytes, in_bytes_number}
use Rattle.message.specs.FirstBlock.{first_block, counter_of, flags_of, filler_of, proof_block}

pub first_block_lem : (n c f : ℕ) → Block (first_block n c f)
unfolding first_block
first_block_lem n c f =
    let x : ℕ = c * 2 ^ 100 + f * 2 ^ (100 - n) in
    record { long = length_in_bytes 16 x; small = in_bytes_small 16 x }

block_number : (b : List ℕ) → Block b → number b < 2 ^ 128
block_number b h = subst (λ (k : ℕ). number b < 256 ^ k) h.long (number_below b h.small)

module _ (n : ℕ) (few : n ≤ 100) where
  whole : n + (100 - n) ≡ 100
  whole = omega arith

  -- counter and flags stand together before the filler
  together : (c f : ℕ) → c * 2 ^ 100 + f * 2 ^ (100 - n) ≡ (c * 2 ^ n + f) * 2 ^ (100 - n)
  together c f =
      let p : ℕ = 2 ^ (100 - n) in
      ap (λ (q : ℕ). q + f * p) (ap (λ (k : ℕ). c * 2 ^ k) (sym whole) ∙ ap (λ (q : ℕ). c * q) (pow-add 2 n (100 - n)) ∙ sym (mul_assoc c (2 ^ n) p))
      ∙ sym (add-mul (c * 2 ^ n) f p)

  -- ---- what was packed
  module _ (c f : ℕ) (hc : c < 2 ^ 28) (hf : f < 2 ^ n) where
    flags_below : f * 2 ^ (100 - n) < 2 ^ 100
    flags_below = subst (λ (k : ℕ). f * 2 ^ (100 - n) < 2 ^ k) whole (shl_lt n (100 - n) hf)

    packed_number : number (first_block n c f) ≡ c * 2 ^ 100 + f * 2 ^ (100 - n)
    unfolding first_block
    packed_number = number_in_bytes 16 _ ∙ mod-eq_of_lt (joined_below 28 100 c (f * 2 ^ (100 - n)) hc flags_below)

    pub counter_packed : counter_of (first_block n c f) ≡ c
    unfolding counter_of
    counter_packed = ap (λ (x : ℕ). x / 2 ^ 100) packed_number ∙ high c 100 flags_below

    pub flags_packed : flags_of n (first_block n c f) ≡ f
    unfolding flags_of
    flags_packed =
        ap (λ (x : ℕ). x / 2 ^ (100 - n) % 2 ^ n) (packed_number ∙ together c f)
        ∙ ap (λ (x : ℕ). x % 2 ^ n) (shl-shr (c * 2 ^ n + f) (100 - n))
        ∙ low c n hf

    pub filler_packed : filler_of n (first_block n c f) ≡ 0
    unfolding filler_of
    filler_packed = ap (λ (x : ℕ). x % 2 ^ (100 - n)) (packed_number ∙ together c f) ∙ zeros_after (c * 2 ^ n + f) (100 - n)

  -- ---- what was read
  module _ (b : List ℕ) (h : Block b) where
    pub counter_read : counter_of b < 2 ^ 28
    unfolding counter_of
    counter_read = shr_lt 28 100 (block_number b h)

    pub flags_read : flags_of n b < 2 ^ n
    unfolding flags_of
    flags_read = mod-lt _ (pow_pos n)

    parts : number b ≡ counter_of b * 2 ^ 100 + flags_of n b * 2 ^ (100 - n) + filler_of n b
    unfolding counter_of flags_of filler_of
    parts =
        let x : ℕ = number b in
        let rest : x % 2 ^ 100 ≡ x / 2 ^ (100 - n) % 2 ^ n * 2 ^ (100 - n) + x % 2 ^ (100 - n)
        = ap (λ (k : ℕ). x % 2 ^ k) (sym whole) ∙ mod-pow-add x n (100 - n) in
        sym (split x 100) ∙ ap (λ (y : ℕ). x / 2 ^ 100 * 2 ^ 100 + y) rest ∙ sym (add_assoc (x / 2 ^ 100 * 2 ^ 100) (x / 2 ^ (100 - n) % 2 ^ n * 2 ^ (100 - n)) (x % 2 ^ (100 - n)))

    pub packs_back : filler_of n b ≡ 0 → first_block n (counter_of b) (flags_of n b) ≡ b
    unfolding first_block
    packs_back zeros =
        ap (in_bytes 16) (sym (parts ∙ ap (λ (z : ℕ). counter_of b * 2 ^ 100 + flags_of n b * 2 ^ (100 - n) + z) zeros ∙ add-zero _))
        ∙ ap (λ (k : ℕ). in_bytes k (number b)) (sym h.long)
        ∙ in_bytes_number b h.small

    -- what was read packs to the block exactly where the filler is zero
    pub packs_back_exactly : (filler_of n b ≡ 0) ↔ (first_block n (counter_of b) (flags_of n b) ≡ b)
    packs_back_exactly = (
      packs_back,
      λ e. sym (ap (filler_of n) e) ∙ filler_packed (counter_of b) (flags_of n b) counter_read flags_read,
    )

-- ---- M4's clear block: its counter is read back, and a block is one exactly where the bit after the counter is 1 and the rest zero
pub proof_counter : (c : ℕ) → c < 2 ^ 28 → counter_of (proof_block c) ≡ c
proof_counter c h = counter_packed 1 (omega arith) c 1 h (omega arith)

pub proof_exactly : (b : List ℕ) → Block b → ((flags_of 1 b ≡ 1) × (filler_of 1 b ≡ 0)) ↔ (proof_block (counter_of b) ≡ b)
proof_exactly b h =
    let few : 1 ≤ 100 = omega arith in
    let fits = counter_read 1 few b h in (
      λ e. ap (first_block 1 (counter_of b)) (sym e.0) ∙ packs_back 1 few b h e.1,
      λ e. (sym (ap (flags_of 1) e) ∙ flags_packed 1 few (counter_of b) 1 fits (omega arith), sym (ap (filler_of 1) e) ∙ filler_packed 1 few (counter_of b) 1 fits (omega arith)),
    )

-- a 1 bit after the counter is the first of five flags alone
pub one_bit : (c : ℕ) → first_block 5 c 16 ≡ first_block 1 c 1
unfolding first_block
one_bit c = refl
