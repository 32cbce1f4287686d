-- Only the bits that count have an influence on a MAC: two messages that agree in them have one MAC. Bytes that agree in
-- their first bits agree when divided, so the parts of the message that the definition reads are equal.
-- Assumes nothing.
use mathlib.Core.Path.{◌≡◌, sym, ap, ap₂, ◌∙◌}
use mathlib.Core.List.{List, [], ◌∷◌, ◌++◌, foldl}
use Prim.Native.Nat.{ℕ, zero, suc, ◌+◌, ◌-◌, ◌*◌, ◌/◌, ◌%◌, ◌^◌, ◌≤◌, ◌<◌}
use native.Mathlib.Decide.{dec_le}
use native.Mathlib.Nat.{div-add-mod', lt_of_not-le}
use native.Mathlib.Omega.{arith}
use lib.ListN.{length, take, drop, replicate}
use lib.Pow.{shr-shr}
use lib.Seq.{take_all, get_or-drop}
use Rattle.laws.proofs.Tabulate.{tabulate_same, tabulate_part}
use Rattle.field.specs.Field.{bit}
use Rattle.aes.specs.State.{byte, Bytes}
use Rattle.modes.specs.Blocks.{◌⊕◌, zero_block, blocks}
use Rattle.modes.specs.Cbc.{chained}
use Rattle.modes.specs.Cmac.{k2, cut, padded, block_count, last_at, last_block, cmac, message_bit, Agree}
use Rattle.modes.proofs.MacSteps.{incomplete}

-- two bytes that agree in their first t bits
first_bits : (t x y : ℕ) → t ≤ 8 → x < 256 → y < 256 → ((k : ℕ) → k < t → bit x (7 - k) ≡ bit y (7 - k)) → x / 2 ^ (8 - t) ≡ y / 2 ^ (8 - t)
first_bits zero x y h hx hy same = omega arith
first_bits (suc t) x y h hx hy same =
    let s : ℕ = 7 - t in
    let here : 8 - suc t ≡ s = omega arith in
    let next : 8 - t ≡ s + 1 = omega arith in
    let bit-more : (z : ℕ) → z / 2 ^ (8 - suc t) ≡ z / 2 ^ (8 - t) * 2 + bit z s
    = λ z. ap (λ (n : ℕ). z / 2 ^ n) here ∙ sym (div-add-mod' (z / 2 ^ s) 2)
    ∙ ap (λ (n : ℕ). n * 2 + bit z s) (shr-shr z s 1 ∙ sym (ap (λ (n : ℕ). z / 2 ^ n) next)) in
    bit-more x
    ∙ ap₂ (λ (m n : ℕ). m * 2 + n) (first_bits t x y (omega arith) hx hy (λ k l. same k (omega arith))) (same t (omega arith))
    ∙ sym (bit-more y)

module _ (bits : ℕ) (a b : List ℕ) (ba : Bytes a) (bb : Bytes b) (agree : Agree bits a b) where
  -- of byte j, t bits are among those that agree
  pub byte_bits : (j t : ℕ) → t ≤ 8 → 8 * j + t ≤ bits → byte a j / 2 ^ (8 - t) ≡ byte b j / 2 ^ (8 - t)
  byte_bits j t h l =
      first_bits t (byte a j) (byte b j) h (ba j) (bb j)
      (λ k m.
      let place : (8 * j + k) / 8 ≡ j = omega arith in
      let which : (8 * j + k) % 8 ≡ k = omega arith in
      let at : (l : List ℕ) → message_bit l (8 * j + k) ≡ bit (byte l j) (7 - k)
      = λ l. ap₂ (λ (p w : ℕ). bit (byte l p) (7 - w)) place which in
      sym (at a) ∙ agree (8 * j + k) (omega arith) ∙ at b)

  whole_byte : (j : ℕ) → 8 * j + 8 ≤ bits → byte a j ≡ byte b j
  whole_byte j l = omega (arith, byte_bits j 8 (omega arith) l)

  pub part : (at n : ℕ) → at + n ≤ length a → at + n ≤ length b → 8 * (at + n) ≤ bits → take n (drop at a) ≡ take n (drop at b)
  part at n la lb l =
      sym (tabulate_part n a at la) ∙ tabulate_same n _ _ (λ k h. whole_byte (at + k) (omega arith)) ∙ tabulate_part n b at lb

  module _ (la : length a ≡ 16 * block_count bits) (lb : length b ≡ 16 * block_count bits) where
    -- where all bits count, the messages are equal
    all_count : 8 * length a ≤ bits → a ≡ b
    all_count l =
        sym (take_all (length a) a (omega arith)) ∙ part 0 (length a) (omega arith) (omega arith) (omega arith) ∙ take_all (length a) b (omega arith)

    -- where not, the padded last blocks are
    pad_same : bits < 8 * length a → padded (bits - 8 * last_at bits) (drop (last_at bits) a) ≡ padded (bits - 8 * last_at bits) (drop (last_at bits) b)
    unfolding padded
    pad_same l =
        let at : ℕ = last_at bits in
        let r : ℕ = bits - 8 * at in
        let q : ℕ = r / 8 in
        let t : ℕ = r % 8 in
        ap₂ (λ (f : List ℕ) (c : ℕ). f ++ (c ∷ replicate (15 - q) 0)) (part at q (omega arith) (omega arith) (omega arith))
        (ap (cut t) (get_or-drop at a q 0) ∙ ap (λ (n : ℕ). (n * 2 + 1) * 2 ^ (7 - t)) (byte_bits (at + q) t (omega arith) (omega arith))
        ∙ sym (ap (cut t) (get_or-drop at b q 0)))

    pub counted : (ciph : List ℕ → List ℕ) → cmac ciph bits a ≡ cmac ciph bits b
    unfolding cmac
    counted ciph = by_cases (dec_le (8 * length a) bits)
      where
        by_cases : Dec (8 * length a ≤ bits) → cmac ciph bits a ≡ cmac ciph bits b
        by_cases (yes l) = ap (cmac ciph bits) (all_count l)
        by_cases (no g) =
            let l : bits < 8 * length a = lt_of_not-le g in
            let at : ℕ = last_at bits in
            let r : ℕ = bits - 8 * at in
            let last : last_block ciph r (drop at a) ≡ last_block ciph r (drop at b)
            = sym (incomplete ciph r (drop at a) (λ e. omega arith)) ∙ ap (λ (p : List ℕ). k2 ciph ⊕ p) (pad_same l)
            ∙ incomplete ciph r (drop at b) (λ e. omega arith) in
            ap₂ (λ (f m : List ℕ). foldl (chained ciph) zero_block (blocks f ++ (m ∷ [])))
            (part 0 at (omega arith) (omega arith) (omega arith)) last
