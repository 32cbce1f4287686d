-- The MAC of a text of whole bytes: what stands after its end does not count; and where a first block stands before it, where the last
-- block begins and what it holds.
-- Assumes nothing.
use mathlib.Core.Path.{◌≡◌, refl, sym, ap, ◌∙◌}
use mathlib.Core.List.{List, [], ◌∷◌, ◌++◌, foldl, foldl-append}
use Prim.Native.Nat.{ℕ, zero, suc, ◌+◌, ◌-◌, ◌*◌, ◌/◌, ◌%◌, ◌≤◌, ◌<◌}
use native.Mathlib.Nat.{zero-add}
use native.Mathlib.Omega.{arith}
use lib.ListN.{length, take, drop, replicate, length-append, length-drop, length-replicate}
use lib.Seq.{get_or-take, take_all, take_at, take-append-le, drop-append-le, take-append-add, drop-append-add}
use Rattle.laws.proofs.Tabulate.{tabulate_same, tabulate_own}
use Rattle.field.specs.Field.{bit}
use Rattle.aes.specs.State.{byte, Bytes}
use Rattle.aes.proofs.Bytes.{append_bytes, zero_bytes}
use Rattle.basics.specs.Bytes.{block_at}
use Rattle.modes.specs.Blocks.{zero_block, blocks}
use Rattle.modes.specs.Cbc.{chained}
use Rattle.modes.specs.Cmac.{block_count, last_block, cmac, whole_blocks, text_mac, Agree}
use Rattle.modes.proofs.Blocks.{blocks_append, blocks_none}
use Rattle.modes.proofs.Counted.{counted}
use Rattle.modes.proofs.MacSteps.{mac_steps}

-- zeros after a list change none of its elements
then_zeros : (s : List ℕ) (n i : ℕ) → byte (s ++ replicate n 0) i ≡ byte s i
then_zeros [] zero i = refl
then_zeros [] (suc n) zero = refl
then_zeros [] (suc n) (suc i) = then_zeros [] n i
then_zeros (x ∷ s) n zero = refl
then_zeros (x ∷ s) n (suc i) = then_zeros s n i

-- a block that is read past the end of a text
filled_block : (s : List ℕ) → length s ≤ 16 → block_at s 0 ≡ s ++ replicate (16 - length s) 0
unfolding block_at
filled_block s h =
    tabulate_same 16 _ _ (λ i l. ap (byte s) (zero-add i) ∙ sym (then_zeros s (16 - length s) i))
    ∙ tabulate_own 16 (s ++ replicate (16 - length s) 0)
    (length-append s (replicate (16 - length s) 0) ∙ omega (arith, length-replicate {A = ℕ} (16 - length s) 0))

-- how many blocks so many bytes are
count_bytes : (n : ℕ) → (8 * n + 127) / 128 ≡ (n + 15) / 16
count_bytes n = omega arith

whole_long : (text : List ℕ) → length (whole_blocks text) ≡ 16 * block_count (8 * length text)
whole_long text =
    let n : ℕ = 16 * block_count (8 * length text) - length text in
    length-append text (replicate n 0) ∙ omega (arith, length-replicate {A = ℕ} n 0, count_bytes (length text))

-- ---- the bytes after the text do not count: whatever fills its last block, CMAC of so many bits is that of the text
module _ (text message : List ℕ) (long : length message ≡ 16 * block_count (8 * length text)) (begins : take (length text) message ≡ text) where
  bits_agree : Agree (8 * length text) (whole_blocks text) message
  bits_agree i h =
      let j : ℕ = i / 8 in
      ap (λ (b : ℕ). bit b (7 - i % 8))
      (then_zeros text (16 * block_count (8 * length text) - length text) j ∙ sym (ap (λ (l : List ℕ). byte l j) begins)
      ∙ get_or-take (length text) message j 0 (omega arith))

  pub text_counted : (ciph : List ℕ → List ℕ) → Bytes text → Bytes message → text_mac ciph text ≡ cmac ciph (8 * length text) message
  unfolding text_mac
  text_counted ciph small small' =
      let n : ℕ = 16 * block_count (8 * length text) - length text in
      let zeros : Bytes (whole_blocks text) = append_bytes text (replicate n 0) small (zero_bytes n) in
      counted (8 * length text) (whole_blocks text) message zeros small' bits_agree (whole_long text) long ciph

-- ---- a first block, and a text after it
module _ (ciph : List ℕ → List ℕ) (first text : List ℕ) (long : length first ≡ 16) where
  abbrev bits : ℕ
  bits = 8 * length (first ++ text)

  abbrev zeros : List ℕ
  zeros = replicate (16 * block_count (8 * length (first ++ text)) - length (first ++ text)) 0

  all_long : length (first ++ text) ≡ 16 + length text
  all_long = length-append first text ∙ ap (λ (n : ℕ). n + length text) long

  -- where there is no text the first block is the last
  pub first_alone : length text ≡ 0 → text_mac ciph (first ++ text) ≡ chained ciph zero_block (last_block ciph 128 first)
  unfolding text_mac
  first_alone none =
      let whole : List ℕ = whole_blocks (first ++ text) in
      let one : 128 ≡ bits - 8 * 0 = omega (arith, all_long, none) in
      sym (mac_steps ciph bits whole 0 zero_block first _ (whole_long (first ++ text)) (omega (arith, all_long, none))
      (sym (ap (foldl (chained ciph) zero_block) (blocks_none (take 0 whole) (omega arith))))
      (sym (take-append-le 16 (first ++ text) zeros (omega (arith, all_long)) ∙ take_at first text 16 long))
      (ap (λ (k : ℕ). chained ciph zero_block (last_block ciph k first)) one))

  -- where there is one the last block is its last, filled up
  module _ (some : 0 < length text) where
    abbrev at : ℕ
    at = (length text - 1) / 16 * 16

    front : first ++ take at text ≡ take (16 + at) (whole_blocks (first ++ text))
    front =
        sym (take-append-le (16 + at) (first ++ text) zeros (omega (arith, all_long, some))
        ∙ ap (λ (n : ℕ). take (n + at) (first ++ text)) (sym long) ∙ take-append-add first text at)

    back : drop at text ++ zeros ≡ drop (16 + at) (whole_blocks (first ++ text))
    back =
        sym (drop-append-le (16 + at) (first ++ text) zeros (omega (arith, all_long, some))
        ∙ ap (λ (l : List ℕ). l ++ zeros) (ap (λ (n : ℕ). drop (n + at) (first ++ text)) (sym long) ∙ drop-append-add first text at))

    -- the first block, those before the last, and the last
    count : block_count (8 * length (first ++ text)) ≡ (length text - 1) / 16 + 2
    count =
        let more : (16 + length text + 15) / 16 ≡ (length text - 1) / 16 + 2 = omega (arith, some) in
        omega (arith, count_bytes (length (first ++ text)), ap (λ (n : ℕ). (n + 15) / 16) all_long, more)

    rest : length (drop at text) ≡ length text - at
    rest = length-drop at text

    missing : 16 - length (drop at text) ≡ 16 * block_count (8 * length (first ++ text)) - length (first ++ text)
    missing = omega (arith, rest, all_long, some, count)

    last : block_at (drop at text) 0 ≡ take 16 (drop (16 + at) (whole_blocks (first ++ text)))
    last =
        filled_block (drop at text) (omega (arith, rest, some))
        ∙ ap (λ (n : ℕ). drop at text ++ replicate n 0) missing ∙ back
        ∙ sym (take_all 16 (drop (16 + at) (whole_blocks (first ++ text))) (omega (arith, whole_long (first ++ text), length-drop (16 + at) (whole_blocks (first ++ text)), count)))

    pub then_text : text_mac ciph (first ++ text)
        ≡ chained ciph (foldl (chained ciph) (foldl (chained ciph) zero_block (blocks first)) (blocks (take at text)))
        (last_block ciph (8 * (length text - at)) (block_at (drop at text) 0))
    unfolding text_mac
    then_text =
        let before : List ℕ = foldl (chained ciph) (foldl (chained ciph) zero_block (blocks first)) (blocks (take at text)) in
        let bits_left : 8 * (length text - at) ≡ bits - 8 * (16 + at) = omega (arith, all_long, some) in
        sym (mac_steps ciph bits (whole_blocks (first ++ text)) (16 + at) before _ _ (whole_long (first ++ text)) (omega (arith, count))
        (sym (foldl-append (chained ciph) zero_block (blocks first) (blocks (take at text)))
        ∙ ap (foldl (chained ciph) zero_block) (sym (blocks_append 1 first (take at text) long) ∙ ap blocks front))
        last (ap (λ (k : ℕ). chained ciph before (last_block ciph k (block_at (drop at text) 0))) bits_left))

-- the two cases, and that the rest of a text is the part of it that the code lends
pub ruleset text_macs = (first_alone, then_text, take_all, length-drop)
