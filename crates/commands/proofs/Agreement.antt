-- The comparison of two MACs: it says yes exactly where each of the compared bits is the same.
-- Assumes nothing.
use mathlib.Core.Path.{◌≡◌, sym, ap, ap₂, ◌∙◌}
use mathlib.Core.Bool.{Bool, true, false, cond, ◌&&◌}
use mathlib.Core.List.{List}
use mathlib.Core.Logic.{◌↔◌}
use Prim.Native.Nat.{ℕ, ◌+◌, ◌-◌, ◌/◌, ◌%◌, ◌^◌, ◌≤◌, ◌<◌}
use native.Mathlib.Decide.{dec_lt}
use native.Mathlib.Omega.{arith}
use borrow.Author.Tests.{eq-eqb, eqb-true}
use lib.Dec.{eqb}
use lib.ListN.{take}
use lib.Pow.{shr-shr}
use lib.Seq.{get_or-take, take_all}
use Rattle.laws.specs.Same.{same}
use Rattle.laws.proofs.Same.{same_equal, equal_same}
use Rattle.laws.proofs.Test.{both}
use Rattle.field.specs.Field.{bit}
use Rattle.aes.specs.State.{byte, Block}
use Rattle.modes.specs.Cmac.{message_bit, Agree}
use Rattle.modes.proofs.Counted.{byte_bits, part}
use Rattle.commands.specs.Commands.{mac_agrees, compared}

module _ (bits : ℕ) (a b : List ℕ) where
  abbrev whole : Bool
  whole = same (take (bits / 8) a) (take (bits / 8) b)

  abbrev Last : Type 0
  Last = byte a (bits / 8) / 2 ^ (8 - bits % 8) ≡ byte b (bits / 8) / 2 ^ (8 - bits % 8)

  abbrev tested : Bool → Bool
  tested all = cond all (same a b) (whole && eqb (byte a (bits / 8) / 2 ^ (8 - bits % 8)) (byte b (bits / 8) / 2 ^ (8 - bits % 8)))

  -- ---- a yes
  whole_bytes : whole ≡ true → (j : ℕ) → j < bits / 8 → byte a j ≡ byte b j
  whole_bytes h j l =
      sym (get_or-take (bits / 8) a j 0 l) ∙ ap (λ (l : List ℕ). byte l j) (equal_same _ _ h) ∙ get_or-take (bits / 8) b j 0 l

  last_bits : Last → (k : ℕ) → k < bits % 8 → bit (byte a (bits / 8)) (7 - k) ≡ bit (byte b (bits / 8)) (7 - k)
  last_bits h k l =
      let split : 8 - bits % 8 + (bits % 8 - 1 - k) ≡ 7 - k = omega arith in
      let from : (x : ℕ) → x / 2 ^ (7 - k) ≡ x / 2 ^ (8 - bits % 8) / 2 ^ (bits % 8 - 1 - k)
      = λ x. sym (shr-shr x (8 - bits % 8) (bits % 8 - 1 - k) ∙ ap (λ (m : ℕ). x / 2 ^ m) split) in
      ap (λ (x : ℕ). x % 2) (from (byte a (bits / 8)) ∙ ap (λ (x : ℕ). x / 2 ^ (bits % 8 - 1 - k)) h ∙ sym (from (byte b (bits / 8))))

  each_bit : whole ≡ true → Last → Agree bits a b
  each_bit first last i l = tests (dec_lt (i / 8) (bits / 8))
    where
      tests : Dec (i / 8 < bits / 8) → message_bit a i ≡ message_bit b i
      tests (yes before) = ap (λ (x : ℕ). bit x (7 - i % 8)) (whole_bytes first (i / 8) before)
      tests (no here) =
          let place : i / 8 ≡ bits / 8 = omega (arith, here) in
          ap (λ (j : ℕ). bit (byte a j) (7 - i % 8)) place ∙ last_bits last (i % 8) (omega (arith, l, place))
          ∙ sym (ap (λ (j : ℕ). bit (byte b j) (7 - i % 8)) place)

  says_yes : (all : Bool) → tested all ≡ true → Agree (cond all 128 bits) a b
  says_yes true h = λ i l. ap (λ (m : List ℕ). message_bit m i) (equal_same a b h)
  says_yes false h = let parts = both whole _ h in each_bit parts.0 (eqb-true _ _ parts.1)

  -- ---- of two blocks, and at most 127 bits or all
  module _ (ha : Block a) (hb : Block b) (few : bits ≤ 127) where
    agreeing : (all : Bool) → Agree (cond all 128 bits) a b → tested all ≡ true
    agreeing true h =
        let same-16 = part 128 a b ha.small hb.small h 0 16 (omega (arith, ha.long)) (omega (arith, hb.long)) (omega arith) in
        same_equal a b (sym (take_all 16 a (omega (arith, ha.long))) ∙ same-16 ∙ take_all 16 b (omega (arith, hb.long)))
    agreeing false h =
        ap₂ (λ (x y : Bool). x && y)
        (same_equal _ _ (part bits a b ha.small hb.small h 0 (bits / 8) (omega (arith, ha.long))
        (omega (arith, hb.long)) (omega arith)))
        (eq-eqb _ _ (byte_bits bits a b ha.small hb.small h (bits / 8) (bits % 8) (omega arith) (omega arith)))

    pub agrees_exactly : (mac_agrees bits a b ≡ true) ↔ Agree (compared bits) a b
    unfolding mac_agrees
    agrees_exactly = (says_yes (eqb bits 0), agreeing (eqb bits 0))
