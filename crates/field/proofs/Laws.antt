-- The laws of GF(2^8): sums and products by a fixed byte, the inverse, and that the S-box and its inverse undo each other.
-- What is a fact about 256 bytes is computed, once for each. Doubling and products by a fixed byte are linear. The facts
-- about 256 bytes are the S-box table, its inverse, that `mul a (inverse a)` is 1, that the inverse taken twice is the
-- identity, and the affine map there and back. The tables of the code are compared with their rules by one test each, and no
-- proof lists them again.
-- Assumes nothing.
use mathlib.Core.Path.{◌≡◌, refl, sym, ap, ap₂, ◌∙◌, subst}
use mathlib.Core.List.{List}
use Prim.Native.Nat.{ℕ, zero, suc, ◌*◌, ◌/◌, ◌%◌, ◌^◌, ◌<◌}
use native.Mathlib.Nat.{zero-mul, one-mul, mod-lt}
use native.Mathlib.Omega.{arith}
use lib.Dec.{lit<}
use lib.ListN.{get_or}
use Rattle.laws.specs.All.{all}
use Rattle.laws.specs.Xor.{◌xor◌}
use Rattle.laws.proofs.Tabulate.{get_d_tabulate}
use Rattle.laws.proofs.Test.{agree}
use Rattle.laws.proofs.Xor.{bits_added, bit_cases, bit_times_xor, xor_below, xor_byte, xor_double, xor_high, xor_low, xor_medial, xor_zero, zero_xor, sums}
use Rattle.field.specs.Field.{bit, reduce, xtime, mul, mul_bits, square, power, inverse}
use Rattle.field.specs.Sbox.{from_bits, affine_bit, affine, inv_affine_bit, inv_affine, sbox, inv_sbox, table}

-- ---- doubling

-- the doubling as one sum, the reduction's share 0 or {1b}
reduce_sum : (p x : ℕ) → p < 2 → reduce p x ≡ x xor p * 0x1b
unfolding reduce
reduce_sum p x h = bit_cases (λ (p : ℕ). reduce p x ≡ x xor p * 0x1b) (sym (xor_zero x)) refl p h

pub xtime_sum : (b : ℕ) → xtime b ≡ b * 2 % 256 xor bit b 7 * 0x1b
unfolding xtime
xtime_sum b = reduce_sum (bit b 7) (b * 2 % 256) (omega arith)

pub ruleset doubling = (bits_added, xtime_sum)

bit_xor : (a b : ℕ) → bit (a xor b) 7 ≡ bit a 7 xor bit b 7
bit_xor a b = ap (λ (x : ℕ). x % 2) (xor_high 7 a b) ∙ xor_low 1 (a / 128) (b / 128)

bits_reduce : (p q : ℕ) → p < 2 → q < 2 → (p xor q) * 0x1b ≡ p * 0x1b xor q * 0x1b
unfolding ◌xor◌
bits_reduce p q hp hq =
    bit_cases (λ (p : ℕ). (p xor q) * 0x1b ≡ p * 0x1b xor q * 0x1b) refl
    (bit_cases (λ (q : ℕ). (1 xor q) * 0x1b ≡ 1 * 0x1b xor q * 0x1b) refl refl q hq) p hp

pub xtime_xor : (a b : ℕ) → xtime (a xor b) ≡ xtime a xor xtime b
xtime_xor a b =
    xtime_sum (a xor b)
    ∙ ap₂ ◌xor◌
    (ap (λ (x : ℕ). x % 256) (xor_double a b) ∙ xor_low 8 (a * 2) (b * 2))
    (ap (λ (x : ℕ). x * 0x1b) (bit_xor a b) ∙ bits_reduce (bit a 7) (bit b 7) (omega arith) (omega arith))
    ∙ xor_medial (a * 2 % 256) (b * 2 % 256) (bit a 7 * 0x1b) (bit b 7 * 0x1b)
    ∙ ap₂ ◌xor◌ (sym (xtime_sum a)) (sym (xtime_sum b))

pub xtime_byte : (a : ℕ) → xtime a < 256
xtime_byte a =
    subst (λ (x : ℕ). x < 256) (sym (xtime_sum a)) (xor_byte (a * 2 % 256) (bit a 7 * 0x1b) (omega arith) (omega arith))

-- ---- the product by a fixed byte
mul_bits_xor : (n a b c : ℕ) → mul_bits n a (b xor c) ≡ mul_bits n a b xor mul_bits n a c
unfolding mul_bits
mul_bits_xor zero a b c = sym (xor_zero 0)
mul_bits_xor (suc n) a b c =
    ap₂ ◌xor◌ (bit_times_xor (a % 2) b c (omega arith))
    (ap (mul_bits n (a / 2)) (xtime_xor b c) ∙ mul_bits_xor n (a / 2) (xtime b) (xtime c))
    ∙ xor_medial (a % 2 * b) (a % 2 * c) (mul_bits n (a / 2) (xtime b)) (mul_bits n (a / 2) (xtime c))

pub mul_xor : (a b c : ℕ) → mul a (b xor c) ≡ mul a b xor mul a c
unfolding mul
mul_xor a b c = mul_bits_xor 8 a b c

bit_byte : (p b : ℕ) → p < 2 → b < 256 → p * b < 256
bit_byte p b hp hb = bit_cases (λ (p : ℕ). p * b < 256) (omega arith) (omega arith) p hp

mul_bits_byte : (n a b : ℕ) → b < 256 → mul_bits n a b < 256
unfolding mul_bits
mul_bits_byte zero a b h = lit< tt
mul_bits_byte (suc n) a b h =
    xor_byte (a % 2 * b) (mul_bits n (a / 2) (xtime b)) (bit_byte (a % 2) b (omega arith) h) (mul_bits_byte n (a / 2) (xtime b) (xtime_byte b))

pub mul_byte : (a b : ℕ) → b < 256 → mul a b < 256
unfolding mul
mul_byte a b h = mul_bits_byte 8 a b h

-- the products by the coefficients of MixColumns and InvMixColumns, as sums of doublings
pub times_1 : (a : ℕ) → mul 1 a ≡ a
unfolding mul mul_bits
times_1 a = simp (one-mul, zero-mul, xor_zero)

pub times_2 : (a : ℕ) → mul 2 a ≡ xtime a
unfolding mul mul_bits
times_2 a = simp (one-mul, zero-mul, xor_zero, zero_xor)

pub times_3 : (a : ℕ) → mul 3 a ≡ a xor xtime a
unfolding mul mul_bits
times_3 a = simp (one-mul, zero-mul, xor_zero)

pub times_9 : (a : ℕ) → mul 9 a ≡ a xor xtime (xtime (xtime a))
unfolding mul mul_bits
times_9 a = simp (one-mul, zero-mul, xor_zero, zero_xor)

pub times_11 : (a : ℕ) → mul 11 a ≡ a xor (xtime a xor xtime (xtime (xtime a)))
unfolding mul mul_bits
times_11 a = simp (one-mul, zero-mul, xor_zero, zero_xor)

pub times_13 : (a : ℕ) → mul 13 a ≡ a xor (xtime (xtime a) xor xtime (xtime (xtime a)))
unfolding mul mul_bits
times_13 a = simp (one-mul, zero-mul, xor_zero, zero_xor)

pub times_14 : (a : ℕ) → mul 14 a ≡ xtime a xor (xtime (xtime a) xor xtime (xtime (xtime a)))
unfolding mul mul_bits
times_14 a = simp (one-mul, zero-mul, xor_zero, zero_xor)

-- brings products by those coefficients, doublings and sums of them into one order
pub ruleset linear = (
  mul_xor,
  times_1,
  times_2,
  times_3,
  times_9,
  times_11,
  times_13,
  times_14,
  xtime_xor,
  sums,
)

-- ---- the inverse: of 0, of every other byte, and taken twice
pub inverse_zero : inverse 0 ≡ 0
unfolding inverse power square mul mul_bits xtime reduce ◌xor◌
inverse_zero = refl

inverse_after : (k : ℕ) → k < 255 → mul (suc k) (inverse (suc k)) ≡ 1
unfolding inverse power square mul mul_bits xtime reduce ◌xor◌ all
inverse_after = agree (λ k. mul (suc k) (inverse (suc k))) (λ k. 1) 255 refl

pub inverse_rule : (a : ℕ) → 0 < a → a < 256 → mul a (inverse a) ≡ 1
inverse_rule zero h l = absurd (omega arith)
inverse_rule (suc k) h l = inverse_after k (omega arith)

inverse_twice : (a : ℕ) → a < 256 → inverse (inverse a) ≡ a
unfolding inverse power square mul mul_bits xtime reduce ◌xor◌ all
inverse_twice = agree (λ a. inverse (inverse a)) (λ a. a) 256 refl

power_byte : (n a : ℕ) → power n a < 256
unfolding power square
power_byte zero a = lit< tt
power_byte (suc n) a = mul_byte (mul a (power n a)) (mul a (power n a)) (mul_byte a (power n a) (power_byte n a))

inverse_byte : (a : ℕ) → inverse a < 256
unfolding inverse
inverse_byte a = power_byte 7 a

-- ---- the affine map
affine_undo : (b : ℕ) → b < 256 → inv_affine (affine b) ≡ b
unfolding affine inv_affine ◌xor◌ all
affine_undo = agree (λ b. inv_affine (affine b)) (λ b. b) 256 refl

affine_redo : (b : ℕ) → b < 256 → affine (inv_affine b) ≡ b
unfolding affine inv_affine ◌xor◌ all
affine_redo = agree (λ b. affine (inv_affine b)) (λ b. b) 256 refl

from_bits_byte : (f : ℕ → ℕ) → ((i : ℕ) → f i < 2) → from_bits f < 256
from_bits_byte f h = omega (arith, h 0, h 1, h 2, h 3, h 4, h 5, h 6, h 7)

bit_below : (b i : ℕ) → bit b i < 2
bit_below b i = mod-lt (b / 2 ^ i) (lit< tt)

xor_bit : (a b : ℕ) → a < 2 → b < 2 → a xor b < 2
xor_bit = xor_below 1

affine_byte : (b : ℕ) → affine b < 256
unfolding affine
affine_byte b =
    from_bits_byte (affine_bit b)
    (λ i. xor_bit _ _ (xor_bit _ _ (xor_bit _ _ (xor_bit _ _ (xor_bit _ _ (bit_below b _) (bit_below b _)) (bit_below b _)) (bit_below b _)) (bit_below b _)) (bit_below 0x63 i))

inv_affine_byte : (b : ℕ) → inv_affine b < 256
unfolding inv_affine
inv_affine_byte b =
    from_bits_byte (inv_affine_bit b) (λ i. xor_bit _ _ (xor_bit _ _ (xor_bit _ _ (bit_below b _) (bit_below b _)) (bit_below b _)) (bit_below 0x05 i))

-- ---- the S-box and its inverse: bytes, and each undoes the other
pub sbox_byte : (b : ℕ) → sbox b < 256
unfolding sbox
sbox_byte b = affine_byte (inverse b)

pub inv_sbox_byte : (b : ℕ) → inv_sbox b < 256
unfolding inv_sbox
inv_sbox_byte b = inverse_byte (inv_affine b)

pub sbox_undo : (b : ℕ) → b < 256 → inv_sbox (sbox b) ≡ b
unfolding sbox inv_sbox
sbox_undo b h = ap inverse (affine_undo (inverse b) (inverse_byte b)) ∙ inverse_twice b h

pub sbox_redo : (b : ℕ) → b < 256 → sbox (inv_sbox b) ≡ b
unfolding sbox inv_sbox
sbox_redo b h = ap affine (inverse_twice (inv_affine b) (inv_affine_byte b)) ∙ affine_redo b h

-- ---- the tables: what is read at a byte from the table of a rule; and each table undoes the other
pub looked_up : (f : ℕ → ℕ) (t : List ℕ) (b r : ℕ) → t ≡ table f → b < 256 → r ≡ get_or t b 0 → r ≡ f b
unfolding table
looked_up f t b r whole h e = e ∙ ap (λ (l : List ℕ). get_or l b 0) whole ∙ get_d_tabulate 256 f b h

both_ways : (f g : ℕ → ℕ) → ((b : ℕ) → f b < 256) → ((b : ℕ) → b < 256 → g (f b) ≡ b)
    → (b : ℕ) → b < 256 → get_or (table g) (get_or (table f) b 0) 0 ≡ b
both_ways f g byte undo b h =
    ap (λ (x : ℕ). get_or (table g) x 0) (looked_up f (table f) b _ refl h refl) ∙ looked_up g (table g) (f b) _ refl (byte b) refl ∙ undo b h

pub tables_undo : (b : ℕ) → b < 256 → get_or (table inv_sbox) (get_or (table sbox) b 0) 0 ≡ b
tables_undo = both_ways sbox inv_sbox sbox_byte sbox_undo

pub tables_redo : (b : ℕ) → b < 256 → get_or (table sbox) (get_or (table inv_sbox) b 0) 0 ≡ b
tables_redo = both_ways inv_sbox sbox inv_sbox_byte sbox_redo
