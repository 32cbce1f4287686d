-- The laws of the exclusive or. `simp sums` brings a sum of many into one order, with all that stands in it twice gone.
-- Assumes nothing.
use mathlib.Core.Path.{◌≡◌, refl, sym, ap, ap₂, ◌∙◌}
use Prim.Native.Nat.{ℕ, zero, suc, ◌+◌, ◌*◌, ◌/◌, ◌%◌, ◌^◌, ◌<◌}
use native.Mathlib.Nat.{add-zero, zero-mul, one-mul, div-add-mod'}
use native.Mathlib.Omega.{arith}
use lib.Arith.{bin_ind}
use lib.Dec.{lit<}
use lib.Bits.{bit_xor, xor_shr, xor_mod, xor_block, xor_comm, xor_zero_r, xor_self, xor_lt}
use Rattle.laws.specs.Xor.{◌xor◌}

-- a fact about a bit, from the two cases
pub bit_cases : (P : ℕ → Type 0) → P 0 → P 1 → (n : ℕ) → n < 2 → P n
bit_cases P p q zero h = p
bit_cases P p q (suc zero) h = q
bit_cases P p q (suc (suc n)) h = absurd (omega arith)

-- ---- order does not matter
bits : (x y z : ℕ) → x < 2 → y < 2 → z < 2 → bit_xor (bit_xor x y) z ≡ bit_xor x (bit_xor y z)
bits x y z hx hy hz =
    bit_cases (λ (x : ℕ). bit_xor (bit_xor x y) z ≡ bit_xor x (bit_xor y z)) refl
    (bit_cases (λ (y : ℕ). bit_xor (bit_xor 1 y) z ≡ bit_xor 1 (bit_xor y z)) refl
    (bit_cases (λ (z : ℕ). bit_xor (bit_xor 1 1) z ≡ bit_xor 1 (bit_xor 1 z)) refl refl z hz) y hy) x hx

assoc : (a b c : ℕ) → bit_xor (bit_xor a b) c ≡ bit_xor a (bit_xor b c)
assoc = bin_ind (λ (n : ℕ). (b c : ℕ) → bit_xor (bit_xor n b) c ≡ bit_xor n (bit_xor b c)) (λ b c. refl) step
  where
    step : (n : ℕ) → ((b c : ℕ) → bit_xor (bit_xor (n / 2) b) c ≡ bit_xor (n / 2) (bit_xor b c)) → (b c : ℕ) → bit_xor (bit_xor n b) c ≡ bit_xor n (bit_xor b c)
    step n ih b c =
        let high = xor_shr (bit_xor n b) c 1 ∙ ap (λ (x : ℕ). bit_xor x (c / 2)) (xor_shr n b 1) in
        let high' = xor_shr n (bit_xor b c) 1 ∙ ap (bit_xor (n / 2)) (xor_shr b c 1) in
        let low = xor_mod (bit_xor n b) c 1 ∙ ap (λ (x : ℕ). bit_xor x (c % 2)) (xor_mod n b 1) in
        let low' = xor_mod n (bit_xor b c) 1 ∙ ap (bit_xor (n % 2)) (xor_mod b c 1) in
        let bit = bits (n % 2) (b % 2) (c % 2) (omega arith) (omega arith) (omega arith) in
        sym (div-add-mod' (bit_xor (bit_xor n b) c) 2)
        ∙ ap₂ (λ (x y : ℕ). x * 2 + y) (high ∙ ih (b / 2) (c / 2) ∙ sym high') (low ∙ bit ∙ sym low')
        ∙ div-add-mod' (bit_xor n (bit_xor b c)) 2

-- what the language computes
pub bits_added : (a b : ℕ) → bit_xor a b ≡ a xor b
unfolding ◌xor◌
bits_added a b = refl

pub xor_associative : (a b c : ℕ) → a xor b xor c ≡ a xor (b xor c)
unfolding ◌xor◌
xor_associative = assoc

pub xor_commutes : (a b : ℕ) → a xor b ≡ b xor a
unfolding ◌xor◌
xor_commutes = xor_comm

pub xor_left : (a b c : ℕ) → a xor (b xor c) ≡ b xor (a xor c)
xor_left a b c = sym (xor_associative a b c) ∙ ap (λ (x : ℕ). x xor c) (xor_commutes a b) ∙ xor_associative b a c

-- (a + b) + (c + d) = (a + c) + (b + d)
pub xor_medial : (a b c d : ℕ) → a xor b xor (c xor d) ≡ a xor c xor (b xor d)
xor_medial a b c d = xor_associative a b (c xor d) ∙ ap (◌xor◌ a) (xor_left b c d) ∙ sym (xor_associative a c (b xor d))

-- ---- a number added twice is gone
pub xor_same : (a : ℕ) → a xor a ≡ 0
unfolding ◌xor◌
xor_same = xor_self

pub zero_xor : (a : ℕ) → 0 xor a ≡ a
unfolding ◌xor◌
zero_xor a = refl

pub xor_zero : (a : ℕ) → a xor 0 ≡ a
unfolding ◌xor◌
xor_zero = xor_zero_r

pub xor_again : (a b : ℕ) → a xor (a xor b) ≡ b
xor_again a b = sym (xor_associative a a b) ∙ ap (λ (x : ℕ). x xor b) (xor_same a) ∙ zero_xor b

pub xor_cancels : (a b : ℕ) → a xor b xor b ≡ a
xor_cancels a b = xor_associative a b b ∙ ap (◌xor◌ a) (xor_same b) ∙ xor_zero a

pub ruleset sums = (xor_associative, xor_commutes, xor_left, xor_same, xor_again, xor_zero, zero_xor)

-- ---- bits: of k bits, shifted by k bits, the lowest k bits
pub xor_below : (k a b : ℕ) → a < 2 ^ k → b < 2 ^ k → a xor b < 2 ^ k
unfolding ◌xor◌
xor_below = xor_lt

pub xor_byte : (a b : ℕ) → a < 256 → b < 256 → a xor b < 256
xor_byte = xor_below 8

pub xor_high : (k a b : ℕ) → (a xor b) / 2 ^ k ≡ a / 2 ^ k xor b / 2 ^ k
unfolding ◌xor◌
xor_high k a b = xor_shr a b k

pub xor_low : (k a b : ℕ) → (a xor b) % 2 ^ k ≡ a % 2 ^ k xor b % 2 ^ k
unfolding ◌xor◌
xor_low k a b = xor_mod a b k

-- of two numbers that are each put together from a part above k bits and one below
pub xor_joined : (k a b r t : ℕ) → r < 2 ^ k → t < 2 ^ k → (a * 2 ^ k + r) xor (b * 2 ^ k + t) ≡ (a xor b) * 2 ^ k + (r xor t)
unfolding ◌xor◌
xor_joined = xor_block

pub xor_double : (a b : ℕ) → (a xor b) * 2 ≡ a * 2 xor b * 2
unfolding ◌xor◌
xor_double a b =
    sym (add-zero _) ∙ sym (xor_block 1 a b 0 0 (lit< tt) (lit< tt)) ∙ ap₂ bit_xor (add-zero (a * 2)) (add-zero (b * 2))

-- a bit times a sum
pub bit_times_xor : (p b c : ℕ) → p < 2 → p * (b xor c) ≡ p * b xor p * c
unfolding ◌xor◌
bit_times_xor p b c =
    bit_cases (λ (p : ℕ). p * (b xor c) ≡ p * b xor p * c) (zero-mul _ ∙ sym (ap₂ ◌xor◌ (zero-mul b) (zero-mul c)))
    (one-mul _ ∙ sym (ap₂ ◌xor◌ (one-mul b) (one-mul c))) p
