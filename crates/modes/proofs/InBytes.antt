-- A number in bytes, and bytes as a number: each undoes the other.
-- Assumes nothing.
use mathlib.Core.Path.{◌≡◌, refl, sym, ap, ap₂, ◌∙◌, subst}
use mathlib.Core.List.{List, [], ◌∷◌, ◌++◌}
use Prim.Native.Nat.{ℕ, zero, suc, ◌+◌, ◌*◌, ◌/◌, ◌%◌, ◌^◌, ◌<◌}
use native.Mathlib.Nat.{zero-add, add-zero, mul_assoc, mul_comm, pow-suc, mul-add-div_right, div-eq_of_lt, div-div-eq-div-mul}
use native.Mathlib.Omega.{arith}
use lib.ListN.{length}
use lib.Pow.{pow-add, pow_pos, mod-pow-add}
use Rattle.aes.specs.State.{Bytes}
use Rattle.modes.specs.Number.{number, in_bytes}
use Rattle.modes.proofs.Number.{bytes_bits, number_below}

byte_power : (n : ℕ) → 0 < 256 ^ n
byte_power n = subst (λ (p : ℕ). 0 < p) (sym (bytes_bits n)) (pow_pos (8 * n))

pub length_in_bytes : (n x : ℕ) → length (in_bytes n x) ≡ n
length_in_bytes zero x = refl
length_in_bytes (suc n) x = ap suc (length_in_bytes n x)

pub in_bytes_small : (n x : ℕ) → Bytes (in_bytes n x)
in_bytes_small zero x i = omega arith
in_bytes_small (suc n) x zero = omega arith
in_bytes_small (suc n) x (suc i) = in_bytes_small n x i

pub number_in_bytes : (n x : ℕ) → number (in_bytes n x) ≡ x % 256 ^ n
unfolding number
number_in_bytes zero x = omega arith
number_in_bytes (suc n) x =
    let more : 8 * suc n ≡ 8 + 8 * n = omega arith in
    ap₂ (λ (k m : ℕ). x / 256 ^ n % 256 * 256 ^ k + m) (length_in_bytes n x) (number_in_bytes n x)
    ∙ ap (λ (p : ℕ). x / p % 256 * p + x % p) (bytes_bits n)
    ∙ sym (mod-pow-add x 8 (8 * n))
    ∙ ap (λ (k : ℕ). x % 2 ^ k) (sym more)
    ∙ ap (λ (p : ℕ). x % p) (sym (bytes_bits (suc n)))

-- bits above the bytes are left out
pub in_bytes_low : (n a x : ℕ) → in_bytes n (a * 256 ^ n + x) ≡ in_bytes n x
in_bytes_low zero a x = refl
in_bytes_low (suc n) a x =
    let p : ℕ = 256 ^ n in
    let more : a * 256 ^ suc n + x ≡ a * 256 * p + x
    = ap (λ (q : ℕ). a * q + x) (pow-suc 256 n ∙ mul_comm p 256) ∙ ap (λ (q : ℕ). q + x) (sym (mul_assoc a 256 p)) in
    let top : (a * 256 * p + x) / p % 256 ≡ x / p % 256
    = ap (λ (q : ℕ). q % 256) (mul-add-div_right (byte_power n) (a * 256) x) ∙ omega arith in
    ap (in_bytes (suc n)) more ∙ ap₂ (λ (b : ℕ) (l : List ℕ). b ∷ l) top (in_bytes_low n (a * 256) x)

pub in_bytes_append : (m n x y : ℕ) → y < 256 ^ n → in_bytes (m + n) (x * 256 ^ n + y) ≡ in_bytes m x ++ in_bytes n y
in_bytes_append zero n x y h = ap (λ (k : ℕ). in_bytes k (x * 256 ^ n + y)) (zero-add n) ∙ in_bytes_low n x y
in_bytes_append (suc m) n x y h =
    let p : ℕ = 256 ^ n in
    let whole : ℕ = x * p + y in
    let more : suc m + n ≡ suc (m + n) = omega arith in
    let power : 256 ^ (m + n) ≡ p * 256 ^ m = pow-add 256 m n ∙ mul_comm (256 ^ m) p in
    let top : whole / 256 ^ (m + n) ≡ x / 256 ^ m
    = ap (λ (q : ℕ). whole / q) power ∙ sym (div-div-eq-div-mul whole p (256 ^ m)) ∙ ap (λ (q : ℕ). q / 256 ^ m) (mul-add-div_right (byte_power n) x y ∙ ap (λ (q : ℕ). x + q) (div-eq_of_lt h) ∙ add-zero x) in
    ap (λ (k : ℕ). in_bytes k whole) more
    ∙ ap₂ (λ (b : ℕ) (l : List ℕ). b % 256 ∷ l) top (in_bytes_append m n x y h)

pub in_bytes_number : (x : List ℕ) → Bytes x → in_bytes (length x) (number x) ≡ x
unfolding number
in_bytes_number [] h = refl
in_bytes_number (b ∷ bs) h =
    let p : ℕ = 256 ^ length bs in
    let rest : Bytes bs = λ i. h (suc i) in
    let top : (b * p + number bs) / p % 256 ≡ b
    = ap (λ (q : ℕ). q % 256) (mul-add-div_right (byte_power (length bs)) b (number bs) ∙ ap (λ (q : ℕ). b + q) (div-eq_of_lt (number_below bs rest))) ∙ omega (arith, h 0) in
    ap₂ (λ (c : ℕ) (l : List ℕ). c ∷ l) top (in_bytes_low (length bs) b (number bs) ∙ in_bytes_number bs rest)
