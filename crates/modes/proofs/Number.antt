-- CMAC's doubling and padding of a block are the doubling and padding of its number. From the number of two lists after each
-- other, of an exclusive or, and of a shifted list; with no test over values.
-- Assumes nothing.
use mathlib.Core.Path.{◌≡◌, refl, sym, ap, ap₂, ◌∙◌, subst}
use mathlib.Core.Bool.{cond}
use mathlib.Core.List.{List, [], ◌∷◌, ◌++◌}
use Prim.Native.Nat.{ℕ, zero, suc, ◌+◌, ◌-◌, ◌*◌, ◌/◌, ◌%◌, ◌^◌, ◌<◌}
use native.Mathlib.Nat.{add-mul, mul_assoc, mul_comm, mul_right_comm, zero-mul, one-mul, zero-add, add-zero, pow-suc, mul-le-mul_right, mul-add-div_right, mod-eq_of_lt, add-mul-mod_self_right}
use native.Mathlib.Numerals.{add-one}
use native.Mathlib.Omega.{arith}
use lib.Dec.{eqb, lit<}
use lib.Pow.{pow-add, pow_pos, shr-shr, high}
use lib.ListN.{length, take, drop, replicate, length-append, length-drop, length-replicate}
use lib.Seq.{split_at}
use Rattle.laws.specs.Tabulate.{tabulate}
use Rattle.laws.specs.Xor.{◌xor◌}
use Rattle.laws.proofs.Tabulate.{length_tabulate, tabulate_same}
use Rattle.laws.proofs.Xor.{xor_joined, xor_same, xor_zero, bit_cases}
use Rattle.field.specs.Field.{bit}
use Rattle.laws.proofs.Each.{each_cons}
use Rattle.aes.proofs.Bytes.{zero_bytes, append_bytes, drop_bytes, state_block}
use Rattle.aes.specs.State.{byte, state, Bytes, Block}
use Rattle.modes.specs.Blocks.{◌⊕◌}
use Rattle.modes.specs.Number.{number, double_number, padded_number}
use Rattle.modes.specs.Cmac.{shift_left, r128, double, cut, padded}

-- ---- numbers of bytes
pub bytes_bits : (n : ℕ) → 256 ^ n ≡ 2 ^ (8 * n)
bytes_bits zero = refl
bytes_bits (suc n) =
    let more : 8 * suc n ≡ 8 * n + 8 = omega arith in
    pow-suc 256 n ∙ ap (λ (p : ℕ). p * 256) (bytes_bits n) ∙ sym (pow-add 2 (8 * n) 8) ∙ sym (ap (λ (k : ℕ). 2 ^ k) more)

pub number_below : (x : List ℕ) → Bytes x → number x < 256 ^ length x
unfolding number
number_below [] h = omega arith
number_below (b ∷ bs) h =
    let p : ℕ = 256 ^ length bs in
    omega (arith, number_below bs (λ i. h (suc i)), h 0, pow-suc 256 (length bs), mul-le-mul_right p (h 0), add-mul b 1 p, one-mul p, mul_comm 256 p, ap (λ (n : ℕ). n * p) (add-one b))

pub number_append : (x y : List ℕ) → number (x ++ y) ≡ number x * 256 ^ length y + number y
unfolding number
number_append [] y = sym (ap (λ (n : ℕ). n + number y) (zero-mul (256 ^ length y)) ∙ zero-add (number y))
number_append (b ∷ bs) y =
    let p : ℕ = 256 ^ length bs in
    let q : ℕ = 256 ^ length y in
    ap₂ (λ (m n : ℕ). b * m + n) (ap (λ (k : ℕ). 256 ^ k) (length-append bs y) ∙ pow-add 256 (length bs) (length y)) (number_append bs y)
    ∙ omega (arith, mul_assoc b p q, add-mul (b * p) (number bs) q)

pub number_zeros : (n : ℕ) → number (replicate n 0) ≡ 0
unfolding number
number_zeros zero = refl
number_zeros (suc n) = ap₂ (λ (a b : ℕ). a + b) (zero-mul (256 ^ length (replicate n 0))) (number_zeros n)

-- ---- the exclusive or of two blocks is that of their numbers
below_bits : (n : ℕ) (x : List ℕ) → length x ≡ n → Bytes x → number x < 2 ^ (8 * n)
below_bits n x h bx = subst (λ (p : ℕ). number x < p) (ap (λ (k : ℕ). 256 ^ k) h ∙ bytes_bits n) (number_below x bx)

sum_number : (n : ℕ) (x y : List ℕ) → length x ≡ n → length y ≡ n → Bytes x → Bytes y
    → number (tabulate n (λ i. byte x i xor byte y i)) ≡ number x xor number y
unfolding number tabulate
sum_number zero [] [] hx hy bx by = sym (xor_same 0)
sum_number zero [] (b ∷ y) hx hy bx by = absurd (omega arith)
sum_number zero (a ∷ x) y hx hy bx by = absurd (omega arith)
sum_number (suc n) [] y hx hy bx by = absurd (omega arith)
sum_number (suc n) (a ∷ x) [] hx hy bx by = absurd (omega arith)
sum_number (suc n) (a ∷ x) (b ∷ y) hx hy bx by =
    let lx : length x ≡ n = omega arith in
    let ly : length y ≡ n = omega arith in
    let bx' : Bytes x = λ i. bx (suc i) in
    let by' : Bytes y = λ i. by (suc i) in
    let p : (l : List ℕ) → length l ≡ n → 256 ^ length l ≡ 2 ^ (8 * n) = λ l h. ap (λ (k : ℕ). 256 ^ k) h ∙ bytes_bits n in
    ap₂ (λ (p m : ℕ). (a xor b) * p + m) (p (tabulate n (λ i. byte x i xor byte y i)) (length_tabulate n _)) (sum_number n x y lx ly bx' by')
    ∙ sym (xor_joined (8 * n) a b (number x) (number y) (below_bits n x lx bx') (below_bits n y ly by'))
    ∙ sym (ap₂ (λ (p q : ℕ). (a * p + number x) xor (b * q + number y)) (p x lx) (p y ly))

pub sum_of_numbers : (x y : List ℕ) → Block x → Block y → number (x ⊕ y) ≡ number x xor number y
unfolding ◌⊕◌
sum_of_numbers x y hx hy = sum_number 16 x y hx.long hy.long hx.small hy.small

-- ---- the shift: what falls out on the left is the highest bit
carry : (b t p v w : ℕ) → v + t * p ≡ w * 2 → (b * 2 % 256 + t) * p + v + b / 128 * (p * 256) ≡ (b * p + w) * 2
carry b t p v w ih =
    let low : ℕ = b * 2 % 256 in
    let out : ℕ = b / 128 in
    let twice : b * 2 ≡ low + out * 256 = omega arith in
    omega (arith, add-mul low t p, add-mul low (out * 256) p, ap (λ (n : ℕ). n * p) twice, mul_right_comm out 256 p, sym (mul_assoc out p 256), mul_right_comm b 2 p)

shift_number : (n : ℕ) (x : List ℕ) → length x ≡ n
    → number (tabulate n (λ i. byte x i * 2 % 256 + byte x (i + 1) / 128)) + byte x 0 / 128 * 256 ^ n ≡ number x * 2
unfolding number tabulate
shift_number zero [] h = refl
shift_number zero (b ∷ x) h = absurd (omega arith)
shift_number (suc n) [] h = absurd (omega arith)
shift_number (suc n) (b ∷ x) h =
    let rule : ℕ → ℕ = λ i. byte x i * 2 % 256 + byte x (i + 1) / 128 in
    let low : ℕ = b * 2 % 256 + byte x 0 / 128 in
    let next : (k : ℕ) → suc k + 1 ≡ suc (k + 1) = λ k. omega arith in
    let long : length x ≡ n = omega arith in
    ap (λ (l : List ℕ). low * 256 ^ length l + number l + b / 128 * 256 ^ suc n)
    (tabulate_same n _ rule (λ k h. ap (λ (j : ℕ). byte x k * 2 % 256 + byte (b ∷ x) j / 128) (next k)))
    ∙ ap₂ (λ (k q : ℕ). low * 256 ^ k + number (tabulate n rule) + b / 128 * q) (length_tabulate n rule) (pow-suc 256 n)
    ∙ carry b (byte x 0 / 128) (256 ^ n) (number (tabulate n rule)) (number x) (shift_number n x long)
    ∙ sym (ap (λ (k : ℕ). (b * 256 ^ k + number x) * 2) long)

shifted_block : (x : List ℕ) → Bytes x → Block (shift_left x)
unfolding shift_left
shifted_block x small = state_block _ (λ i. omega (arith, small (i + 1)))

pub shift_of_number : (x : List ℕ) → Block x → number (shift_left x) ≡ number x * 2 % 2 ^ 128
unfolding shift_left
shift_of_number x h =
    let shifted : List ℕ = state (λ i. byte x i * 2 % 256 + byte x (i + 1) / 128) in
    let block = shifted_block x h.small in
    sym (mod-eq_of_lt (below_bits 16 shifted block.long block.small))
    ∙ sym (add-mul-mod_self_right (number shifted) (byte x 0 / 128) (2 ^ 128))
    ∙ ap (λ (n : ℕ). n % 2 ^ 128) (shift_number 16 x h.long)

-- ---- the doubling
top_bit : (x : List ℕ) → Block x → bit (number x) 127 ≡ bit (byte x 0) 7
unfolding number
top_bit [] h = absurd (omega (arith, h.long))
top_bit (b ∷ x) h =
    let long : length x ≡ 15 = omega (arith, h.long) in
    let n : ℕ = b * 2 ^ 120 + number x in
    ap (λ (k : ℕ). bit (b * 256 ^ k + number x) 127) long
    ∙ ap (λ (m : ℕ). m % 2) (sym (shr-shr n 120 7) ∙ ap (λ (m : ℕ). m / 2 ^ 7) (high b 120 (below_bits 15 x long (λ i. h.small (suc i)))))

r128_block : Block r128
r128_block = record { long = refl; small = append_bytes (replicate 15 0) (0x87 ∷ []) (zero_bytes 15) (each_cons (λ (x : ℕ). x < 256) (lit< tt) 0x87 [] (lit< tt) (λ i. lit< tt)) }

-- by the highest bit
by_bit : (x : List ℕ) → Block x → (d : ℕ) → d < 2
    → number (cond (eqb d 0) (shift_left x) (shift_left x ⊕ r128)) ≡ number (shift_left x) xor d * 0x87
unfolding number
by_bit x h =
    bit_cases (λ (d : ℕ). number (cond (eqb d 0) (shift_left x) (shift_left x ⊕ r128)) ≡ number (shift_left x) xor d * 0x87)
    (sym (xor_zero (number (shift_left x))))
    (sum_of_numbers (shift_left x) r128 (shifted_block x h.small) r128_block)

pub double_of_number : (x : List ℕ) → Block x → number (double x) ≡ double_number (number x)
unfolding double double_number
double_of_number x h =
    by_bit x h (bit (byte x 0) 7) (omega arith)
    ∙ ap₂ (λ (n d : ℕ). n xor d * 0x87) (shift_of_number x h) (sym (top_bit x h))

-- ---- the padding, with t + s = 7: the t bits that count of a byte b, after whole bytes of the number a
cut_joined : (a b t s : ℕ) → t + suc s ≡ 8 → ((a * 2 ^ t + b) * 2 + 1) * 2 ^ s ≡ a * 256 + (b * 2 + 1) * 2 ^ s
cut_joined a b t s e =
    let byte : 2 ^ t * 2 * 2 ^ s ≡ 256
    = mul_assoc (2 ^ t) 2 (2 ^ s) ∙ ap (λ (n : ℕ). 2 ^ t * n) (mul_comm 2 (2 ^ s) ∙ sym (pow-suc 2 s)) ∙ sym (pow-add 2 t (suc s)) ∙ ap (λ (n : ℕ). 2 ^ n) e in
    let whole : a * 2 ^ t * 2 * 2 ^ s ≡ a * 256
    = ap (λ (n : ℕ). n * 2 ^ s) (mul_assoc a (2 ^ t) 2) ∙ mul_assoc a (2 ^ t * 2) (2 ^ s) ∙ ap (λ (n : ℕ). a * n) byte in
    let apart : (a * 2 ^ t + b) * 2 + 1 ≡ a * 2 ^ t * 2 + (b * 2 + 1) = omega arith in
    ap (λ (n : ℕ). n * 2 ^ s) apart ∙ add-mul (a * 2 ^ t * 2) (b * 2 + 1) (2 ^ s) ∙ ap (λ (n : ℕ). n + (b * 2 + 1) * 2 ^ s) whole

-- a number of whole bytes a, a byte b, and k bits v after it: its first bits, as far as the t of b
bits_kept : (a b v k t s : ℕ) → t + suc s ≡ 8 → v < 2 ^ k
    → (((a * 256 + b) * 2 ^ k + v) / 2 ^ (k + suc s) * 2 + 1) * 2 ^ (k + s) ≡ (a * 256 + (b / 2 ^ suc s * 2 + 1) * 2 ^ s) * 2 ^ k
bits_kept a b v k t s e below =
    let split : a * 256 + b ≡ a * 2 ^ t * 2 ^ suc s + b
    = ap (λ (n : ℕ). n + b) (sym (mul_assoc a (2 ^ t) (2 ^ suc s) ∙ ap (λ (n : ℕ). a * n) (sym (pow-add 2 t (suc s)) ∙ ap (λ (n : ℕ). 2 ^ n) e))) in
    let first : ((a * 256 + b) * 2 ^ k + v) / 2 ^ (k + suc s) ≡ a * 2 ^ t + b / 2 ^ suc s
    = sym (shr-shr _ k (suc s)) ∙ ap (λ (n : ℕ). n / 2 ^ suc s) (high (a * 256 + b) k below ∙ split) ∙ mul-add-div_right (pow_pos (suc s)) (a * 2 ^ t) b in
    ap₂ (λ (m n : ℕ). (m * 2 + 1) * n) first (pow-add 2 k s ∙ mul_comm (2 ^ k) (2 ^ s))
    ∙ sym (mul_assoc ((a * 2 ^ t + b / 2 ^ suc s) * 2 + 1) (2 ^ s) (2 ^ k))
    ∙ ap (λ (n : ℕ). n * 2 ^ k) (cut_joined a (b / 2 ^ suc s) t s e)

-- the number of a byte between two lists of bytes
between : (l d : List ℕ) (c n : ℕ) → length d ≡ n → number (l ++ (c ∷ d)) ≡ (number l * 256 + c) * 2 ^ (8 * n) + number d
unfolding number
between l d c n long =
    let p : ℕ = 2 ^ (8 * n) in
    let power : 256 ^ length d ≡ p = ap (λ (k : ℕ). 256 ^ k) long ∙ bytes_bits n in
    number_append l (c ∷ d)
    ∙ ap₂ (λ (m k : ℕ). number l * m + (c * k + number d)) (pow-suc 256 (length d) ∙ ap (λ (k : ℕ). k * 256) power) power
    ∙ omega (arith, add-mul (number l * 256) c p, sym (mul_assoc (number l) p 256), mul_right_comm (number l) 256 p)

pub padding_of_number : (r : ℕ) (x : List ℕ) → r < 128 → Block x → number (padded r x) ≡ padded_number r (number x)
unfolding padded padded_number
padding_of_number r x h block =
    let q : ℕ = r / 8 in
    let t : ℕ = r % 8 in
    let s : ℕ = 7 - t in
    let k : ℕ = 8 * (15 - q) in
    let b : ℕ = byte x q in
    let a : ℕ = number (take q x) in
    let after : List ℕ = drop (suc q) x in
    let long : length after ≡ 15 - q = length-drop (suc q) x ∙ omega (arith, block.long) in
    let whole : number x ≡ (a * 256 + b) * 2 ^ k + number after
    = ap number (split_at x q 0 (omega (arith, block.long))) ∙ between (take q x) after b (15 - q) long in
    let more : 8 - t ≡ suc s = omega arith in
    let bits : 128 - r ≡ k + suc s = omega arith in
    let bits' : 127 - r ≡ k + s = omega arith in
    between (take q x) (replicate (15 - q) 0) (cut t b) (15 - q) (length-replicate (15 - q) 0)
    ∙ ap₂ (λ (c z : ℕ). (a * 256 + c) * 2 ^ k + z) (ap (λ (n : ℕ). (b / 2 ^ n * 2 + 1) * 2 ^ s) more) (number_zeros (15 - q))
    ∙ add-zero _
    ∙ sym (bits_kept a b (number after) k t s (omega arith) (below_bits (15 - q) after long (drop_bytes (suc q) x block.small)))
    ∙ sym (ap (λ (n : ℕ). (n / 2 ^ (k + suc s) * 2 + 1) * 2 ^ (k + s)) whole)
    ∙ sym (ap₂ (λ (m n : ℕ). (number x / 2 ^ m * 2 + 1) * 2 ^ n) bits bits')
