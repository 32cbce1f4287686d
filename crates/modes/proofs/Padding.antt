-- The padding of CMAC's last block.
-- Assumes nothing.
use mathlib.Core.Path.{◌≡◌, sym, ap, ap₂, ◌∙◌, subst}
use mathlib.Core.List.{List, ◌∷◌, ◌++◌}
use Prim.Native.Nat.{ℕ, suc, ◌+◌, ◌-◌, ◌*◌, ◌/◌, ◌%◌, ◌^◌, ◌<◌, max}
use native.Mathlib.Nat.{mod-eq_of_lt, pow-suc}
use native.Mathlib.Omega.{arith}
use lib.Bits.{bit_or, or_step, or_zero_r}
use lib.ListN.{length, take, drop, set, replicate}
use Rattle.std.proofs.lemmas.List.{drop-replicate}
use lib.Pow.{shl_lt, shr_lt, shr-shr}
use Rattle.laws.proofs.Zeros.{put_next}
use Rattle.aes.specs.State.{byte}
use Rattle.modes.specs.Cmac.{cut, padded}

-- ---- one byte: the shifts of the code
set_lowest : (n : ℕ) → bit_or n 1 ≡ n / 2 * 2 + 1
set_lowest n =
    let one : max (n % 2) 1 ≡ 1 = omega arith in
    or_step n 1 ∙ ap₂ (λ (a b : ℕ). a * 2 + b) (or_zero_r (n / 2)) one

cut_below : (t s b : ℕ) → t + suc s ≡ 8 → b < 256 → (b / 2 ^ suc s * 2 + 1) * 2 ^ s < 256
cut_below t s b e hb =
    let top : b / 2 ^ suc s < 2 ^ t = shr_lt t (suc s) (subst (λ (n : ℕ). b < 2 ^ n) (sym e) hb) in
    let next : suc t + s ≡ 8 = omega arith in
    subst (λ (n : ℕ). (b / 2 ^ suc s * 2 + 1) * 2 ^ s < 2 ^ n) next (shl_lt (suc t) s (omega (arith, pow-suc 2 t)))

pub cut_by_shifts : (t b : ℕ) → t < 8 → b < 256 → bit_or (b / 2 ^ (7 - t)) 1 * 2 ^ (7 - t) % 256 ≡ cut t b
cut_by_shifts t b h hb =
    let s : ℕ = 7 - t in
    let more : 8 - t ≡ suc s = omega arith in
    let one : s + 1 ≡ suc s = omega arith in
    ap (λ (n : ℕ). n * 2 ^ s % 256) (set_lowest (b / 2 ^ s) ∙ ap (λ (n : ℕ). n * 2 + 1) (shr-shr b s 1 ∙ ap (λ (n : ℕ). b / 2 ^ n) one))
    ∙ mod-eq_of_lt (cut_below t s b (omega arith) hb)
    ∙ ap (λ (n : ℕ). (b / 2 ^ n * 2 + 1) * 2 ^ s) (sym more)

-- ---- the block: the whole bytes, copied into a block of zeros, and then the cut one
pub padded_block : (r : ℕ) (x : List ℕ) → r < 128 → length x ≡ 16
    → padded r x ≡ set (take (r / 8) x ++ drop (r / 8) (replicate 16 0)) (r / 8) (cut (r % 8) (byte x (r / 8)))
unfolding padded
padded_block r x h long =
    let n : ℕ = r / 8 in
    let v : ℕ = cut (r % 8) (byte x n) in
    let last : 16 - suc n ≡ 15 - n = omega arith in
    sym (put_next x _ 16 n v (omega arith) (omega arith) (ap (λ (zeros : List ℕ). take n x ++ zeros) (drop-replicate n 16 0))
    ∙ ap (λ (k : ℕ). take n x ++ (v ∷ replicate k 0)) last)
