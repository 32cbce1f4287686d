-- A mask put on twice is put on once.
-- Assumes nothing.
use mathlib.Core.Path.{◌≡◌, refl, sym, ap, ap₂, ◌∙◌}
use Prim.Native.Nat.{ℕ, ◌+◌, ◌*◌, ◌/◌, ◌%◌, ◌<◌}
use native.Mathlib.Nat.{div-add-mod'}
use native.Mathlib.Omega.{arith}
use lib.Arith.{bin_ind}
use lib.Bits.{bit_and, and_shr, and_mod}
use Rattle.laws.proofs.Xor.{bit_cases}

bits : (x m : ℕ) → x < 2 → m < 2 → bit_and (bit_and x m) m ≡ bit_and x m
bits x m hx hm =
    bit_cases (λ (x : ℕ). bit_and (bit_and x m) m ≡ bit_and x m) refl
    (bit_cases (λ (m : ℕ). bit_and (bit_and 1 m) m ≡ bit_and 1 m) refl refl m hm) x hx

pub and_twice : (x m : ℕ) → bit_and (bit_and x m) m ≡ bit_and x m
and_twice = bin_ind (λ (x : ℕ). (m : ℕ) → bit_and (bit_and x m) m ≡ bit_and x m) (λ m. refl) step
  where
    step : (x : ℕ) → ((m : ℕ) → bit_and (bit_and (x / 2) m) m ≡ bit_and (x / 2) m) → (m : ℕ) → bit_and (bit_and x m) m ≡ bit_and x m
    step x ih m =
        let high = and_shr (bit_and x m) m 1 ∙ ap (λ (y : ℕ). bit_and y (m / 2)) (and_shr x m 1) in
        let low = and_mod (bit_and x m) m 1 ∙ ap (λ (y : ℕ). bit_and y (m % 2)) (and_mod x m 1) in
        let bit = bits (x % 2) (m % 2) (omega arith) (omega arith) in
        sym (div-add-mod' (bit_and (bit_and x m) m) 2)
        ∙ ap₂ (λ (a b : ℕ). a * 2 + b) (high ∙ ih (m / 2) ∙ sym (and_shr x m 1)) (low ∙ bit ∙ sym (and_mod x m 1))
        ∙ div-add-mod' (bit_and x m) 2
