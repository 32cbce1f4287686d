-- Lists of bytes from bytes and from lists of bytes.
-- Assumes nothing.
use mathlib.Core.Path.{◌≡◌, refl}
use mathlib.Core.Bool.{Bool, true, ◌&&◌}
use mathlib.Core.List.{List, [], ◌∷◌, ◌++◌}
use Prim.Native.Nat.{ℕ, zero, suc, ◌<◌}
use native.Mathlib.Omega.{arith}
use borrow.Author.Tests.{leb-true}
use lib.Dec.{leb, lit<}
use lib.ListN.{take, drop, replicate}
use Rattle.laws.proofs.Each.{each_four, each_append, each_take, each_drop}
use Rattle.laws.proofs.Test.{both}
use Rattle.laws.proofs.Tabulate.{length_tabulate, all_tabulate}
use Rattle.aes.specs.State.{state, Bytes, Block}

pub four_bytes : (a b c d : ℕ) → a < 256 → b < 256 → c < 256 → d < 256 → Bytes (a ∷ b ∷ c ∷ d ∷ [])
four_bytes = each_four (λ (x : ℕ). x < 256) (lit< tt)

pub append_bytes : (u v : List ℕ) → Bytes u → Bytes v → Bytes (u ++ v)
append_bytes = each_append (λ (x : ℕ). x < 256) (lit< tt)

pub zero_bytes : (n : ℕ) → Bytes (replicate n 0)
zero_bytes zero i = lit< tt
zero_bytes (suc n) zero = lit< tt
zero_bytes (suc n) (suc i) = zero_bytes n i

pub take_bytes : (n : ℕ) (s : List ℕ) → Bytes s → Bytes (take n s)
take_bytes = each_take (λ (x : ℕ). x < 256) (lit< tt)

pub drop_bytes : (n : ℕ) (s : List ℕ) → Bytes s → Bytes (drop n s)
drop_bytes = each_drop (λ (x : ℕ). x < 256) (lit< tt)

pub state_block : (f : ℕ → ℕ) → ((k : ℕ) → f k < 256) → Block (state f)
state_block f h = record { long = length_tabulate 16 f; small = all_tabulate (λ (x : ℕ). x < 256) 16 f (lit< tt) (λ k l. h k) }

-- a list that is computed to be one of bytes
abbrev pub are_bytes : List ℕ → Bool
are_bytes [] = true
are_bytes (x ∷ l) = leb x 255 && are_bytes l

pub tested_bytes : (l : List ℕ) → are_bytes l ≡ true → Bytes l
tested_bytes [] h i = lit< tt
tested_bytes (x ∷ l) h zero = omega (arith, leb-true x 255 (both (leb x 255) (are_bytes l) h).0)
tested_bytes (x ∷ l) h (suc i) = tested_bytes l (both (leb x 255) (are_bytes l) h).1 i

pub zero_block_lem : Block (replicate 16 0)
zero_block_lem = record { long = refl; small = zero_bytes 16 }
