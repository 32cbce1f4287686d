-- The S-box read from a table, a turn of the loops over the rounds, there and back, and the cipher by its schedule. The loops
-- keep "rounds 1 to r are done" on the way there, and "rounds r to 1 are left" on the way back.
-- Assumes nothing.
use mathlib.Core.Path.{◌≡◌, refl, ap}
use mathlib.Core.List.{List}
use Prim.Native.Nat.{ℕ, zero, suc, ◌-◌, ◌≤◌}
use native.Mathlib.Omega.{arith}
use Rattle.laws.proofs.Tabulate.{tabulate_same}
use Rattle.field.specs.Sbox.{table}
use Rattle.field.proofs.Laws.{looked_up}
use Rattle.aes.specs.State.{byte, state, Bytes}
use Rattle.aes.specs.Steps.{substitute}
use Rattle.aes.specs.Schedule.{key_expansion}
use Rattle.aes.specs.Cipher.{round, rounds, cipher_with, cipher, inv_round, inv_rounds, inv_cipher_with, inv_cipher}

-- bytes read from the table of a rule
pub by_table : (f : ℕ → ℕ) (boxes s : List ℕ) → boxes ≡ table f → Bytes s → state (λ k. byte boxes (byte s k)) ≡ substitute f s
unfolding substitute
by_table f boxes s whole h = tabulate_same 16 _ _ (λ k l. looked_up f boxes (byte s k) _ whole (h k) refl)

-- no round, and the last of some
pub rounds_none : (w s : List ℕ) → rounds 0 w s ≡ s
unfolding rounds
rounds_none w s = refl

pub rounds_last : (w s : List ℕ) (r : ℕ) → 1 ≤ r → rounds r w s ≡ round w r (rounds (r - 1) w s)
unfolding rounds
rounds_last w s zero h = absurd (omega arith)
rounds_last w s (suc r) h = let back : r ≡ suc r - 1 = omega arith in ap (λ (n : ℕ). round w (suc r) (rounds n w s)) back

pub inv_rounds_none : (w s : List ℕ) → inv_rounds 0 w s ≡ s
unfolding inv_rounds
inv_rounds_none w s = refl

pub inv_rounds_first : (w s : List ℕ) (r : ℕ) → 1 ≤ r → inv_rounds r w s ≡ inv_rounds (r - 1) w (inv_round w r s)
unfolding inv_rounds
inv_rounds_first w s zero h = absurd (omega arith)
inv_rounds_first w s (suc r) h = let back : r ≡ suc r - 1 = omega arith in ap (λ (n : ℕ). inv_rounds n w (inv_round w (suc r) s)) back

pub ruleset turns = (rounds_none, rounds_last)

pub ruleset inv_turns = (inv_rounds_none, inv_rounds_first)

-- under the schedule of a key
pub ciphers : (key w : List ℕ) → w ≡ key_expansion key → cipher_with w ≡ cipher key
unfolding cipher
ciphers key w made = ap cipher_with made

pub inv_ciphers : (key w : List ℕ) → w ≡ key_expansion key → inv_cipher_with w ≡ inv_cipher key
unfolding inv_cipher
inv_ciphers key w made = ap inv_cipher_with made
