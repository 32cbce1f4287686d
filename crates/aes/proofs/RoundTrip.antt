-- InvCipher undoes Cipher and Cipher undoes InvCipher, for every key and every block of 16 bytes: of the definitions. A
-- round, then n rounds, then the cipher are chains of steps, so both directions come out at once. InvCipher groups its steps
-- otherwise than Cipher undone step by step; `regrouped` joins the two.
-- Assumes nothing.
use mathlib.Core.Path.{◌≡◌, refl, ap, fun_ext, subst⁻¹}
use mathlib.Core.List.{List}
use Prim.Native.Nat.{ℕ, zero, suc}
use Rattle.field.proofs.Laws.{sbox_byte}
use Rattle.aes.specs.State.{Bytes, Block}
use Rattle.aes.specs.Steps.{substitute, sub_bytes, inv_sub_bytes, inv_shift_rows, inv_mix_columns, add_round_key}
use Rattle.aes.specs.Schedule.{key_expansion}
use Rattle.aes.specs.Cipher.{round, rounds, cipher_with, cipher, inv_round, inv_rounds, inv_cipher_with, inv_cipher}
use Rattle.aes.proofs.Bytes.{state_block}
use Rattle.aes.proofs.Steps.{Undone, Inverses, chain, sub_inverses, shift_inverses, mix_inverses, add_inverses}
use Rattle.aes.proofs.Schedule.{expansion_bytes}

-- a round undone step by step, and the rounds n down to 1 so undone
unround : List ℕ → ℕ → List ℕ → List ℕ
unround w r s = inv_sub_bytes (inv_shift_rows (inv_mix_columns (add_round_key w r s)))

unrounds : ℕ → List ℕ → List ℕ → List ℕ
unrounds zero w s = s
unrounds (suc n) w s = unrounds n w (unround w (suc n) s)

module _ (w : List ℕ) (bytes : Bytes w) where
  round_inverses : (r : ℕ) → Inverses (round w r) (unround w r)
  unfolding round unround
  round_inverses r = chain (chain (chain sub_inverses shift_inverses) mix_inverses) (add_inverses w bytes r)

  rounds_inverses : (n : ℕ) → Inverses (rounds n w) (unrounds n w)
  unfolding rounds unrounds
  rounds_inverses zero = record { there = same; back = same }
    where
      same : Undone (λ s. s) (λ s. s)
      same = record { keeps = λ s h. h; undo = λ s h. refl }
  rounds_inverses (suc n) = chain (rounds_inverses n) (round_inverses (suc n))

  -- InvCipher starts each of its rounds two steps later
  regrouped : (n : ℕ) (s : List ℕ) → inv_sub_bytes (inv_shift_rows (inv_rounds n w s)) ≡ unrounds n w (inv_sub_bytes (inv_shift_rows s))
  unfolding inv_rounds inv_round unrounds unround
  regrouped zero s = refl
  regrouped (suc n) s = regrouped n (inv_round w (suc n) s)

  stepwise : Inverses (cipher_with w) (λ s. add_round_key w 0 (unrounds 9 w (inv_sub_bytes (inv_shift_rows (add_round_key w 10 s)))))
  unfolding cipher_with
  stepwise =
      chain (chain (chain (chain (add_inverses w bytes 0) (rounds_inverses 9)) sub_inverses) shift_inverses) (add_inverses w bytes 10)

  pub with_inverses : Inverses (cipher_with w) (inv_cipher_with w)
  unfolding inv_cipher_with
  with_inverses =
      subst⁻¹ (λ (g : List ℕ → List ℕ). Inverses (cipher_with w) g) (fun_ext (λ s. ap (add_round_key w 0) (regrouped 9 (add_round_key w 10 s)))) stepwise

-- under a key; with it, that both give blocks of blocks
pub inverses : (key : List ℕ) → Block key → Inverses (cipher key) (inv_cipher key)
unfolding cipher inv_cipher
inverses key k = with_inverses (key_expansion key) (expansion_bytes key k.small)

pub deciphers : (key block : List ℕ) → Block key → Block block → inv_cipher key (cipher key block) ≡ block
deciphers key block k b = (inverses key k).there.undo block b

pub enciphers : (key block : List ℕ) → Block key → Block block → cipher key (inv_cipher key block) ≡ block
enciphers key block k b = (inverses key k).back.undo block b

-- Cipher gives a block of anything, since its last round substitutes each byte
pub cipher_block : (key s : List ℕ) → Block key → Block (cipher key s)
unfolding cipher cipher_with sub_bytes substitute
cipher_block key s k =
    (add_inverses (key_expansion key) (expansion_bytes key k.small) 10).there.keeps _
    (shift_inverses.there.keeps _ (state_block _ (λ i. sbox_byte _)))
