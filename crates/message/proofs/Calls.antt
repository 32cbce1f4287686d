-- What the modes give on buffers of the lengths that messages have.
-- Assumes nothing.
use mathlib.Core.Path.{◌≡◌, ap, sym, ◌∙◌}
use mathlib.Core.List.{List, append-nil}
use Prim.Native.Nat.{ℕ, ◌-◌, ◌*◌}
use native.Mathlib.Omega.{arith}
use lib.ListN.{length}
use Rattle.std.specs.Prelude.{Result}
use Rattle.std.specs.Result.{IsOk}
use Rattle.basics.specs.Answers.{answer_of}
use Rattle.basics.specs.declared.Refusal.{Refusal}
use Rattle.basics.proofs.Faults.{done_ok}
use Rattle.aes.specs.Cipher.{cipher, inv_cipher}
use Rattle.modes.specs.Answer.{outcome, cbc_lengths}
use Rattle.modes.specs.Cbc.{cbc_encrypt, cbc_decrypt}
use Rattle.modes.specs.Cmac.{block_count, cmac, text_mac}
use Rattle.modes.specs.Routines.{cbc_encryption, cbc_decryption}
use Rattle.modes.proofs.Lent.{answer_done, succeeded}

module _ (key before after : List ℕ) (hk : length key ≡ 16) where
  -- two blocks
  pub encrypts : (iv text : List ℕ) → length iv ≡ 16 → length text ≡ 32 → length before ≡ 32 → after ≡ (cbc_encryption key iv text before).output
      → after ≡ cbc_encrypt (cipher key) iv text
  unfolding cbc_lengths
  encrypts iv text hi ht hb e = e ∙ succeeded _ _ before (rw (hk, hi, ht, hb))

  pub decrypts : (iv text : List ℕ) → length iv ≡ 16 → length text ≡ 32 → length before ≡ 32 → after ≡ (cbc_decryption key iv text before).output
      → after ≡ cbc_decrypt (inv_cipher key) iv text
  unfolding cbc_lengths
  decrypts iv text hi ht hb e = e ∙ succeeded _ _ before (rw (hk, hi, ht, hb))

-- neither is refused
pub not_refused : (key iv text before result : List ℕ) (reply : Result Unit Refusal) → length key ≡ 16 → length iv ≡ 16 → length text ≡ 32
    → length before ≡ 32 → answer_of reply ≡ (outcome (cbc_lengths (length key) (length iv) (length text) (length before)) result before).answer
    → IsOk reply
unfolding cbc_lengths
not_refused key iv text before result reply hk hi ht hb e = done_ok reply (e ∙ sym (answer_done _ result before (rw (hk, hi, ht, hb))))

-- a text of whole blocks, k bytes of them, has the MAC of all of its bits
pub signs : (ciph : List ℕ → List ℕ) (text : List ℕ) (k : ℕ) → length text ≡ k → 16 * block_count (8 * k) ≡ k
    → text_mac ciph text ≡ cmac ciph (8 * k) text
unfolding text_mac
signs ciph text k long whole =
    let none : 16 * block_count (8 * k) - k ≡ 0 = omega (arith, whole) in
    rw (long, none) (ap (cmac ciph (8 * k)) (append-nil text))
