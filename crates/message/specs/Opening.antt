-- Opening M1 to M3 under the authority's key, on the device's side.
-- Assumes nothing.
use Rattle.std.specs.Prelude.{Bool, true, false, cond, ◌&&◌, List, [], ◌∷◌, ℕ, Option, Some, None, eqb, length, take, drop}
use Rattle.laws.specs.Lengths.{right_lengths}
use Rattle.laws.specs.Same.{same}
use Rattle.aes.specs.Cipher.{inv_cipher}
use Rattle.modes.specs.Blocks.{zero_block}
use Rattle.modes.specs.Cbc.{cbc_decrypt}
use Rattle.message.specs.FirstBlock.{counter_of, flags_of, filler_of}
use Rattle.message.specs.Messages.{enc_key, m3}
use Rattle.message.specs.declared.Contents.{Contents}

-- what is opened: whether M3 is the MAC of M1 and M2, the counter, the flags, whether the filler after them is all zeros, and the
-- new key. Where it is not genuine, M3 or a length is wrong, and the rest is zero and false
pub record Opened : Type 0 where
  pub genuine : Bool
  pub counter : ℕ
  pub flags : ℕ
  pub zerofill : Bool
  pub key : List ℕ

-- the authority's key 16 bytes, M1 16, M2 32, M3 16
abbrev pub open_lengths : ℕ → ℕ → ℕ → ℕ → List (ℕ × ℕ)
open_lengths auth_key m1 m2 m3 = (auth_key, 16) ∷ (m1, 16) ∷ (m2, 32) ∷ (m3, 16) ∷ []

-- what M2 holds in clear: the first block, and the new key
unfoldable pub clear_text : List ℕ → List ℕ → List ℕ
clear_text auth_key m2 = cbc_decrypt (inv_cipher (enc_key auth_key)) zero_block m2

-- read from the clear text, for n flags
unfoldable pub opened_text : ℕ → List ℕ → Opened
opened_text n clear =
    record {
      genuine = true;
      counter = counter_of (take 16 clear);
      flags = flags_of n (take 16 clear);
      zerofill = eqb (filler_of n (take 16 clear)) 0;
      key = drop 16 clear;
    }

abbrev pub unopened : Opened
unopened = record { genuine = false; counter = 0; flags = 0; zerofill = false; key = zero_block }

-- M2 is deciphered where M3 is the MAC of M1 | M2, and then alone
unfoldable pub opened : ℕ → List ℕ → List ℕ → List ℕ → List ℕ → Opened
opened n auth_key m1 m2 m3' =
    cond (right_lengths (open_lengths (length auth_key) (length m1) (length m2) (length m3')) && same m3' (m3 auth_key m1 m2))
    (opened_text n (clear_text auth_key m2))
    unopened

-- the code says the same with an option: what is not genuine has no contents
abbrev pub opened_as : Option Contents → Opened
opened_as None = unopened
opened_as (Some new) = record { genuine = true; counter = new.counter; flags = new.flags; zerofill = new.zerofill; key = new.key }
