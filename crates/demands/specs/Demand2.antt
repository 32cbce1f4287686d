-- The second demand: enciphering, deciphering, MACs, derived keys, random numbers, key messages and their answers are exactly
-- those of the papers; deciphering undoes enciphering and enciphering undoes deciphering.
-- Assumes nothing.
use Rattle.std.specs.Prelude.{◌≡◌, true, false, List, [], ◌∷◌, ◌↔◌, ℕ, ◌≤◌, length}
use Rattle.aes.specs.Cipher.{cipher}
use Rattle.aes.specs.State.{Bytes, Block}
use Rattle.basics.specs.Answers.{no_error}
use Rattle.modes.specs.Answer.{cmac_lengths}
use Rattle.modes.specs.Blocks.{Text}
use Rattle.modes.specs.Cmac.{cmac, Agree}
use Rattle.message.specs.Slots.{has_role}
use Rattle.message.specs.declared.Role.{Role}
use Rattle.message.specs.declared.Role.TheVariants.{Cipher, GenerateMac}
use Rattle.device.specs.Made.{Sound}
use Rattle.device.specs.Account.{success}
use Rattle.device.specs.Outcome.{Outcome, done}
use Rattle.device.specs.Record.{is_empty, key_at, flags_at}
use Rattle.device.specs.Rules.{locked, usage_fits}
use Rattle.device.specs.declared.Device.{Device}
use Rattle.commands.specs.Commands.{compared}
use Rattle.demands.specs.Calls.{Call, account, Machine, enc_ecb, dec_ecb, enc_cbc, dec_cbc, generate_mac, verify_mac}

-- ---- a slot that a made device has for a role, by the paper's rules
pub record Usable (d : Device) (slot : ℕ) (role : Role) : Type 0 where
  pub is_sound : Sound d
  pub has_the_role : has_role slot role ≡ true
  pub holds_key : is_empty d slot ≡ false
  pub unlocked : locked d slot ≡ false
  pub fits : usage_fits slot (flags_at d slot) role ≡ true

-- what a call leaves in the first buffer that was lent
abbrev pub first : List (List ℕ) → List ℕ
first [] = []
first (buffer ∷ buffers) = buffer

abbrev pub output : Outcome → List ℕ
output outcome = first outcome.buffers

-- the verdict yes
abbrev pub yes_verdict : ℕ
yes_verdict = 1

pub record Demand2 (n : ℕ) (machine : Machine) : Type 0 where
  -- exactly the papers': for any record, any numbers and any bytes, where it answers 0 it leaves what they say
  pub exact : (d : Device) (call : Call) → (machine d call).answer ≡ no_error → machine d call ≡ success (account n call) d
  -- ECB of a block, there and back, and back and there
  pub ecb_undone : (d : Device) (slot : ℕ) (text a b : List ℕ) → Usable d slot Cipher → Block text → length a ≡ 16 → length b ≡ 16
      → machine d (dec_ecb slot (output (machine d (enc_ecb slot text a))) b) ≡ done d 0 (text ∷ [])
  pub ecb_redone : (d : Device) (slot : ℕ) (text a b : List ℕ) → Usable d slot Cipher → Block text → length a ≡ 16 → length b ≡ 16
      → machine d (enc_ecb slot (output (machine d (dec_ecb slot text a))) b) ≡ done d 0 (text ∷ [])
  -- CBC of 1 to 4,096 blocks
  pub cbc_undone : (d : Device) (slot : ℕ) (iv text a b : List ℕ) (blocks : ℕ) → Usable d slot Cipher → Block iv → Text blocks text
      → 1 ≤ blocks → blocks ≤ 4096 → length a ≡ length text → length b ≡ length text
      → machine d (dec_cbc slot iv (output (machine d (enc_cbc slot iv text a))) b) ≡ done d 0 (text ∷ [])
  pub cbc_redone : (d : Device) (slot : ℕ) (iv text a b : List ℕ) (blocks : ℕ) → Usable d slot Cipher → Block iv → Text blocks text
      → 1 ≤ blocks → blocks ≤ 4096 → length a ≡ length text → length b ≡ length text
      → machine d (enc_cbc slot iv (output (machine d (dec_cbc slot iv text a))) b) ≡ done d 0 (text ∷ [])
  -- different blocks have different ciphertexts
  pub texts_differ : (d : Device) (slot : ℕ) (x y a b : List ℕ) → Usable d slot Cipher → Block x → Block y
      → length a ≡ 16 → length b ≡ 16
      → output (machine d (enc_ecb slot x a)) ≡ output (machine d (enc_ecb slot y b)) → x ≡ y
  -- what GENERATE_MAC makes VERIFY_MAC says yes to, with every MAC length
  pub mac_verifies : (d : Device) (slot bits : ℕ) (message a : List ℕ) (macbits : ℕ) → Usable d slot GenerateMac
      → cmac_lengths 16 bits (length message) (length a) ≡ true → macbits ≤ 127
      → let mac = output (machine d (generate_mac slot bits message a)) in
      machine d (verify_mac slot bits message mac macbits) ≡ done d yes_verdict []
  -- and wherever it gives a verdict, that is yes exactly where each of the compared bits is that of the MAC
  pub yes_means : (d : Device) (slot bits : ℕ) (message mac : List ℕ) (macbits : ℕ) → Sound d → Bytes mac
      → (machine d (verify_mac slot bits message mac macbits)).answer ≡ no_error
      → ((machine d (verify_mac slot bits message mac macbits)).value ≡ yes_verdict)
      ↔ Agree (compared macbits) (cmac (cipher (key_at d slot)) bits message) mac
