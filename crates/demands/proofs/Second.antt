-- The second demand holds of the device.
-- Assumes nothing.
use mathlib.Core.Path.{◌≡◌, refl, sym, ap, ap₂, ◌∙◌}
use mathlib.Core.Bool.{Bool, true, false, cond, ◌&&◌}
use mathlib.Core.List.{List, [], ◌∷◌}
use mathlib.Core.Logic.{◌↔◌}
use mir.Val.{bool_byte}
use Prim.Native.Nat.{ℕ, ◌*◌, ◌%◌, ◌≤◌}
use native.Mathlib.Omega.{arith}
use borrow.Author.Tests.{le-leb, eq-eqb, leb-true}
use lib.Dec.{leb}
use lib.ListN.{length}
use Rattle.laws.specs.Lengths.{right_lengths}
use Rattle.laws.specs.Ranges.{within, row_of}
use Rattle.laws.proofs.Test.{both}
use Rattle.aes.specs.Cipher.{cipher, inv_cipher}
use Rattle.aes.specs.State.{Bytes, Block}
use Rattle.aes.proofs.RoundTrip.{inverses, deciphers, enciphers}
use Rattle.basics.specs.Answers.{no_error}
use Rattle.modes.specs.Answer.{three_blocks, cbc_lengths, cmac_lengths}
use Rattle.modes.specs.Blocks.{blocks, Text}
use Rattle.modes.specs.Cbc.{cbc_encrypt, cbc_decrypt}
use Rattle.modes.specs.Cmac.{cmac, Agree}
use Rattle.modes.proofs.Cbc.{cbc_deciphers, cbc_enciphers, cbc_encrypted, cbc_decrypted}
use Rattle.modes.proofs.Lent.{cmac_facts}
use Rattle.modes.proofs.MacSteps.{mac_block}
use Rattle.message.specs.Slots.{has_role}
use Rattle.message.specs.declared.Role.{Role}
use Rattle.message.specs.declared.Role.TheVariants.{Cipher, GenerateMac, VerifyMac}
use Rattle.device.specs.Account.{answer_by, success}
use Rattle.device.specs.Made.{Sound}
use Rattle.device.specs.Outcome.{Outcome, done}
use Rattle.device.specs.Record.{key_at}
use Rattle.device.specs.Rules.{usage_fits}
use Rattle.device.specs.declared.Device.{Device}
use Rattle.device.proofs.Account.{made_and_long}
use Rattle.device.proofs.Record.{key_block}
use Rattle.commands.specs.Checks.{slot_checks}
use Rattle.commands.specs.Commands as commands
use Rattle.commands.specs.Commands.{mac_agrees, compared}
use Rattle.commands.proofs.Agreement.{agrees_exactly}
use Rattle.demands.specs.Calls.{Call, enc_ecb, dec_ecb, enc_cbc, dec_cbc, generate_mac, verify_mac, account, step}
use Rattle.demands.specs.Demand2.{Usable, output, yes_verdict, Demand2}
use Rattle.demands.proofs.Steps.{answer_found, step_done}

-- ---- where it answers 0 it does what is done
does : (n : ℕ) (d : Device) (call : Call) → (step n d call).answer ≡ no_error → step n d call ≡ success (account n call) d
does n d call zero = step_done n d call (sym (answer_found n d call) ∙ zero)

-- ---- no check finds fault with a usable slot
module _ (d : Device) (slot : ℕ) (role : Role) (usable : Usable d slot role) where
  no_slot_fault : (lengths : Bool) → lengths ≡ true → answer_by d lengths (slot_checks d slot role) ≡ 0
  unfolding answer_by
  no_slot_fault lengths long =
      rw (usable.is_sound.1, long, usable.has_the_role, usable.holds_key, usable.unlocked, usable.fits) refl

-- ---- ECB and CBC
ecb_lengths : (x out : List ℕ) → length x ≡ 16 → length out ≡ 16 → three_blocks 16 (length x) (length out) ≡ true
unfolding three_blocks right_lengths
ecb_lengths x out hx ho = rw (hx, ho) refl

cbc_lengths_lem : (iv x out : List ℕ) (blocks : ℕ) → length iv ≡ 16 → length x ≡ 16 * blocks → 1 ≤ blocks → blocks ≤ 4096
    → length out ≡ length x → cbc_lengths 16 (length iv) (length x) (length out) ≡ true
unfolding cbc_lengths
cbc_lengths_lem iv x out blocks hi hx low high ho =
    let whole : 16 * blocks % 16 ≡ 0 = omega arith in
    let least : 16 * 1 ≤ 16 * blocks = omega arith in
    let most : 16 * blocks ≤ 16 * 4096 = omega arith in
    let same = eq-eqb (16 * blocks) (16 * blocks) refl in
    rw (hi, ho, hx, whole, le-leb (16 * 1) (16 * blocks) least, le-leb (16 * blocks) (16 * 4096) most, same) refl

module _ (n : ℕ) (d : Device) (slot : ℕ) (usable : Usable d slot Cipher) where
  abbrev key : List ℕ
  key = key_at d slot

  hk : Block (key_at d slot)
  hk = key_block d slot usable.is_sound.0

  enciphered : (x out : List ℕ) → length x ≡ 16 → length out ≡ 16 → step n d (enc_ecb slot x out) ≡ done d 0 (cipher key x ∷ [])
  unfolding commands.enc_ecb
  enciphered x out hx ho = step_done n d (enc_ecb slot x out) (no_slot_fault d slot Cipher usable _ (ecb_lengths x out hx ho))

  deciphered : (x out : List ℕ) → length x ≡ 16 → length out ≡ 16 → step n d (dec_ecb slot x out) ≡ done d 0 (inv_cipher key x ∷ [])
  unfolding commands.dec_ecb
  deciphered x out hx ho = step_done n d (dec_ecb slot x out) (no_slot_fault d slot Cipher usable _ (ecb_lengths x out hx ho))

  there_and_back : (text a b : List ℕ) → Block text → length a ≡ 16 → length b ≡ 16
      → step n d (dec_ecb slot (output (step n d (enc_ecb slot text a))) b) ≡ done d 0 (text ∷ [])
  there_and_back text a b ht ha hb =
      ap (λ (o : Outcome). step n d (dec_ecb slot (output o) b)) (enciphered text a ht.long ha)
      ∙ deciphered (cipher key text) b ((inverses key hk).there.keeps text ht).long hb
      ∙ ap (λ (out : List ℕ). done d 0 (out ∷ [])) (deciphers key text hk ht)

  back_and_there : (text a b : List ℕ) → Block text → length a ≡ 16 → length b ≡ 16
      → step n d (enc_ecb slot (output (step n d (dec_ecb slot text a))) b) ≡ done d 0 (text ∷ [])
  back_and_there text a b ht ha hb =
      ap (λ (o : Outcome). step n d (enc_ecb slot (output o) b)) (deciphered text a ht.long ha)
      ∙ enciphered (inv_cipher key text) b ((inverses key hk).back.keeps text ht).long hb
      ∙ ap (λ (out : List ℕ). done d 0 (out ∷ [])) (enciphers key text hk ht)

  differ : (x y a b : List ℕ) → Block x → Block y → length a ≡ 16 → length b ≡ 16
      → output (step n d (enc_ecb slot x a)) ≡ output (step n d (enc_ecb slot y b)) → x ≡ y
  differ x y a b hx hy ha hb e =
      let alike = sym (ap output (enciphered x a hx.long ha)) ∙ e ∙ ap output (enciphered y b hy.long hb) in
      sym (deciphers key x hk hx) ∙ ap (inv_cipher key) alike ∙ deciphers key y hk hy

  module _ (iv text a b : List ℕ) (blocks : ℕ) (hi : Block iv) (ht : Text blocks text) (low : 1 ≤ blocks) (high : blocks ≤ 4096)
      (ha : length a ≡ length text) (hb : length b ≡ length text) where
    no_fault : (x out : List ℕ) → Text blocks x → length out ≡ length x
        → answer_by d (cbc_lengths 16 (length iv) (length x) (length out)) (slot_checks d slot Cipher) ≡ 0
    no_fault x out hx ho = no_slot_fault d slot Cipher usable _ (cbc_lengths_lem iv x out blocks hi.long hx.long low high ho)

    chained_out : (x out : List ℕ) → Text blocks x → length out ≡ length x
        → step n d (enc_cbc slot iv x out) ≡ done d 0 (cbc_encrypt (cipher key) iv x ∷ [])
    unfolding commands.enc_cbc
    chained_out x out hx ho = step_done n d (enc_cbc slot iv x out) (no_fault x out hx ho)

    unchained_out : (x out : List ℕ) → Text blocks x → length out ≡ length x
        → step n d (dec_cbc slot iv x out) ≡ done d 0 (cbc_decrypt (inv_cipher key) iv x ∷ [])
    unfolding commands.dec_cbc
    unchained_out x out hx ho = step_done n d (dec_cbc slot iv x out) (no_fault x out hx ho)

    cbc_there_and_back : step n d (dec_cbc slot iv (output (step n d (enc_cbc slot iv text a))) b) ≡ done d 0 (text ∷ [])
    cbc_there_and_back =
        let whole = cbc_encrypted key iv text blocks hk hi ht in
        ap (λ (o : Outcome). step n d (dec_cbc slot iv (output o) b)) (chained_out text a ht ha)
        ∙ unchained_out (cbc_encrypt (cipher key) iv text) b whole (hb ∙ ht.long ∙ sym whole.long)
        ∙ ap (λ (out : List ℕ). done d 0 (out ∷ [])) (cbc_deciphers key iv text blocks hk hi ht)

    cbc_back_and_there : step n d (enc_cbc slot iv (output (step n d (dec_cbc slot iv text a))) b) ≡ done d 0 (text ∷ [])
    cbc_back_and_there =
        let whole = cbc_decrypted key iv text blocks hk hi ht in
        ap (λ (o : Outcome). step n d (enc_cbc slot iv (output o) b)) (unchained_out text a ht ha)
        ∙ chained_out (cbc_decrypt (inv_cipher key) iv text) b whole (hb ∙ ht.long ∙ sym whole.long)
        ∙ ap (λ (out : List ℕ). done d 0 (out ∷ [])) (cbc_enciphers key iv text blocks hk hi ht)

-- ---- MACs
-- a slot that signs verifies too
signs_verifies : (d : Device) (slot : ℕ) → Usable d slot GenerateMac → Usable d slot VerifyMac
unfolding has_role usage_fits row_of
signs_verifies d slot usable = record {
  is_sound = usable.is_sound;
  has_the_role = also (within 2 2 slot) _ usable.has_the_role;
  holds_key = usable.holds_key;
  unlocked = usable.unlocked;
  fits = usable.fits;
}
  where
    also : (b x : Bool) → cond b false x ≡ true → cond b true x ≡ true
    also true x h = refl
    also false x h = h

module _ (n : ℕ) (d : Device) (slot bits : ℕ) (message : List ℕ) where
  abbrev mac : List ℕ
  mac = cmac (cipher (key_at d slot)) bits message

  signed_verifies : (a : List ℕ) (macbits : ℕ) → Usable d slot GenerateMac
      → cmac_lengths 16 bits (length message) (length a) ≡ true → macbits ≤ 127
      → step n d (verify_mac slot bits message (output (step n d (generate_mac slot bits message a))) macbits) ≡ done d yes_verdict []
  unfolding commands.generate_mac commands.verify_mac
  signed_verifies a macbits usable long few =
      let made = step_done n d (generate_mac slot bits message a) (no_slot_fault d slot GenerateMac usable _ long) in
      let block = mac_block (key_at d slot) bits message (key_block d slot usable.is_sound.0) in
      let same = block.long ∙ sym (cmac_facts 16 bits (length message) (length a) long).3 in
      let long' : (cmac_lengths 16 bits (length message) (length mac) && leb macbits 127) ≡ true
      = ap₂ (λ (x y : Bool). x && y) (ap (cmac_lengths 16 bits (length message)) same ∙ long) (le-leb macbits 127 few) in
      ap (λ (o : Outcome). step n d (verify_mac slot bits message (output o) macbits)) made
      ∙ step_done n d (verify_mac slot bits message mac macbits) (no_slot_fault d slot VerifyMac (signs_verifies d slot usable) _ long')
      ∙ ap (λ (yes : Bool). done d (bool_byte yes) []) ((agrees_exactly macbits mac mac block block few).1 (λ i l. refl))

  verdict : (given : List ℕ) (macbits : ℕ) → Sound d → Bytes given
      → (step n d (verify_mac slot bits message given macbits)).answer ≡ no_error
      → ((step n d (verify_mac slot bits message given macbits)).value ≡ yes_verdict) ↔ Agree (compared macbits) mac given
  unfolding commands.verify_mac
  verdict given macbits sound small zero =
      let done = ap (λ (o : Outcome). o.value) (does n d (verify_mac slot bits message given macbits) zero) in
      let none = sym (answer_found n d (verify_mac slot bits message given macbits)) ∙ zero in
      let long = both (cmac_lengths 16 bits (length message) (length given)) (leb macbits 127)
      (made_and_long d (account n (verify_mac slot bits message given macbits)).lengths _ none).1 in
      let block : Block given = record { long = (cmac_facts 16 bits (length message) (length given) long.0).3; small = small } in
      let ours = mac_block (key_at d slot) bits message (key_block d slot sound.0) in
      let exact = agrees_exactly macbits mac given ours block (leb-true macbits 127 long.1) in
      (λ said. exact.0 (is_one (mac_agrees macbits mac given) (sym done ∙ said)), λ agree. done ∙ ap bool_byte (exact.1 agree))
    where
      is_one : (b : Bool) → bool_byte b ≡ 1 → b ≡ true
      is_one true e = refl
      is_one false e = absurd (omega (arith, e))

pub demand_2 : (n : ℕ) → Demand2 n (step n)
demand_2 n = record {
  exact = does n;
  ecb_undone = λ d slot text a b usable. there_and_back n d slot usable text a b;
  ecb_redone = λ d slot text a b usable. back_and_there n d slot usable text a b;
  cbc_undone = λ d slot iv text a b blocks usable. cbc_there_and_back n d slot usable iv text a b blocks;
  cbc_redone = λ d slot iv text a b blocks usable. cbc_back_and_there n d slot usable iv text a b blocks;
  texts_differ = λ d slot x y a b usable. differ n d slot usable x y a b;
  mac_verifies = λ d slot bits message a macbits. signed_verifies n d slot bits message a macbits;
  yes_means = λ d slot bits message mac macbits. verdict n d slot bits message mac macbits;
}
