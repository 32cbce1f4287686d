-- Wide numbers: what each definition says of a number, it says of the number saturated (`basics/proofs/Wide.antt`).
-- Assumes nothing.
use mathlib.Core.Path.{◌≡◌, refl, sym, ap, ◌∙◌}
use mathlib.Core.Bool.{Bool, true, false, not, cond, ◌&&◌, and-false}
use mathlib.Core.List.{List, [], ◌∷◌}
use mir.Val.{bool_byte}
use Prim.Native.Nat.{ℕ, ◌≤◌, ◌<◌}
use native.Mathlib.Omega.{arith}
use borrow.Author.Tests.{lt-leb}
use lib.Dec.{leb}
use lib.ListN.{length}
use Rattle.laws.specs.Lengths.{right_lengths}
use Rattle.aes.specs.Cipher.{cipher, inv_cipher}
use Rattle.basics.specs.Answers.{general_error, key_invalid}
use Rattle.basics.specs.Wide.{saturated}
use Rattle.basics.proofs.Wide.{saturates, fitting, wide_test, by_answer_lem}
use Rattle.modes.specs.Answer.{cmac_lengths}
use Rattle.modes.specs.Cbc.{cbc_encrypt, cbc_decrypt}
use Rattle.modes.specs.Cmac.{cmac}
use Rattle.message.specs.FirstBlock.{max_counter}
use Rattle.message.specs.Writer.{message_lengths, writer_answer, full_form, short_flags, short_form, proof_lengths, proof_form}
use Rattle.message.specs.declared.Role.{Role}
use Rattle.message.specs.declared.Role.TheVariants.{Cipher, GenerateMac, VerifyMac}
use Rattle.message.proofs.Slots.{role_15, pair_slots, wide_pair}
use Rattle.message.proofs.Written.{no_faults, messages_refused, proof_refused}
use Rattle.device.specs.Made.{made}
use Rattle.device.specs.Account.{Account, answer_by, perform}
use Rattle.device.specs.Outcome.{refused}
use Rattle.device.specs.declared.Device.{Device}
use Rattle.device.proofs.Account.{is_refused, not_long}
use Rattle.commands.specs.Checks.{slot_checks, Use, with_key}
use Rattle.commands.specs.Commands.{enc_ecb, dec_ecb, enc_cbc, dec_cbc, generate_mac, mac_agrees, verify_mac}

-- ---- the slot of a call that uses a key
not_zero : (a b : Bool) → cond a general_error (cond b general_error key_invalid) ≡ 0 → ⊥
not_zero true b e = omega (arith, e)
not_zero false true e = omega (arith, e)
not_zero false false e = omega (arith, e)

module _ (d : Device) (role : Role) (u : Use) where
  -- what is answered to a slot that is none
  turned_away : ℕ
  turned_away = cond (not (made d)) general_error (cond (not u.lengths) general_error key_invalid)

  no_slot : (slot : ℕ) → 15 ≤ slot → refused turned_away d u.lent ≡ perform (with_key slot role u) d
  unfolding answer_by turned_away
  no_slot slot h =
      is_refused (with_key slot role u) d turned_away (rw (sym (role_15 slot role h)) refl)
      (λ z. not_zero (not (made d)) (not u.lengths) z)

  pub wide_slot : (slot : ℕ) → perform (with_key (saturated 255 slot) role u) d ≡ perform (with_key slot role u) d
  wide_slot slot =
      saturates (λ (s : ℕ). perform (with_key s role u) d) 255 slot (λ h. sym (no_slot 255 (omega arith)) ∙ no_slot slot (omega arith))

-- so a command of a slot that is too wide does what it does of the largest byte
module _ (d : Device) (slot : ℕ) (input output : List ℕ) where
  pub wide_enc_ecb : perform (enc_ecb (saturated 255 slot) input output) d ≡ perform (enc_ecb slot input output) d
  unfolding enc_ecb
  wide_enc_ecb = wide_slot d Cipher (record { lent = _; brought = _; lengths = _; gives = λ key. (0, cipher key input ∷ []) }) slot

  pub wide_dec_ecb : perform (dec_ecb (saturated 255 slot) input output) d ≡ perform (dec_ecb slot input output) d
  unfolding dec_ecb
  wide_dec_ecb = wide_slot d Cipher (record { lent = _; brought = _; lengths = _; gives = λ key. (0, inv_cipher key input ∷ []) }) slot

  pub wide_enc_cbc : (iv : List ℕ) → perform (enc_cbc (saturated 255 slot) iv input output) d ≡ perform (enc_cbc slot iv input output) d
  unfolding enc_cbc
  wide_enc_cbc iv = wide_slot d Cipher (record { lent = _; brought = _; lengths = _; gives = λ key. (0, cbc_encrypt (cipher key) iv input ∷ []) }) slot

  pub wide_dec_cbc : (iv : List ℕ) → perform (dec_cbc (saturated 255 slot) iv input output) d ≡ perform (dec_cbc slot iv input output) d
  unfolding dec_cbc
  wide_dec_cbc iv = wide_slot d Cipher (record { lent = _; brought = _; lengths = _; gives = λ key. (0, cbc_decrypt (inv_cipher key) iv input ∷ []) }) slot

  pub wide_generate_mac : (bits : ℕ) → perform (generate_mac (saturated 255 slot) bits input output) d ≡ perform (generate_mac slot bits input output) d
  unfolding generate_mac
  wide_generate_mac bits = wide_slot d GenerateMac (record { lent = _; brought = _; lengths = _; gives = λ key. (0, cmac (cipher key) bits input ∷ []) }) slot

-- ---- the length of a MAC, 0 to 127
module _ (d : Device) (slot : ℕ) (role : Role) (lent brought : List (List ℕ)) (lengths : Bool) (gives : ℕ → List ℕ → ℕ × List (List ℕ)) where
  abbrev call : ℕ → Account
  call n = with_key slot role (record { lent = lent; brought = brought; lengths = lengths && leb n 127; gives = gives n })

  too_long : (n : ℕ) → 127 < n → refused general_error d lent ≡ perform (call n) d
  too_long n h =
      is_refused (call n) d general_error
      (sym (not_long d (lengths && leb n 127) (slot_checks d slot role)
      (ap (λ (b : Bool). lengths && b) (lt-leb n 127 h) ∙ and-false lengths)))
      (λ z. absurd (omega arith))

  pub wide_length : (n : ℕ) → perform (call (saturated 255 n)) d ≡ perform (call n) d
  wide_length n = saturates (λ (m : ℕ). perform (call m) d) 255 n (λ h. sym (too_long 255 (omega arith)) ∙ too_long n (omega arith))

pub wide_verify_mac : (d : Device) (slot bits : ℕ) (message mac : List ℕ) (n : ℕ)
    → perform (verify_mac (saturated 255 slot) bits message mac (saturated 255 n)) d ≡ perform (verify_mac slot bits message mac n) d
unfolding verify_mac
wide_verify_mac d slot bits message mac n =
    let gives : ℕ → List ℕ → ℕ × List (List ℕ)
    = λ (m : ℕ) (key : List ℕ). (bool_byte (mac_agrees m (cmac (cipher key) bits message) mac), []) in
    wide_slot d VerifyMac (record { lent = _; brought = _; lengths = _; gives = gives (saturated 255 n) }) slot
    ∙ wide_length d slot VerifyMac _ _ (cmac_lengths 16 bits (length message) (length mac)) gives n

-- ---- the numbers of a key message: counter, flags and the two slots
abbrev limit32 : ℕ
limit32 = 0xffffffff

wide_answer : (lengths : Bool) (c f t a : ℕ)
    → writer_answer lengths (saturated limit32 c) (saturated 255 f) (saturated 255 t) (saturated 255 a)
    ≡ writer_answer lengths c f t a
unfolding writer_answer
wide_answer lengths c f t a =
    rw (wide_test limit32 max_counter c (omega arith), wide_test 255 31 f (omega arith), wide_pair t a) refl

-- numbers that are answered 0 fit
all_fit : (lengths : Bool) (c f t a : ℕ) → writer_answer lengths c f t a ≡ 0
    → (saturated limit32 c ≡ c) × (saturated 255 f ≡ f) × (saturated 255 t ≡ t) × (saturated 255 a ≡ a)
all_fit lengths c f t a e =
    let fine = no_faults lengths c f t a e in
    let slots = pair_slots t a fine.3 in
    let counter = fitting limit32 c (omega (arith, fine.1)) in
    let flags = fitting 255 f (omega (arith, fine.2)) in
    (counter, flags, fitting 255 t (omega (arith, slots.1)), fitting 255 a (omega (arith, slots.2)))

pub wide_form : (uid auth_key key b1 b2 b3 : List ℕ) (t a c f : ℕ)
    → full_form uid (saturated 255 t) (saturated 255 a) auth_key (saturated limit32 c) (saturated 255 f) key b1 b2 b3
    ≡ full_form uid t a auth_key c f key b1 b2 b3
wide_form uid auth_key key b1 b2 b3 t a c f =
    let lengths = right_lengths (message_lengths (length uid) (length auth_key) (length key) (length b1) (length b2) (length b3)) in
    let answer = writer_answer lengths c f t a in
    by_answer_lem answer
    (λ zero. let fit = all_fit lengths c f t a zero in rw (fit.0, fit.1, fit.2, fit.3) refl)
    (λ other. sym (messages_refused uid auth_key key b1 b2 b3 _ _ _ _ answer (sym (wide_answer lengths c f t a)) other)
    ∙ messages_refused uid auth_key key b1 b2 b3 t a c f answer refl other)

pub wide_short : (uid auth_key key b1 b2 b3 : List ℕ) (t a c : ℕ)
    → short_form uid (saturated 255 t) (saturated 255 a) auth_key (saturated limit32 c) key b1 b2 b3
    ≡ short_form uid t a auth_key c key b1 b2 b3
wide_short uid auth_key key b1 b2 b3 t a c =
    ap (λ (f : ℕ). full_form uid (saturated 255 t) (saturated 255 a) auth_key (saturated limit32 c) f key b1 b2 b3)
    (sym (fitting 255 short_flags (omega arith)))
    ∙ wide_form uid auth_key key b1 b2 b3 t a c short_flags

pub wide_proof : (uid key b4 b5 : List ℕ) (t a c : ℕ)
    → proof_form uid (saturated 255 t) (saturated 255 a) (saturated limit32 c) key b4 b5 ≡ proof_form uid t a c key b4 b5
wide_proof uid key b4 b5 t a c =
    let lengths = right_lengths (proof_lengths (length uid) (length key) (length b4) (length b5)) in
    let answer = writer_answer lengths c 0 t a in
    let same = sym (wide_answer lengths c 0 t a)
    ∙ ap (λ (f : ℕ). writer_answer lengths (saturated limit32 c) f (saturated 255 t) (saturated 255 a)) (fitting 255 0 (omega arith)) in
    by_answer_lem answer
    (λ zero. let fit = all_fit lengths c 0 t a zero in rw (fit.0, fit.2, fit.3) refl)
    (λ other. sym (proof_refused uid key b4 b5 _ _ _ answer same other) ∙ proof_refused uid key b4 b5 t a c answer refl other)

-- what the proofs of the calls in place use
pub ruleset wide_laws =
    (wide_enc_ecb, wide_dec_ecb, wide_enc_cbc, wide_dec_cbc, wide_generate_mac, wide_verify_mac, wide_form, wide_short, wide_proof)
