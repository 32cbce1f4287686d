-- The writer of key messages on the sender's side: what each of its forms leaves, for buffers of any lengths and any numbers.
-- Assumes nothing.
use Rattle.std.specs.Prelude.{Bool, not, List, [], ◌∷◌, ℕ, ◌-◌, ◌^◌, leb, length, replicate}
use Rattle.laws.specs.Lengths.{right_lengths}
use Rattle.basics.specs.Answers.{general_error, key_invalid, first_fault, written}
use Rattle.message.specs.Flags.{flag_count}
use Rattle.message.specs.FirstBlock.{max_counter}
use Rattle.message.specs.Messages.{build, m4, m5}
use Rattle.message.specs.Slots.{counter_kept, allowed}

-- UID' 15 bytes, the two keys 16 each; M1, M2 and M3 have room for 16, 32 and 16
abbrev pub message_lengths : ℕ → ℕ → ℕ → ℕ → ℕ → ℕ → List (ℕ × ℕ)
message_lengths uid auth_key key m1 m2 m3 = (uid, 15) ∷ (auth_key, 16) ∷ (key, 16) ∷ (m1, 16) ∷ (m2, 32) ∷ (m3, 16) ∷ []

-- in the order 12, 3: a wrong length, a counter above 268,435,455, flags above 31; a pair that is not allowed
unfoldable pub writer_answer : Bool → ℕ → ℕ → ℕ → ℕ → ℕ
writer_answer lengths counter flags target authority =
    first_fault
    ((not lengths, general_error)
    ∷ (not (leb counter max_counter), general_error)
    ∷ (not (leb flags (2 ^ flag_count - 1)), general_error)
    ∷ (not (allowed target authority), key_invalid)
    ∷ [])

-- what is left: the answer, and the three buffers
pub record Messages : Type 0 where
  pub answer : ℕ
  pub m1 : List ℕ
  pub m2 : List ℕ
  pub m3 : List ℕ

abbrev pub messages : ℕ → List ℕ → List ℕ → List ℕ → Messages
messages answer m1 m2 m3 = record { answer = answer; m1 = m1; m2 = m2; m3 = m3 }

-- the full form
unfoldable pub full_form : List ℕ → ℕ → ℕ → List ℕ → ℕ → ℕ → List ℕ → List ℕ → List ℕ → List ℕ → Messages
full_form uid target authority auth_key counter flags key before1 before2 before3 =
    let lengths = message_lengths (length uid) (length auth_key) (length key) (length before1) (length before2) (length before3) in
    let answer = writer_answer (right_lengths lengths) counter flags target authority in
    let built = build flag_count uid target authority auth_key counter flags key in
    messages answer (written answer built.m1 before1) (written answer built.m2 before2) (written answer built.m3 before3)

-- the short form: no flags are asked for, and 00000 is written
abbrev pub short_flags : ℕ
short_flags = 0

abbrev pub short_form : List ℕ → ℕ → ℕ → List ℕ → ℕ → List ℕ → List ℕ → List ℕ → List ℕ → Messages
short_form uid target authority auth_key counter key = full_form uid target authority auth_key counter short_flags key

-- the fleet sheet: the short form with a UID' of zeros
abbrev pub fleet_sheet : ℕ → ℕ → List ℕ → ℕ → List ℕ → List ℕ → List ℕ → List ℕ → Messages
fleet_sheet target authority auth_key counter key = short_form (replicate 15 0) target authority auth_key counter key

-- ---- the proof that a device of a UID gives
-- UID 15 bytes, the new key 16; M4 and M5 have room for 32 and 16
abbrev pub proof_lengths : ℕ → ℕ → ℕ → ℕ → List (ℕ × ℕ)
proof_lengths uid key m4 m5 = (uid, 15) ∷ (key, 16) ∷ (m4, 32) ∷ (m5, 16) ∷ []

pub record Proof : Type 0 where
  pub answer : ℕ
  pub m4 : List ℕ
  pub m5 : List ℕ

abbrev pub proof : ℕ → List ℕ → List ℕ → Proof
proof answer m4 m5 = record { answer = answer; m4 = m4; m5 = m5 }

-- the same order of checks; there are no flags in it, and the counter is that which the target keeps
unfoldable pub proof_form : List ℕ → ℕ → ℕ → ℕ → List ℕ → List ℕ → List ℕ → Proof
proof_form uid target authority counter key before4 before5 =
    let lengths = proof_lengths (length uid) (length key) (length before4) (length before5) in
    let answer = writer_answer (right_lengths lengths) counter 0 target authority in
    let fourth = m4 uid target authority (counter_kept target counter) key in
    proof answer (written answer fourth before4) (written answer (m5 key fourth) before5)
