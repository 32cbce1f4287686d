-- The first demand: any command with any bytes ends in an answer from the paper's table; a bad slot number, length or state is
-- refused by the device itself; a refusal changes neither the device nor any buffer lent to it.
-- Assumes nothing.
use Rattle.std.specs.Prelude.{◌≡◌, true, false, List, [], ◌∷◌, ◌↔◌, ℕ, ◌<◌, length}
use Rattle.laws.specs.Among.{Among}
use Rattle.aes.specs.State.{Bytes}
use Rattle.basics.specs.Answers.{no_error, general_error, key_invalid, sequence_error, key_not_available, key_empty, no_secure_boot, key_write_protected, key_update_error, rng_seed}
use Rattle.basics.specs.Bytes.{zero_uid}
use Rattle.device.specs.Made.{made, blank, fresh, Sound}
use Rattle.device.specs.Account.{names, answer_to}
use Rattle.device.specs.Outcome.{Outcome, refused, done}
use Rattle.device.specs.Record.{ram_key}
use Rattle.device.specs.declared.Device.{Device}
use Rattle.demands.specs.Calls.{Call, account, Machine}

-- the numbers of the paper's table that are given: of its thirteen, three are not yet (9, 10, 11)
abbrev pub table : List ℕ
table =
    no_error
    ∷ sequence_error
    ∷ key_not_available
    ∷ key_invalid
    ∷ key_empty
    ∷ no_secure_boot
    ∷ key_write_protected
    ∷ key_update_error
    ∷ rng_seed
    ∷ general_error
    ∷ []

-- for any record, and any call with any bytes
pub record Demand1 (n : ℕ) (machine : Machine) : Type 0 where
  pub from_the_table : (d : Device) (call : Call) → Among (machine d call).answer table
  -- the first number that the order gives, and 0 where none applies: there is no other reason to refuse
  pub by_the_order : (d : Device) (call : Call) → (machine d call).answer ≡ answer_to (account n call) d
  -- a bad state, a bad length, a bad slot number: on a record that is not made every call answers 12
  pub not_made : (d : Device) (call : Call) → made d ≡ false → (machine d call).answer ≡ general_error
  pub wrong_length : (d : Device) (call : Call) → (account n call).lengths ≡ false → (machine d call).answer ≡ general_error
  pub no_such_slot : (d : Device) (call : Call) (slot : ℕ) → made d ≡ true → (account n call).lengths ≡ true
      → Among slot (names (account n call)) → ram_key < slot → (machine d call).answer ≡ key_invalid
  -- the device and each lent buffer are as they were, and the verdict or status is 0
  pub refusal_changes_nothing : (d : Device) (call : Call) → ((machine d call).answer ≡ no_error → ⊥)
      → machine d call ≡ refused (machine d call).answer d (account n call).lent

-- ---- making, which is given no record and hands out a new one: with right lengths and a UID that isn't zero, and then only,
-- it hands out a made device; otherwise it answers 12 with the blank one, on which every call answers 12
pub record Making (maker : List ℕ → List ℕ → List ℕ → Outcome) : Type 0 where
  pub exactly_when : (uid secret seed : List ℕ)
      → ((maker uid secret seed).answer ≡ no_error)
      ↔ ((length uid ≡ 15) × (length secret ≡ 16) × (length seed ≡ 16) × (uid ≡ zero_uid → ⊥))
  pub makes : (uid secret seed : List ℕ) → Bytes secret → (maker uid secret seed).answer ≡ no_error
      → (maker uid secret seed ≡ done (fresh uid secret seed) 0 []) × Sound (fresh uid secret seed)
  pub blank_otherwise : (uid secret seed : List ℕ) → ((maker uid secret seed).answer ≡ no_error → ⊥)
      → maker uid secret seed ≡ refused general_error blank []
  pub blank_is_not_made : made blank ≡ false
