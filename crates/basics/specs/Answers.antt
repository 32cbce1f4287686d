-- The numbers of the answers; an answer by its order: checks, each with the number that it answers where it finds fault; and a
-- buffer after the answer. A number of the paper's table that nothing answers yet has no name here.
-- Assumes nothing.
use Rattle.std.specs.Prelude.{Bool, cond, List, [], ◌∷◌, ℕ, eqb, Result, Ok, Err}
use Rattle.basics.specs.declared.Refusal.{Refusal}
use Rattle.basics.specs.declared.Refusal.TheVariants.{SequenceError, KeyNotAvailable, KeyInvalid, KeyEmpty, NoSecureBoot, KeyWriteProtected, KeyUpdateError, RngSeed, GeneralError}

-- done
abbrev pub no_error : ℕ
no_error = 0

-- a second INIT_RNG or SECURE_BOOT since reset; a boot check that is finished already
abbrev pub sequence_error : ℕ
sequence_error = 1

-- slot locked
abbrev pub key_not_available : ℕ
key_not_available = 2

-- no such slot, wrong role, wrong pair
abbrev pub key_invalid : ℕ
key_invalid = 3

-- slot empty
abbrev pub key_empty : ℕ
key_empty = 4

-- no key to check the bootloader with; no boot check whose end could be told
abbrev pub no_secure_boot : ℕ
no_secure_boot = 5

-- target has WRITE set
abbrev pub key_write_protected : ℕ
key_write_protected = 6

-- message refused
abbrev pub key_update_error : ℕ
key_update_error = 7

-- RND or EXTEND_SEED before INIT_RNG
abbrev pub rng_seed : ℕ
rng_seed = 8

-- wrong length, not made
abbrev pub general_error : ℕ
general_error = 12

-- the number of each refusal
abbrev pub number_of : Refusal → ℕ
number_of SequenceError = sequence_error
number_of KeyNotAvailable = key_not_available
number_of KeyInvalid = key_invalid
number_of KeyEmpty = key_empty
number_of NoSecureBoot = no_secure_boot
number_of KeyWriteProtected = key_write_protected
number_of KeyUpdateError = key_update_error
number_of RngSeed = rng_seed
number_of GeneralError = general_error

-- the number of an answer: 0 where a call did what it was asked to
abbrev pub answer_of : {A : Type 0} → Result A Refusal → ℕ
answer_of (Ok x) = no_error
answer_of (Err refusal) = number_of refusal

-- the number of the first check that finds fault, and 0 where none does
abbrev pub first_fault : List (Bool × ℕ) → ℕ
first_fault [] = no_error
first_fault (check ∷ checks) = cond check.0 check.1 (first_fault checks)

-- a buffer holds what is written to it where the answer is 0, and what it held where it is any other
unfoldable pub written : ℕ → List ℕ → List ℕ → List ℕ
written answer result before = cond (eqb answer no_error) result before
