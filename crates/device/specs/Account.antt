-- The account of a call: all that there is to say of a command with the numbers and buffers that it is given. What it leaves, of
-- any record, is `perform` of its account.
-- Assumes nothing.
use Rattle.std.specs.Prelude.{Bool, not, List, [], ◌∷◌, ◌++◌, ℕ, get_or}
use Rattle.aes.specs.State.{Bytes}
use Rattle.basics.specs.Answers.{general_error, first_fault}
use Rattle.device.specs.Made.{made}
use Rattle.device.specs.Outcome.{Outcome, refused, done, by_answer}
use Rattle.device.specs.declared.Device.{Device}

pub record Account : Type 0 where
  -- the buffers that it lends to be written to, and those that it brings to be read
  pub lent : List (List ℕ)
  pub brought : List (List ℕ)
  -- whether all lengths are right
  pub lengths : Bool
  -- the slots whose keys it uses, and must not while they are locked; those that it loads; and those that it fills where they are
  -- empty
  pub uses : List ℕ
  pub loads : List ℕ
  pub fills : List ℕ
  -- its own checks in their order, each with the number that it answers where it finds fault
  pub checks : Device → List (Bool × ℕ)
  -- the device that a refusal with a number leaves
  pub refusal : ℕ → Device → Device
  -- what it does where no check finds fault: the device after it, the verdict or status, and the buffers that were lent
  pub does : Device → Device × ℕ × List (List ℕ)

-- the slots that it names, to use, as target or as authority
abbrev pub names : Account → List ℕ
names call = call.uses ++ call.loads

-- ---- a call that names no slot and loads none, and whose refusal leaves the device as it was
abbrev pub unchanged : ℕ → Device → Device
unchanged answer d = d

pub record Command : Type 0 where
  pub lent : List (List ℕ)
  pub brought : List (List ℕ)
  pub lengths : Bool
  pub checks : Device → List (Bool × ℕ)
  pub does : Device → Device × ℕ × List (List ℕ)

abbrev pub command : Command → Account
command c =
    record {
      lent = c.lent;
      brought = c.brought;
      lengths = c.lengths;
      uses = [];
      loads = [];
      fills = [];
      checks = c.checks;
      refusal = unchanged;
      does = c.does;
    }

-- ---- by the order of every call, the first number that it gives: not made; lengths; then the call's own checks
unfoldable pub answer_by : Device → Bool → List (Bool × ℕ) → ℕ
answer_by d lengths own = first_fault ((not (made d), general_error) ∷ (not lengths, general_error) ∷ own)

abbrev pub answer_to : Account → Device → ℕ
answer_to call d = answer_by d call.lengths (call.checks d)

abbrev pub success : Account → Device → Outcome
success call d = done (call.does d).0 (call.does d).1 (call.does d).2

-- where none applies it does what it does; there is no other reason to refuse
unfoldable pub perform : Account → Device → Outcome
perform call d =
    by_answer (answer_to call d) (success call d) (refused (answer_to call d) (call.refusal (answer_to call d) d) call.lent)

-- ---- what the types say of a call, for theorems: the buffers that it brings hold bytes
abbrev pub BringsBytes : Account → Type 0
BringsBytes call = (k : ℕ) → Bytes (get_or call.brought k [])
