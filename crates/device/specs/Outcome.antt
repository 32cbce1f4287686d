-- What a command leaves: the answer's number, the device, a verdict or a status (0 where the command has none), and the lent
-- buffers that it writes to, in their order.
-- Assumes nothing.
use Rattle.std.specs.Prelude.{cond, List, ℕ, eqb}
use Rattle.basics.specs.Answers.{no_error}
use Rattle.device.specs.declared.Device.{Device}

pub record Outcome : Type 0 where
  pub answer : ℕ
  pub device : Device
  pub value : ℕ
  pub buffers : List (List ℕ)

abbrev pub outcome : ℕ → Device → ℕ → List (List ℕ) → Outcome
outcome answer d value buffers = record { answer = answer; device = d; value = value; buffers = buffers }

-- any answer but 0 leaves each lent buffer unchanged, and the verdict or status is 0
abbrev pub refused : ℕ → Device → List (List ℕ) → Outcome
refused answer d before = outcome answer d 0 before

abbrev pub done : Device → ℕ → List (List ℕ) → Outcome
done d value after = outcome no_error d value after

-- a success where the answer is 0, and a refusal where it is any other
unfoldable pub by_answer : ℕ → Outcome → Outcome → Outcome
by_answer answer success refusal = cond (eqb answer no_error) success refusal
