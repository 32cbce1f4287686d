-- What the layer for C adds to the core: making over a record.
-- Assumes nothing.
use Rattle.std.specs.Prelude.{List, [], ℕ, length}
use Rattle.device.specs.Made.{fresh}
use Rattle.device.specs.Outcome.{Outcome, refused, done, by_answer}
use Rattle.device.specs.declared.Device.{Device}
use Rattle.commands.specs.Commands.{make_answer}

-- making over a record: it holds the device that was made where the answer is 0, and what it held where it is any other
unfoldable pub make_anew : Device → List ℕ → List ℕ → List ℕ → Outcome
make_anew before uid secret seed =
    let answer = make_answer uid (length secret) (length seed) in
    by_answer answer (done (fresh uid secret seed) 0 []) (refused answer before [])
