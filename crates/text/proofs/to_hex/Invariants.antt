-- `text::to_hex`: the digits so far stand over the buffer.
-- Assumes nothing.
use lib.ListN.{take}
use mathlib.Core.Path.{◌≡◌}
use Rattle.text.specs.Buffers.{over}
use Rattle.text.specs.Hex.{in_digits}
use Rattle.text.proofs.to_hex.Given as goal

abbrev pub invariant-loop-i : goal.invariant-loop-i
invariant-loop-i l = l.digits ≡ over (take l.i (in_digits l.bytes)) l.initial.digits
