-- `text::from_hex`: the digits that were read, and their bytes over the buffer.
-- Assumes nothing.
use Prim.Native.Nat.{◌≤◌, ◌<◌}
use lib.ListN.{take}
use Rattle.text.proofs.Digits.{Read}
use Rattle.text.specs.Hex.{digits_in}
use Rattle.text.proofs.from_hex.Given as goal

abbrev pub invariant-loop-c : goal.invariant-loop-c
invariant-loop-c l = (l.count ≤ l.c-index) × (l.high < 16) × Read l.initial.bytes l.bytes (digits_in (take l.c-index l.text)) l.count l.high
