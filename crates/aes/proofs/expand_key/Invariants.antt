use mathlib.Core.Path.{◌≡◌}
use Prim.Native.Nat.{◌-◌, ◌*◌}
use lib.ListN.{length, take}
use Rattle.aes.specs.Schedule.{more_words}
use Rattle.aes.proofs.expand_key.Given as goal

abbrev pub invariant-loop-i : goal.invariant-loop-i
invariant-loop-i l = (length l.w ≡ 176) × (more_words (44 - l.i) l.i (take (4 * l.i) l.w) ≡ more_words 40 4 (take 16 l.initial.w))
