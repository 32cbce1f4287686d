use mathlib.Core.Path.{◌≡◌}
use Prim.Native.Nat.{◌-◌}
use Rattle.aes.specs.Cipher.{inv_rounds}
use Rattle.aes.proofs.decrypt_with.Given as goal

abbrev pub invariant-loop-r : goal.invariant-loop-r
invariant-loop-r l = inv_rounds (l.r - 1) l.w l.s ≡ inv_rounds 9 l.w l.initial.s
