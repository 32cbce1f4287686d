-- What a check that found no fault tells: the lengths are right. `passed` is what the proofs of all commands use.
-- Assumes nothing.
use mathlib.Core.Path.{◌≡◌, sym}
use mathlib.Core.Bool.{Bool, true}
use mathlib.Core.List.{List, append-nil}
use Prim.Native.Nat.{ℕ}
use Rattle.basics.specs.Answers.{no_error}
use Rattle.basics.proofs.Bytes.{block_long, block_whole}
use Rattle.modes.proofs.Lent.{cmac_facts}
use Rattle.device.specs.Account.{answer_by}
use Rattle.device.specs.declared.Device.{Device}
use Rattle.device.proofs.Account.{made_and_long}

pub lengths_right : (d : Device) (lengths : Bool) (own : List (Bool × ℕ)) → no_error ≡ answer_by d lengths own → lengths ≡ true
lengths_right d lengths own e = (made_and_long d lengths own (sym e)).1

-- with that a text of 16 bytes is its own block, that a MAC's lengths say how long each is, and that nothing comes after two blocks
pub ruleset passed = (lengths_right, cmac_facts, append-nil)
