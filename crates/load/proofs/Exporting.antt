-- EXPORT_RAM_KEY: that its pair is allowed, and that what it writes is never refused.
-- Assumes nothing.
use mathlib.Core.Path.{◌≡◌, refl}
use mathlib.Core.Bool.{true}
use Prim.Native.Nat.{ℕ}
use Rattle.laws.specs.Ranges.{row_of}
use Rattle.basics.proofs.Faults.{never_zero}
use Rattle.message.specs.Slots.{allowed, counter_kept}
use Rattle.device.specs.Record.{secret_key, ram_key}
use Rattle.load.proofs.Writing.{messages_taken, proof_taken}

-- RAM_KEY by SECRET_KEY is a pair, and RAM_KEY keeps no counter
pub ram_by_secret : allowed ram_key secret_key ≡ true
unfolding allowed row_of
ram_by_secret = refl

pub ram_counter : (c : ℕ) → counter_kept ram_key c ≡ 0
unfolding counter_kept row_of
ram_counter c = refl

pub ruleset exporting = (ram_by_secret, ram_counter, messages_taken, proof_taken, never_zero)
