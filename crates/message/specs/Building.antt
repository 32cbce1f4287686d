-- What is said of building: whom M1 names, and what a message can carry.
-- Assumes nothing.
use Rattle.std.specs.Prelude.{List, ℕ, ◌^◌, ◌≤◌, ◌<◌, take}
use Rattle.aes.specs.State.{byte, Block}
use Rattle.message.specs.FirstBlock.{max_counter}
use Rattle.message.specs.Messages.{target_in, authority_in}

abbrev pub uid_of : List ℕ → List ℕ
uid_of m1 = take 15 m1

abbrev pub target_of : List ℕ → ℕ
target_of m1 = target_in (byte m1 15)

abbrev pub authority_of : List ℕ → ℕ
authority_of m1 = authority_in (byte m1 15)

-- a counter of 28 bits, n flags, and a key of 16 bytes
pub record Carried (n counter flags : ℕ) (key : List ℕ) : Type 0 where
  pub counter_fits : counter ≤ max_counter
  pub flags_fit : flags < 2 ^ n
  pub key_fits : Block key
