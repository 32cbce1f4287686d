-- The first block of M2: 28 bits of counter, then n flags, then zeros, 128 bits in all. As one number of 128 bits, the first
-- bit the most significant: the counter stands 100 bits to the left, and the flags, as a number whose highest bit is the first
-- flag, as many bits as come after them.
-- Assumes nothing.
use Rattle.std.specs.Prelude.{List, ℕ, ◌+◌, ◌-◌, ◌*◌, ◌/◌, ◌%◌, ◌^◌}
use Rattle.modes.specs.Number.{number, in_bytes}

-- the largest counter
abbrev pub max_counter : ℕ
max_counter = 268435455

unfoldable pub first_block : ℕ → ℕ → ℕ → List ℕ
first_block n counter flags = in_bytes 16 (counter * 2 ^ 100 + flags * 2 ^ (100 - n))

-- and read back: the counter, the flags, and what stands after them
unfoldable pub counter_of : List ℕ → ℕ
counter_of block = number block / 2 ^ 100

unfoldable pub flags_of : ℕ → List ℕ → ℕ
flags_of n block = number block / 2 ^ (100 - n) % 2 ^ n

unfoldable pub filler_of : ℕ → List ℕ → ℕ
filler_of n block = number block % 2 ^ (100 - n)

-- M4's clear block: 28 bits of counter, one 1 bit, 99 zeros
abbrev pub proof_block : ℕ → List ℕ
proof_block counter = first_block 1 counter 1
