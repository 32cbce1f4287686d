-- The flags of a key, and their places in a number of flags.
-- Assumes nothing.
use Rattle.std.specs.Prelude.{ℕ}

-- how many there are, in the order WRITE, BOOT, DEBUGGER, KEY_USAGE, WILDCARD
abbrev pub flag_count : ℕ
flag_count = 5

abbrev pub write : ℕ
write = 16

abbrev pub boot : ℕ
boot = 8

abbrev pub debugger : ℕ
debugger = 4

abbrev pub key_usage : ℕ
key_usage = 2

abbrev pub wildcard : ℕ
wildcard = 1
