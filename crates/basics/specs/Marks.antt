-- Marks: each is a byte that is on or off.
-- Assumes nothing.
use Rattle.std.specs.Prelude.{Bool, ℕ, eqb, leb}

abbrev pub off : ℕ
off = 0

abbrev pub on : ℕ
on = 1

abbrev pub is_on : ℕ → Bool
is_on mark = eqb mark on

-- the mark is on or off
abbrev pub is_mark : ℕ → Bool
is_mark mark = leb mark on
