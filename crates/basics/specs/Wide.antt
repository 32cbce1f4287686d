-- Wide numbers on their way to a narrower place.
-- Assumes nothing.
use Rattle.std.specs.Prelude.{cond, ℕ, leb}

-- a number in a place whose largest is `limit`
unfoldable pub saturated : ℕ → ℕ → ℕ
saturated limit number = cond (leb number limit) number limit
