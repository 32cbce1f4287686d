-- The state of FIPS 197, 3.4: 16 bytes, the byte of row r and column c at r + 4 c, so that a block is its state.
-- Assumes nothing.
use Rattle.std.specs.Prelude.{◌≡◌, List, ℕ, ◌<◌, get_or, length}
use Rattle.laws.specs.Tabulate.{tabulate}

-- byte i of a list of bytes
abbrev pub byte : List ℕ → ℕ → ℕ
byte s i = get_or s i 0

-- the state whose byte i is f i
abbrev pub state : (ℕ → ℕ) → List ℕ
state f = tabulate 16 f

-- every number of the list is a byte
abbrev pub Bytes : List ℕ → Type 0
Bytes s = (i : ℕ) → byte s i < 256

-- a block, a key or a state: 16 bytes
pub record Block (s : List ℕ) : Type 0 where
  pub long : length s ≡ 16
  pub small : Bytes s
