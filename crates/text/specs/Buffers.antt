-- The front of a buffer: that it has one of so many bytes, and a text put over it.
-- Assumes nothing.
use Rattle.std.specs.Prelude.{◌≡◌, List, ◌++◌, ℕ, ◌≤◌, length, take, drop}

-- what the prover asks of `&buffer[..size]`; the second part follows from the first
abbrev pub HasFront : ℕ → List ℕ → Type 0
HasFront size buffer = (size ≤ length buffer) × (size ≡ length (take size buffer))

-- as far as there is room
unfoldable pub over : List ℕ → List ℕ → List ℕ
over text buffer = take (length buffer) text ++ drop (length text) buffer
