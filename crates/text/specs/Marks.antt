-- A text that marks part: where the first of them stands, what stands before it, and what comes after it.
-- Assumes nothing.
use Rattle.std.specs.Prelude.{List, ℕ, ◌+◌, eqb, take, drop}
use Rattle.std.specs.List.{position_or_len}

-- the first place at which the mark stands, or the length where it stands nowhere
unfoldable pub index_of : ℕ → List ℕ → ℕ
index_of mark text = position_or_len (λ c. eqb c mark) text

-- all where there is none
unfoldable pub before_mark : ℕ → List ℕ → List ℕ
before_mark mark text = take (index_of mark text) text

-- nothing where there is none
unfoldable pub after_mark : ℕ → List ℕ → List ℕ
after_mark mark text = drop (index_of mark text + 1) text
