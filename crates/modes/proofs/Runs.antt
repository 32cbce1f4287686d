-- A loop that goes through the blocks of a text and writes one for each, for whatever is computed of each block. It keeps "what is
-- written of the first blocks, and what the others give, is the whole". One that only carries is told in `Folds`.
-- Assumes nothing.
use mathlib.Core.Path.{◌≡◌, sym, ap, ◌∙◌}
use mathlib.Core.List.{List, [], ◌∷◌, ◌++◌, append-nil, append_assoc, flatten}
use Prim.Native.Nat.{ℕ, suc, ◌+◌, ◌*◌, ◌≤◌, ◌<◌}
use native.Mathlib.Omega.{arith}
use lib.ListN.{length, take, drop, get_or, drop_of_length-le, length-append}
use lib.Seq.{take_all, take_at, drop-cons, length-take-le}
use Rattle.modes.specs.Blocks.{outputs}
use Rattle.modes.proofs.Blocks.{chunks}

-- of the first i blocks, by all rules that a step keeps to, which may give of what is carried and of a block the block to write and what
-- to carry on
abbrev pub Runs : (List ℕ → List ℕ → List ℕ × List ℕ → Type 0) → List (List ℕ) → List ℕ → List ℕ → List ℕ → ℕ → Type 0
Runs gives blocks start c written i =
    (out next : List ℕ → List ℕ → List ℕ) → ((c x : List ℕ) (r : List ℕ × List ℕ) → gives c x r → r ≡ (out c x, next c x))
    → take (16 * i) written ++ flatten (outputs out next c (drop i blocks)) ≡ flatten (outputs out next start blocks)

-- what a block gives and those after it, and what none gives
module _ (out next : List ℕ → List ℕ → List ℕ) (c : List ℕ) (blocks : List (List ℕ)) (i : ℕ) where
  pub run_turn : i < length blocks
      → flatten (outputs out next c (drop i blocks))
      ≡ out c (get_or blocks i []) ++ flatten (outputs out next (next c (get_or blocks i [])) (drop (i + 1) blocks))
  unfolding flatten outputs
  run_turn more =
      let one : suc i ≡ i + 1 = omega arith in
      ap (λ (b : List (List ℕ)). flatten (outputs out next c b)) (drop-cons blocks i [] more ∙ ap (λ (n : ℕ). get_or blocks i [] ∷ drop n blocks) one)

  pub run_end : length blocks ≤ i → flatten (outputs out next c (drop i blocks)) ≡ []
  unfolding flatten outputs
  run_end none = ap (λ (b : List (List ℕ)). flatten (outputs out next c b)) (drop_of_length-le blocks none)

-- a block copied into a text at `at`: up to its end there is what was before it, and the block
pub block_put : (text copy rest : List ℕ) (at end : ℕ) → at ≤ length text → length copy ≡ 16 → end ≡ at + 16
    → take end (take at text ++ (copy ++ rest)) ≡ take at text ++ copy
block_put text copy rest at end room long e =
    ap (take end) (sym (append_assoc (take at text) copy rest))
    ∙ take_at (take at text ++ copy) rest end (omega (arith, length-append (take at text) copy, length-take-le at text room, long))

pub ruleset runs = (run_turn, run_end, block_put, append_assoc, append-nil, take_all, chunks)
