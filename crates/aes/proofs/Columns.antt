-- The two mixings of a column: each undoes the other, and how the engine computes them. All are sums of doublings. With the
-- coefficients as sums of doublings, all four facts are equal sums: each mixing undoes the other, and what the engine
-- computes is each mixing. They are found by `simp linear`, one rule set that brings any sum of products and doublings into
-- one order. There is no test over columns.
-- Assumes nothing.
use mathlib.Core.Path.{◌≡◌, ap, ◌∙◌}
use mathlib.Core.List.{List, [], ◌∷◌}
use Prim.Native.Nat.{ℕ, ◌<◌}
use Rattle.laws.specs.Xor.{◌xor◌}
use Rattle.laws.proofs.Xor.{sums, xor_byte}
use Rattle.field.specs.Field.{xtime, mul}
use Rattle.field.proofs.Laws.{linear, mul_byte}
use Rattle.aes.specs.State.{byte, Bytes}
use Rattle.aes.specs.Engine.{on_column}
use Rattle.aes.specs.Steps.{matrix, mix_column, inv_mix_column}
use Rattle.aes.proofs.Bytes.{four_bytes}

-- the first byte of the column that a mixing gives; each other is the first on the column turned
abbrev first : (ℕ → ℕ → ℕ → ℕ → List ℕ) → ℕ → ℕ → ℕ → ℕ → ℕ
first f a b c d = byte (f a b c d) 0

abbrev Turns : (ℕ → ℕ → ℕ → ℕ → List ℕ) → Type 0
Turns f = (a b c d : ℕ) → f a b c d ≡ first f a b c d ∷ first f b c d a ∷ first f c d a b ∷ first f d a b c ∷ []

matrix_turns : (a0 a1 a2 a3 : ℕ) → Turns (matrix a0 a1 a2 a3)
unfolding matrix
matrix_turns a0 a1 a2 a3 a b c d = simp sums

-- so that a mixing undoes another where it brings the first byte back
column_back : (f g : ℕ → ℕ → ℕ → ℕ → List ℕ) → Turns f → Turns g
    → ((a b c d : ℕ) → first g (first f a b c d) (first f b c d a) (first f c d a b) (first f d a b c) ≡ a)
    → (a b c d : ℕ) → on_column g (f a b c d) ≡ a ∷ b ∷ c ∷ d ∷ []
column_back f g turns-f turns-g back a b c d =
    ap (on_column g) (turns-f a b c d)
    ∙ turns-g (first f a b c d) (first f b c d a) (first f c d a b) (first f d a b c)
    ∙ (λ i. back a b c d i ∷ back b c d a i ∷ back c d a b i ∷ back d a b c i ∷ [])

first_undo : (a b c d : ℕ)
    → first inv_mix_column (first mix_column a b c d) (first mix_column b c d a) (first mix_column c d a b) (first mix_column d a b c) ≡ a
unfolding matrix
first_undo a b c d = simp linear

first_redo : (a b c d : ℕ)
    → first mix_column (first inv_mix_column a b c d) (first inv_mix_column b c d a) (first inv_mix_column c d a b) (first inv_mix_column d a b c) ≡ a
unfolding matrix
first_redo a b c d = simp linear

pub column_undo : (a b c d : ℕ) → on_column inv_mix_column (mix_column a b c d) ≡ a ∷ b ∷ c ∷ d ∷ []
column_undo = column_back mix_column inv_mix_column (matrix_turns _ _ _ _) (matrix_turns _ _ _ _) first_undo

pub column_redo : (a b c d : ℕ) → on_column mix_column (inv_mix_column a b c d) ≡ a ∷ b ∷ c ∷ d ∷ []
column_redo = column_back inv_mix_column mix_column (matrix_turns _ _ _ _) (matrix_turns _ _ _ _) first_redo

pub matrix_bytes : (a0 a1 a2 a3 b0 b1 b2 b3 : ℕ) → b0 < 256 → b1 < 256 → b2 < 256 → b3 < 256 → Bytes (matrix a0 a1 a2 a3 b0 b1 b2 b3)
unfolding matrix
matrix_bytes a0 a1 a2 a3 b0 b1 b2 b3 h0 h1 h2 h3 =
    four_bytes _ _ _ _ (row a0 a3 a2 a1) (row a1 a0 a3 a2) (row a2 a1 a0 a3) (row a3 a2 a1 a0)
  where
    row : (p q r t : ℕ) → mul p b0 xor mul q b1 xor mul r b2 xor mul t b3 < 256
    row p q r t = xor_byte _ _ (xor_byte _ _ (xor_byte _ _ (mul_byte p b0 h0) (mul_byte q b1 h1)) (mul_byte r b2 h2)) (mul_byte t b3 h3)

-- ---- what the engine computes: the sum of the column is shared, and on the way back the doublings of neighbours' sums are
pub mixed : (a b c d : ℕ) → let all : ℕ = a xor b xor c xor d in
    mix_column a b c d
    ≡ (a xor all xor xtime (a xor b)) ∷ (b xor all xor xtime (b xor c)) ∷ (c xor all xor xtime (c xor d)) ∷ (d xor all xor xtime (d xor a)) ∷ []
unfolding matrix
mixed a b c d = simp linear

pub inv_mixed : (a b c d : ℕ) → let ab : ℕ = xtime (a xor b) in let bc : ℕ = xtime (b xor c) in let cd : ℕ = xtime (c xor d) in
    let ac : ℕ = xtime (ab xor bc) in let bd : ℕ = xtime (bc xor cd) in
    let all : ℕ = a xor b xor c xor d xor xtime (ac xor bd) in
    inv_mix_column a b c d ≡ (a xor ab xor ac xor all) ∷ (b xor bc xor bd xor all) ∷ (c xor cd xor ac xor all) ∷ (d xor (ab xor bc xor cd) xor bd xor all) ∷ []
unfolding matrix
inv_mixed a b c d = simp linear
