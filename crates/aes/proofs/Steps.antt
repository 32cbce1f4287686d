-- The steps of a round keep blocks blocks, and each is undone by its inverse, both ways. `Inverses f g` says that f and g
-- keep blocks blocks and undo one another. It holds of the four pairs of steps, and `chain` makes it of one step after
-- another.
-- Assumes nothing.
use mathlib.Core.Path.{◌≡◌, refl, ap, ◌∙◌}
use mathlib.Core.List.{List, [], ◌∷◌, ◌++◌}
use Prim.Native.Nat.{ℕ, ◌+◌, ◌*◌, ◌%◌, ◌<◌}
use Rattle.laws.specs.Tabulate.{tabulate}
use Rattle.laws.specs.Xor.{◌xor◌}
use Rattle.laws.proofs.Tabulate.{get_d_tabulate, tabulate_same, tabulate_own}
use Rattle.laws.proofs.Xor.{xor_byte, xor_cancels}
use Rattle.field.specs.Sbox.{sbox, inv_sbox}
use Rattle.field.proofs.Laws.{sbox_byte, inv_sbox_byte, sbox_undo, sbox_redo}
use Rattle.aes.specs.State.{byte, state, Bytes, Block}
use Rattle.aes.specs.Steps.{substitute, sub_bytes, inv_sub_bytes, move_rows, shift_rows, inv_shift_rows, matrix, columns, mix_columns, inv_mix_columns, add_round_key}
use Rattle.aes.proofs.Bytes.{append_bytes, state_block}
use Rattle.aes.specs.Engine.{on_column}
use Rattle.aes.proofs.Columns.{column_undo, column_redo, matrix_bytes}

-- f keeps blocks blocks, and g undoes it
pub record Undone (f g : List ℕ → List ℕ) : Type 0 where
  pub keeps : (s : List ℕ) → Block s → Block (f s)
  pub undo : (s : List ℕ) → Block s → g (f s) ≡ s

-- each undoes the other
pub record Inverses (f g : List ℕ → List ℕ) : Type 0 where
  pub there : Undone f g
  pub back : Undone g f

after : {f g f' g' : List ℕ → List ℕ} → Undone f g → Undone f' g' → Undone (λ s. f' (f s)) (λ s. g (g' s))
after {f} {g} u v =
    record {
      keeps = λ s h. v.keeps (f s) (u.keeps s h);
      undo = λ s h. ap g (v.undo (f s) (u.keeps s h)) ∙ u.undo s h;
    }

-- a step after a step is undone from the last to the first
pub chain : {f g f' g' : List ℕ → List ℕ} → Inverses f g → Inverses f' g' → Inverses (λ s. f' (f s)) (λ s. g (g' s))
chain p q = record { there = after p.there q.there; back = after q.back p.back }

-- ---- SubBytes and InvSubBytes: a substitution is undone where it is undone on bytes
substituted : (f g : ℕ → ℕ) → ((b : ℕ) → f b < 256) → ((b : ℕ) → b < 256 → g (f b) ≡ b) → Undone (substitute f) (substitute g)
unfolding substitute
substituted f g byte-f undo-f =
    record {
      keeps = λ s h. state_block (λ i. f (byte s i)) (λ k. byte-f (byte s k));
      undo = λ s h.
          tabulate_same 16 (λ i. g (byte (state (λ i. f (byte s i))) i)) (byte s)
          (λ k l. ap g (get_d_tabulate 16 (λ i. f (byte s i)) k l) ∙ undo-f (byte s k) (h.small k))
          ∙ tabulate_own 16 s h.long;
    }

pub sub_inverses : Inverses sub_bytes inv_sub_bytes
unfolding sub_bytes inv_sub_bytes
sub_inverses = record { there = substituted sbox inv_sbox sbox_byte sbox_undo; back = substituted inv_sbox sbox inv_sbox_byte sbox_redo }

-- ---- ShiftRows and InvShiftRows: at the sixteen places there and back is the same byte
moved : (n : ℕ) (s : List ℕ) → Block s → Block (move_rows n s)
unfolding move_rows
moved n s h = state_block (λ i. byte s ((i + 4 * n * (i % 4)) % 16)) (λ k. h.small ((k + 4 * n * (k % 4)) % 16))

pub shift_inverses : Inverses shift_rows inv_shift_rows
unfolding shift_rows inv_shift_rows move_rows tabulate
shift_inverses =
    record {
      there = record { keeps = moved 1; undo = λ s h. tabulate_own 16 s h.long };
      back = record { keeps = moved 3; undo = λ s h. tabulate_own 16 s h.long };
    }

-- ---- MixColumns and InvMixColumns: column by column
columns_bytes : (f : ℕ → ℕ → ℕ → ℕ → List ℕ) → ((a b c d : ℕ) → a < 256 → b < 256 → c < 256 → d < 256 → Bytes (f a b c d))
    → (s : List ℕ) → Bytes s → Bytes (columns f s)
unfolding columns
columns_bytes f hf s h =
    let q : ℕ → List ℕ = λ i. f (byte s i) (byte s (i + 1)) (byte s (i + 2)) (byte s (i + 3)) in
    let hq : (i : ℕ) → Bytes (q i) = λ i. hf (byte s i) (byte s (i + 1)) (byte s (i + 2)) (byte s (i + 3)) (h i) (h (i + 1)) (h (i + 2)) (h (i + 3)) in
    append_bytes (q 0 ++ q 4 ++ q 8) (q 12)
    (append_bytes (q 0 ++ q 4) (q 8) (append_bytes (q 0) (q 4) (hq 0) (hq 4)) (hq 8)) (hq 12)

columns_undone : (m0 m1 m2 m3 n0 n1 n2 n3 : ℕ)
    → ((a b c d : ℕ) → on_column (matrix n0 n1 n2 n3) (matrix m0 m1 m2 m3 a b c d) ≡ a ∷ b ∷ c ∷ d ∷ [])
    → Undone (columns (matrix m0 m1 m2 m3)) (columns (matrix n0 n1 n2 n3))
unfolding columns matrix tabulate
columns_undone m0 m1 m2 m3 n0 n1 n2 n3 undo-column =
    record {
      keeps = λ s h. record { long = refl; small = columns_bytes (matrix m0 m1 m2 m3) (matrix_bytes m0 m1 m2 m3) s h.small };
      undo = λ s h.
          (λ i.
          undo-column (byte s 0) (byte s 1) (byte s 2) (byte s 3) i
          ++ undo-column (byte s 4) (byte s 5) (byte s 6) (byte s 7) i
          ++ undo-column (byte s 8) (byte s 9) (byte s 10) (byte s 11) i
          ++ undo-column (byte s 12) (byte s 13) (byte s 14) (byte s 15) i)
          ∙ tabulate_own 16 s h.long;
    }

pub mix_inverses : Inverses mix_columns inv_mix_columns
unfolding mix_columns inv_mix_columns
mix_inverses =
    record {
      there = columns_undone _ _ _ _ _ _ _ _ column_undo;
      back = columns_undone _ _ _ _ _ _ _ _ column_redo;
    }

-- ---- AddRoundKey undoes itself
pub add_inverses : (w : List ℕ) → Bytes w → (r : ℕ) → Inverses (add_round_key w r) (add_round_key w r)
unfolding add_round_key
add_inverses w hw r = record { there = twice; back = twice }
  where
    added : List ℕ → ℕ → ℕ
    added s i = byte s i xor byte w (16 * r + i)

    twice : Undone (add_round_key w r) (add_round_key w r)
    twice =
        record {
          keeps = λ s h. state_block (added s) (λ k. xor_byte (byte s k) (byte w (16 * r + k)) (h.small k) (hw (16 * r + k)));
          undo = λ s h.
              tabulate_same 16 (added (state (added s))) (byte s)
              (λ k l. ap (λ (x : ℕ). x xor byte w (16 * r + k)) (get_d_tabulate 16 (added s) k l) ∙ xor_cancels (byte s k) (byte w (16 * r + k)))
              ∙ tabulate_own 16 s h.long;
        }
