-- An array that a closure makes, element by element, is the list that its rule gives: `made`. A closure that only reads what it
-- has borrowed is the same after each call.
-- Assumes nothing.
use mathlib.Core.Path.{◌≡◌, sym, subst, ◌∙◌, ap}
use mathlib.Core.List.{List}
use Prim.Native.Nat.{ℕ, zero, suc, ◌+◌, ◌<◌}
use native.Mathlib.Omega.{arith}
use lib.ListN.{get_or}
use denote.Param.Members.{Called, Mut}
use Rattle.std.specs.Array.{IsFromFnResult, IsFromFnResultFrom}
use Rattle.laws.specs.Tabulate.{tabulate}
use Rattle.laws.proofs.Tabulate.{tabulate_same, tabulate_own}

module _ {F : Type 0} (g : Mut F (ℕ × Unit {0}) ℕ) (f : F) (rule : ℕ → ℕ) (n : ℕ)
    (turn : (i y : ℕ) (q : F) → i < n → Called g f (i, tt) y q → (y ≡ rule i) × (q ≡ f)) where
  each : (ys : List ℕ) (i m : ℕ) → i + m ≡ n → IsFromFnResultFrom g f ys i m → (k : ℕ) → k < m → get_or ys (i + k) 0 ≡ rule (i + k)
  each ys i zero e made k h = absurd (omega arith)
  each ys i (suc m) e (q, y, here, called, more) zero h =
      let t = turn i y q (omega arith) called in
      ap (λ (j : ℕ). get_or ys j 0) (omega arith) ∙ here.1 0 ∙ t.0 ∙ ap rule (omega arith)
  each ys i (suc m) e (q, y, here, called, more) (suc k) h =
      let t = turn i y q (omega arith) called in
      let next : i + suc k ≡ (i + 1) + k = omega arith in
      let rest = subst (λ (s : F). IsFromFnResultFrom g s ys (i + 1) m) t.1 more in
      ap (λ (j : ℕ). get_or ys j 0) next ∙ each ys (i + 1) m (omega arith) rest k (omega arith) ∙ ap rule (sym next)

  pub made : (ys : List ℕ) → IsFromFnResult g f ys n → ys ≡ tabulate n rule
  made ys h =
      let at : (k : ℕ) → k < n → get_or ys k 0 ≡ rule k = λ k below.
      ap (λ (j : ℕ). get_or ys j 0) (omega arith) ∙ each ys 0 n (omega arith) h.each k below ∙ ap rule (omega arith) in
      sym (tabulate_own n ys h.long) ∙ tabulate_same n _ _ at
