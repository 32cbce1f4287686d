-- What holds of the number at each index of a list, 0 past its end.
-- Assumes nothing.
use mathlib.Core.Path.{subst⁻¹}
use mathlib.Core.List.{List, [], ◌∷◌, ◌++◌}
use Prim.Native.Nat.{ℕ, zero, suc, ◌+◌}
use lib.ListN.{get_or, take, drop}
use lib.Seq.{get_or-drop}

module _ (P : ℕ → Type 0) (of_zero : P 0) where
  pub each_nil : (i : ℕ) → P (get_or [] i 0)
  each_nil i = of_zero

  pub each_cons : (x : ℕ) (l : List ℕ) → P x → ((i : ℕ) → P (get_or l i 0)) → (i : ℕ) → P (get_or (x ∷ l) i 0)
  each_cons x l h t zero = h
  each_cons x l h t (suc i) = t i

  pub each_four : (a b c d : ℕ) → P a → P b → P c → P d → (i : ℕ) → P (get_or (a ∷ b ∷ c ∷ d ∷ []) i 0)
  each_four a b c d pa pb pc pd =
      each_cons a (b ∷ c ∷ d ∷ []) pa (each_cons b (c ∷ d ∷ []) pb (each_cons c (d ∷ []) pc (each_cons d [] pd each_nil)))

  pub each_append : (u v : List ℕ) → ((i : ℕ) → P (get_or u i 0)) → ((i : ℕ) → P (get_or v i 0)) → (i : ℕ) → P (get_or (u ++ v) i 0)
  each_append [] v hu hv i = hv i
  each_append (x ∷ u) v hu hv zero = hu 0
  each_append (x ∷ u) v hu hv (suc i) = each_append u v (λ k. hu (suc k)) hv i

  pub each_take : (n : ℕ) (l : List ℕ) → ((i : ℕ) → P (get_or l i 0)) → (i : ℕ) → P (get_or (take n l) i 0)
  each_take zero l h i = of_zero
  each_take (suc n) [] h i = of_zero
  each_take (suc n) (x ∷ l) h zero = h 0
  each_take (suc n) (x ∷ l) h (suc i) = each_take n l (λ k. h (suc k)) i

  pub each_drop : (n : ℕ) (l : List ℕ) → ((i : ℕ) → P (get_or l i 0)) → (i : ℕ) → P (get_or (drop n l) i 0)
  each_drop n l h i = subst⁻¹ P (get_or-drop n l i 0) (h (n + i))
