-- A test that is computed at every number below n, and what it then shows of each; of a table, that it follows its rule. Two
-- tests at once, and a choice by a test. The tables of `field` are computed with `all`; `AllOf` has what an iterator tests by it.
-- Assumes nothing.
use mathlib.Core.Path.{◌≡◌, refl, sym, ap, ap₂, ◌∙◌}
use mathlib.Core.Bool.{Bool, true, false, cond, ◌&&◌, ◌||◌, false≢true}
use mathlib.Core.List.{List}
use mathlib.Core.Logic.{◌⊎◌, inl, inr, ⊎_elim}
use Prim.Native.Nat.{ℕ, zero, suc, ◌≤◌, ◌<◌}
use native.Mathlib.Nat.{eq-or-lt_of_le}
use native.Mathlib.Omega.{arith}
use borrow.Author.Tests.{eq-eqb, ne_eqb, eqb-true}
use lib.Dec.{eqb}
use lib.ListN.{length, get_or}
use Rattle.laws.specs.All.{all}
use Rattle.laws.specs.Tabulate.{tabulate}
use Rattle.laws.proofs.Tabulate.{tabulate_same, tabulate_own}

-- both of two tests
pub both : (a b : Bool) → (a && b) ≡ true → (a ≡ true) × (b ≡ true)
both true b h = (refl, h)
both false b h = absurd (false≢true h)

pub all_each : (n : ℕ) (test : ℕ → Bool) → all n test ≡ true → (k : ℕ) → k < n → test k ≡ true
unfolding all
all_each zero test t k h = absurd (omega arith)
all_each (suc n) test t k h =
    let parts = both (all n test) (test n) t in
    let low : k ≤ n = omega arith in
    ⊎_elim (λ e. ap test e ∙ parts.1) (λ l. all_each n test parts.0 k l) (eq-or-lt_of_le low)

pub each_all : (n : ℕ) (test : ℕ → Bool) → ((k : ℕ) → k < n → test k ≡ true) → all n test ≡ true
unfolding all
each_all zero test h = refl
each_all (suc n) test h = ap₂ (λ (a b : Bool). a && b) (each_all n test (λ k l. h k (omega arith))) (h n (omega arith))

-- two functions that are computed to agree below n
pub agree : (f g : ℕ → ℕ) (n : ℕ) → all n (λ k. eqb (f k) (g k)) ≡ true → (k : ℕ) → k < n → f k ≡ g k
agree f g n t k h = eqb-true (f k) (g k) (all_each n (λ k. eqb (f k) (g k)) t k h)

-- a table whose every entry is computed to be what the rule says
pub table_rule : (f : ℕ → ℕ) (xs : List ℕ) (n : ℕ) → length xs ≡ n → all n (λ k. eqb (get_or xs k 0) (f k)) ≡ true → xs ≡ tabulate n f
table_rule f xs n long t = sym (tabulate_own n xs long) ∙ tabulate_same n (λ k. get_or xs k 0) f (agree (λ k. get_or xs k 0) f n t)

-- one of two tests
pub either : (a b : Bool) → (a || b) ≡ true → (a ≡ true) ⊎ (b ≡ true)
either true b h = inl refl
either false b h = inr h

-- one list where two numbers are equal, and another where not
pub where_equal : (m n : ℕ) (x y : List ℕ) → m ≡ n → x ≡ cond (eqb m n) x y
where_equal m n x y e = sym (ap (λ (b : Bool). cond b x y) (eq-eqb m n e))

pub where_other : (m n : ℕ) (x y : List ℕ) → (m ≡ n → ⊥) → y ≡ cond (eqb m n) x y
where_other m n x y e = sym (ap (λ (b : Bool). cond b x y) (ne_eqb m n e))
