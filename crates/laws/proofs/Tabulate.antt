-- A list given by a rule: its length, its elements, and a loop that fills an array with it, from the front. Such a loop keeps
-- `take i t ≡ tabulate i rule`: `fill` is its turn and `filled` its end.
-- Assumes nothing.
use mathlib.Core.Path.{◌≡◌, refl, sym, ap, ap₂, ◌∙◌, subst}
use mathlib.Core.List.{List, [], ◌∷◌, ◌++◌}
use Prim.Native.Nat.{ℕ, zero, suc, ◌+◌, ◌≤◌, ◌<◌}
use native.Mathlib.Omega.{arith}
use native.Mathlib.Numerals.{add-one}
use lib.ListN.{get_or, take, drop, set, length, length-drop, length-set}
use lib.Seq.{take-suc-set, take_all, length-take-le, get_or-take, get_or-drop}
use Rattle.laws.specs.Tabulate.{tabulate}

pub length_tabulate : (n : ℕ) (f : ℕ → ℕ) → length (tabulate n f) ≡ n
unfolding tabulate
length_tabulate zero f = refl
length_tabulate (suc n) f = ap suc (length_tabulate n (λ k. f (suc k)))

pub get_d_tabulate : (n : ℕ) (f : ℕ → ℕ) (k : ℕ) → k < n → get_or (tabulate n f) k 0 ≡ f k
unfolding tabulate
get_d_tabulate zero f k h = absurd (omega arith)
get_d_tabulate (suc n) f zero h = refl
get_d_tabulate (suc n) f (suc k) h = get_d_tabulate n (λ k. f (suc k)) k (omega arith)

-- a fact that holds of each value of the rule, and of 0, holds of the element at any index
pub all_tabulate : (P : ℕ → Type 0) (n : ℕ) (f : ℕ → ℕ) → P 0 → ((k : ℕ) → k < n → P (f k)) → (i : ℕ) → P (get_or (tabulate n f) i 0)
unfolding tabulate
all_tabulate P zero f z h i = z
all_tabulate P (suc n) f z h zero = h 0 (omega arith)
all_tabulate P (suc n) f z h (suc i) = all_tabulate P n (λ k. f (suc k)) z (λ k l. h (suc k) (omega arith)) i

-- two rules that agree below n give one list
pub tabulate_same : (n : ℕ) (f g : ℕ → ℕ) → ((k : ℕ) → k < n → f k ≡ g k) → tabulate n f ≡ tabulate n g
unfolding tabulate
tabulate_same zero f g h = refl
tabulate_same (suc n) f g h =
    ap₂ (λ (x : ℕ) (l : List ℕ). x ∷ l) (h 0 (omega arith))
    (tabulate_same n (λ k. f (suc k)) (λ k. g (suc k)) (λ k l. h (suc k) (omega arith)))

-- a list is given by its own elements
pub tabulate_own : (n : ℕ) (l : List ℕ) → length l ≡ n → tabulate n (λ k. get_or l k 0) ≡ l
unfolding tabulate
tabulate_own zero [] h = refl
tabulate_own zero (x ∷ l) h = absurd (omega arith)
tabulate_own (suc n) [] h = absurd (omega arith)
tabulate_own (suc n) (x ∷ l) h = ap (λ (t : List ℕ). x ∷ t) (tabulate_own n l (omega arith))

-- and so is a part of it
pub tabulate_part : (n : ℕ) (l : List ℕ) (at : ℕ) → at + n ≤ length l → tabulate n (λ k. get_or l (at + k) 0) ≡ take n (drop at l)
tabulate_part n l at room =
    tabulate_same n _ _ (λ k h. sym (get_or-take n (drop at l) k 0 h ∙ get_or-drop at l k 0))
    ∙ tabulate_own n (take n (drop at l)) (length-take-le n (drop at l) (omega (arith, length-drop at l)))

pub tabulate_last : (n : ℕ) (f : ℕ → ℕ) → tabulate (suc n) f ≡ tabulate n f ++ (f n ∷ [])
unfolding tabulate
tabulate_last zero f = refl
tabulate_last (suc n) f = ap (λ (l : List ℕ). f 0 ∷ l) (tabulate_last n (λ k. f (suc k)))

-- a turn of the loop `t[i] = v; i += 1`, with `v` what the rule says
pub fill : (f : ℕ → ℕ) (t : List ℕ) (i v : ℕ) → i < length t → v ≡ f i → take i t ≡ tabulate i f
    → take (i + 1) (set t i v) ≡ tabulate (i + 1) f
fill f t i v h e inv =
    rw (add-one i)
    (take-suc-set t i v h ∙ ap₂ (λ (l : List ℕ) (x : ℕ). l ++ (x ∷ [])) inv e ∙ sym (tabulate_last i f))

-- the loop at its end
pub filled : (f : ℕ → ℕ) (t : List ℕ) (i n : ℕ) → length t ≡ n → i ≡ n → take i t ≡ tabulate i f → t ≡ tabulate n f
filled f t i n h k inv = sym (take_all n t (omega arith)) ∙ subst (λ (m : ℕ). take m t ≡ tabulate m f) k inv

-- the last element stored after the loop
pub filled_last : (f : ℕ → ℕ) (t : List ℕ) (i n v : ℕ) → length t ≡ suc n → i ≡ n → v ≡ f n → take i t ≡ tabulate i f → set t n v ≡ tabulate (suc n) f
filled_last f t i n v h k e inv =
    filled f (set t n v) (n + 1) (suc n) (length-set t n v ∙ h) (add-one n)
    (fill f t n v (omega arith) e (subst (λ (m : ℕ). take m t ≡ tabulate m f) k inv))
