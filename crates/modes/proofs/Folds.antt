-- The library's fold, told by the steps that it took: and what it comes to where each step gives what a rule says.
-- Assumes nothing.
use mathlib.Core.Path.{◌≡◌, refl, sym, ap, ◌∙◌}
use mathlib.Core.List.{List, [], ◌∷◌, foldl}
use Prim.Native.Nat.{ℕ}
use denote.Param.Members.{Mut}
use Rattle.std.specs.Fn.{Called}
use Rattle.std.specs.Iterator.{Drains}
use Rattle.std.specs.List.{FoldsTo}
use Rattle.std.specs.Prelude.{Option}
use Rattle.std.proofs.lemmas.Fn.{FoldsTo-push, fold_over}
use Rattle.std.proofs.lemmas.Iterator.{YieldsList}

-- of an iterator that yields what v reads as these items, by calls that leave the closure as it is
pub folds_to : {S A B C F : Type 0} {steps : S → Option A → S → Type 0} {v : A → B} {s : S} {all : List B} (g : Mut F (C × (A × Unit {0})) C) (R : C → B → C → Type 0)
    {f : F} (start last : C)
    → ((xs : List A) × (q : F) × Drains steps s xs × FoldsTo {P = F × C} (λ a x b. Called g a.0 (a.1, (x, tt)) b.1 b.0) (f, start) xs (q, last))
    → YieldsList steps v s all
    → ((a : C) (x : A) (b : C) (q : F) → Called g f (a, (x, tt)) b q → R a (v x) b × (q ≡ f))
    → FoldsTo R start all last
folds_to {S} {A} {B} {C} {F} {steps} {v} {s} {all} g R {f} start last ran yields gives =
    fold_over steps v g (FoldsTo R start) f
    (λ xs a x b q so called. let given = gives a x b q called in (FoldsTo-push R start xs a (v x) b so given.0, given.1))
    s all start last yields.runs refl ran

-- steps that give what a rule says
pub folded : (R : List ℕ → List ℕ → List ℕ → Type 0) (rule : List ℕ → List ℕ → List ℕ) → ((c x r : List ℕ) → R c x r → r ≡ rule c x)
    → (xs : List (List ℕ)) (c last : List ℕ) → FoldsTo R c xs last → last ≡ foldl rule c xs
folded R rule ruled [] c last e = sym e
folded R rule ruled (x ∷ xs) c last (next, step, rest) =
    folded R rule ruled xs next last rest ∙ ap (λ (d : List ℕ). foldl rule d xs) (ruled c x next step)
