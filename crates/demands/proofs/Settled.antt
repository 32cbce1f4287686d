-- The demands settle every outcome.
-- Assumes nothing.
use mathlib.Core.Path.{◌≡◌, sym, ap, ◌∙◌, fun_ext, subst⁻¹}
use Prim.Native.Nat.{ℕ, ◌≤◌}
use native.Mathlib.Decide.{ℕ_discrete}
use Rattle.device.specs.Outcome.{refused}
use Rattle.demands.specs.Calls.{account, Machine, step}
use Rattle.demands.specs.Settled.{Settled, ThirdFollows}
use Rattle.demands.specs.Demand1.{Demand1}
use Rattle.demands.specs.Demand2.{Demand2}
use Rattle.demands.specs.Demand3.{Demand3}
use Rattle.demands.proofs.Runs.{demand_3}
use Rattle.demands.proofs.Steps.{found, step_refused, step_done}

-- by its answer, which is the first fault: what is refused is as it was, and what is done is the papers'
pub demands_settle : (n : ℕ) → Settled n
demands_settle n machine one two d call = tests (ℕ_discrete (found n d call) 0)
  where
    tests : Dec (found n d call ≡ 0) → machine d call ≡ step n d call
    tests (yes none) = two.exact d call (one.by_the_order d call ∙ none) ∙ sym (step_done n d call none)
    tests (no fault) =
        one.refusal_changes_nothing d call (λ zero. fault (sym (one.by_the_order d call) ∙ zero))
        ∙ ap (λ (answer : ℕ). refused answer d (account n call).lent) (one.by_the_order d call)
        ∙ sym (step_refused n d call fault)

-- so there is only ours
pub only_ours : (n : ℕ) (machine : Machine) → Demand1 n machine → Demand2 n machine → machine ≡ step n
only_ours n machine one two = fun_ext (λ d. fun_ext (λ call. demands_settle n machine one two d call))

pub third_follows : (n : ℕ) → n ≤ 100 → ThirdFollows n
third_follows n few machine one two = subst⁻¹ (Demand3 n) (only_ours n machine one two) (demand_3 n few)
