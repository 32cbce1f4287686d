-- Every call is one shape: the first fault that its order gives, what was lent as it was where there is one, and what is done
-- where there is none. That is so by definition: every call is `perform` of an account. What holds of every call is shown
-- once, from its account and its law.
-- Assumes nothing.
use mathlib.Core.Path.{◌≡◌, refl, sym, ap, ◌∙◌, subst⁻¹}
use mathlib.Core.Bool.{not}
use mathlib.Core.List.{◌∷◌}
use mathlib.Core.Logic.{inl}
use Prim.Native.Nat.{ℕ}
use Rattle.laws.specs.Among.{Among}
use Rattle.basics.specs.Answers.{general_error}
use Rattle.basics.proofs.Faults.{first_among}
use Rattle.device.specs.Account.{answer_by, answer_to, success}
use Rattle.device.specs.Made.{made}
use Rattle.device.specs.Outcome.{refused}
use Rattle.device.specs.declared.Device.{Device}
use Rattle.device.proofs.Account.{answer_is, is_refused, is_done, either_way}
use Rattle.demands.specs.Calls.{Call, account, step}
use Rattle.demands.specs.Demand1.{table}
use Rattle.demands.proofs.Laws.{law}

module _ (n : ℕ) (d : Device) (call : Call) where
  abbrev pub found : ℕ
  found = answer_to (account n call) d

  -- the answer is the first fault
  pub answer_found : (step n d call).answer ≡ answer_to (account n call) d
  answer_found = answer_is (account n call) d

  pub in_table : Among (answer_to (account n call) d) table
  unfolding answer_by
  in_table =
      let lengths = (account n call).lengths in
      first_among table ((not (made d), general_error) ∷ (not lengths, general_error) ∷ (account n call).checks d) (inl refl) ((law n call).numbers d)

  pub step_refused : (answer_to (account n call) d ≡ 0 → ⊥) → step n d call ≡ refused (answer_to (account n call) d) d (account n call).lent
  step_refused fault =
      sym (is_refused (account n call) d found refl fault) ∙ ap (λ (e : Device). refused found e (account n call).lent) ((law n call).unchanged found d)

  pub step_done : answer_to (account n call) d ≡ 0 → step n d call ≡ success (account n call) d
  step_done none = sym (is_done (account n call) d found refl none)

  -- what holds of the device before, and after a success, holds after the call
  pub step_either : (P : Device → Type 0) → P d → (answer_to (account n call) d ≡ 0 → P ((account n call).does d).0) → P (step n d call).device
  step_either P stays changes = either_way (account n call) d P (λ fault. subst⁻¹ P ((law n call).unchanged found d) stays) changes
