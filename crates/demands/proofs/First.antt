-- The first demand holds of the device.
-- Assumes nothing.
use mathlib.Core.Path.{◌≡◌, refl, sym, ap, ◌∙◌, subst⁻¹}
use mathlib.Core.Bool.{false, false≢true}
use Prim.Native.Nat.{ℕ}
use native.Mathlib.Omega.{arith}
use Rattle.laws.specs.Among.{Among}
use Rattle.laws.proofs.Lengths.{each_right}
use Rattle.laws.proofs.Same.{same_equal}
use Rattle.basics.specs.Bytes.{zero_uid}
use Rattle.device.specs.Made.{made, blank}
use Rattle.device.specs.Outcome.{Outcome, refused}
use Rattle.device.specs.declared.Device.{Device}
use Rattle.device.proofs.Account.{not_made, not_long, then_own}
use Rattle.commands.specs.Commands.{make}
use Rattle.commands.proofs.Making.{make_passed, make_passes, make_refused, make_done, make_sound}
use Rattle.demands.specs.Calls.{Call, account, step}
use Rattle.demands.specs.Demand1.{table, Demand1, Making}
use Rattle.demands.proofs.Laws.{law}
use Rattle.demands.proofs.Steps.{answer_found, in_table, step_refused}

pub demand_1 : (n : ℕ) → Demand1 n (step n)
demand_1 n = record {
  from_the_table = λ d call. subst⁻¹ (λ (answer : ℕ). Among answer table) (answer_found n d call) (in_table n d call);
  by_the_order = λ d call. answer_found n d call;
  not_made = λ d call unmade. answer_found n d call ∙ not_made d (account n call).lengths ((account n call).checks d) unmade;
  wrong_length = λ d call wrong. answer_found n d call ∙ not_long d (account n call).lengths ((account n call).checks d) wrong;
  no_such_slot = λ d call slot is_made long named high.
      answer_found n d call ∙ then_own d (account n call).lengths ((account n call).checks d) is_made long
      ∙ (law n call).no_such_slot d slot named high;
  refusal_changes_nothing = λ d call fault.
      step_refused n d call (λ zero. fault (answer_found n d call ∙ zero))
      ∙ ap (λ (answer : ℕ). refused answer d (account n call).lent) (sym (answer_found n d call));
}

-- ---- a record that is not made stays as it is
pub step_unmade : (n : ℕ) (d : Device) (call : Call) → made d ≡ false → (step n d call).device ≡ d
step_unmade n d call unmade =
    let twelve = (demand_1 n).not_made d call unmade in
    ap (λ (o : Outcome). o.device) ((demand_1 n).refusal_changes_nothing d call (λ none. omega (arith, sym twelve ∙ none)))

-- ---- making
blank_unmade : made blank ≡ false
unfolding made
blank_unmade = refl

pub making : Making make
making = record {
  exactly_when = λ uid secret seed. (
    λ zero. let ok = make_passed uid secret seed zero in
        let each = each_right _ ok.0 in
        (each 0, each 1, each 2, λ none. false≢true (sym ok.1 ∙ same_equal uid zero_uid none)),
    λ ok. make_passes uid secret seed ok.0 ok.1 ok.2 ok.3,
  );
  makes = λ uid secret seed small zero. (make_done uid secret seed zero, make_sound uid secret seed small zero);
  blank_otherwise = make_refused;
  blank_is_not_made = blank_unmade;
}
