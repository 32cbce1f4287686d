-- Making over a record: it answers as making does; a success leaves what making hands out, and a refusal the record as it was.
-- Assumes nothing.
use mathlib.Core.Path.{◌≡◌, refl, sym, ap, ◌∙◌}
use mathlib.Core.List.{List, []}
use Prim.Native.Nat.{ℕ}
use lib.ListN.{length}
use Rattle.std.specs.Prelude.{Result, Ok, Err}
use Rattle.std.specs.Result.{result_unwrap_or}
use Rattle.basics.specs.Answers.{no_error, answer_of}
use Rattle.basics.specs.declared.Refusal.{Refusal}
use Rattle.basics.proofs.Faults.{never_zero}
use Rattle.device.specs.Made.{blank, fresh}
use Rattle.device.specs.Outcome.{Outcome, outcome, refused, done}
use Rattle.device.specs.declared.Device.{Device}
use Rattle.device.proofs.Account.{where_refused, where_done, same_answer}
use Rattle.commands.specs.Commands.{make_answer, make}
use Rattle.she.specs.She.{make_anew}

module _ (before : Device) (uid secret seed : List ℕ) where
  abbrev answer : ℕ
  answer = make_answer uid (length secret) (length seed)

  abbrev made : Outcome
  made = done (fresh uid secret seed) 0 []

  answer_is : (make uid secret seed).answer ≡ answer
  unfolding make
  answer_is = same_answer answer made (refused answer blank []) refl refl

  pub answers_alike : (make_anew before uid secret seed).answer ≡ (make uid secret seed).answer
  unfolding make_anew
  answers_alike = same_answer answer made (refused answer before []) refl refl ∙ sym answer_is

  pub refusal_stays : ((make uid secret seed).answer ≡ no_error → ⊥)
      → refused (make uid secret seed).answer before [] ≡ make_anew before uid secret seed
  unfolding make_anew
  refusal_stays other = where_refused (make uid secret seed).answer answer made (λ n. refused n before []) answer_is other

  pub success_alike : (make uid secret seed).answer ≡ no_error → make uid secret seed ≡ make_anew before uid secret seed
  unfolding make make_anew
  success_alike zero =
      sym (where_done _ answer made (λ n. refused n blank []) answer_is zero) ∙ where_done _ answer made (λ n. refused n before []) answer_is zero

  -- what making hands out, kept over the record
  pub made_over : (reply : Result Device Refusal) → outcome (answer_of reply) (result_unwrap_or reply blank) 0 [] ≡ make uid secret seed
      → outcome (answer_of reply) (result_unwrap_or reply before) 0 [] ≡ make_anew before uid secret seed
  made_over (Ok device) e = e ∙ success_alike (sym (ap (λ (o : Outcome). o.answer) e))
  made_over (Err refusal) e =
      let answer = ap (λ (o : Outcome). o.answer) e in
      ap (λ (n : ℕ). refused n before []) answer ∙ refusal_stays (λ zero. never_zero refusal (answer ∙ zero))
