-- What a call of the book promises settles what it leaves: two outcomes that meet it are equal, part by part, and so are two replies.
-- Assumes nothing.
use mathlib.Core.Path.{◌≡◌, refl, sym, ap}
use mathlib.Core.List.{List, []}
use Prim.Native.Nat.{ℕ}
use native.Mathlib.Omega.{arith}
use lib.ListN.{get_or}
use Rattle.std.specs.Prelude.{Option, Some, None, Result, Ok, Err}
use Rattle.std.specs.Result.{result_unwrap_or}
use Rattle.laws.proofs.Settled.{settled}
use Rattle.basics.specs.Answers.{answer_of}
use Rattle.basics.specs.declared.Refusal.{Refusal}
use Rattle.basics.proofs.Faults.{never_zero, by_number, same_reply}
use Rattle.garage.specs.Calls.{judged}
use Rattle.garage.specs.Outcome.{Outcome, outcome}
use Rattle.garage.specs.declared.Book.{Book}

-- the answer, the book, the verdict, and each buffer that was lent, by its number
pub outcome_settled : (promised : Outcome) {a a' v v' : ℕ} {b b' : Book} {out out' : List (List ℕ)} → outcome a b v out ≡ promised
    → outcome a' b' v' out' ≡ promised → (a ≡ a') × (b ≡ b') × (v ≡ v') × ((k : ℕ) → get_or out k [] ≡ get_or out' k [])
outcome_settled promised one other =
    let same = settled one other in (
      ap (λ (o : Outcome). o.answer) same,
      ap (λ (o : Outcome). o.book) same,
      ap (λ (o : Outcome). o.verdict) same,
      λ k. ap (λ (o : Outcome). get_or o.buffers k []) same,
    )

-- ---- the reply of opening and of writing
pub reply_settled : (promised : Outcome) (kept : Book) {r r' : Result Book Refusal} {out out' : List (List ℕ)}
    → outcome (answer_of r) (result_unwrap_or r kept) 0 out ≡ promised → outcome (answer_of r') (result_unwrap_or r' kept) 0 out' ≡ promised
    → (r ≡ r') × ((k : ℕ) → get_or out k [] ≡ get_or out' k [])
reply_settled promised kept {r} {r'} one other =
    let same = settled one other in (
      same_reply kept r r' (ap (λ (o : Outcome). o.answer) same) (ap (λ (o : Outcome). o.book) same),
      λ k. ap (λ (o : Outcome). get_or o.buffers k []) same,
    )

-- ---- the reply of judging
yes_no : ◌≡◌ {A = ℕ} 1 0 → ⊥
yes_no e = omega arith

same_judged : (b : Book) (r r' : Result (Option Book) Refusal) → judged b r ≡ judged b r' → r ≡ r'
same_judged b (Ok (Some x)) (Ok (Some y)) e = ap (λ (o : Outcome). Ok (Some o.book)) e
same_judged b (Ok (Some x)) (Ok None) e = absurd (yes_no (ap (λ (o : Outcome). o.verdict) e))
same_judged b (Ok (Some x)) (Err y) e = absurd (never_zero y (sym (ap (λ (o : Outcome). o.answer) e)))
same_judged b (Ok None) (Ok (Some y)) e = absurd (yes_no (sym (ap (λ (o : Outcome). o.verdict) e)))
same_judged b (Ok None) (Ok None) e = refl
same_judged b (Ok None) (Err y) e = absurd (never_zero y (sym (ap (λ (o : Outcome). o.answer) e)))
same_judged b (Err x) (Ok (Some y)) e = absurd (never_zero x (ap (λ (o : Outcome). o.answer) e))
same_judged b (Err x) (Ok None) e = absurd (never_zero x (ap (λ (o : Outcome). o.answer) e))
same_judged b (Err x) (Err y) e = ap Err (by_number x y (ap (λ (o : Outcome). o.answer) e))

pub judged_settled : (promised : Outcome) (b : Book) {r r' : Result (Option Book) Refusal} → judged b r ≡ promised → judged b r' ≡ promised → r ≡ r'
judged_settled promised b {r} {r'} one other = same_judged b r r' (settled one other)
