-- What a form of the writer promises settles what it leaves: two that meet it are equal, part by part; and what opening promises
-- settles what it found.
-- Assumes nothing.
use mathlib.Core.Path.{◌≡◌, refl, sym, ap}
use mathlib.Core.Bool.{false≢true}
use mathlib.Core.List.{List}
use Prim.Native.Nat.{ℕ}
use Rattle.std.specs.Prelude.{Option, Some, None}
use Rattle.laws.proofs.Settled.{settled}
use Rattle.message.specs.Opening.{Opened, opened_as}
use Rattle.message.specs.declared.Contents.{Contents}
use Rattle.message.specs.Writer.{Messages, messages, Proof, proof}

-- the answer, and M1 to M3
pub messages_settled : (promised : Messages) {r r' : ℕ} {a b c a' b' c' : List ℕ} → messages r a b c ≡ promised
    → messages r' a' b' c' ≡ promised → (r ≡ r') × (a ≡ a') × (b ≡ b') × (c ≡ c')
messages_settled promised one other =
    let same = settled one other in (
      ap (λ (x : Messages). x.answer) same,
      ap (λ (x : Messages). x.m1) same,
      ap (λ (x : Messages). x.m2) same,
      ap (λ (x : Messages). x.m3) same,
    )

-- the answer, M4 and M5
pub proof_settled : (promised : Proof) {r r' : ℕ} {a b a' b' : List ℕ} → proof r a b ≡ promised → proof r' a' b' ≡ promised
    → (r ≡ r') × (a ≡ a') × (b ≡ b')
proof_settled promised one other =
    let same = settled one other in
    (ap (λ (x : Proof). x.answer) same, ap (λ (x : Proof). x.m4) same, ap (λ (x : Proof). x.m5) same)

-- that it is genuine, and what it holds
same_found : (o o' : Option Contents) → opened_as o ≡ opened_as o' → o ≡ o'
same_found None None e = refl
same_found None (Some y) e = absurd (false≢true (ap (λ (x : Opened). x.genuine) e))
same_found (Some x) None e = absurd (false≢true (sym (ap (λ (x : Opened). x.genuine) e)))
same_found (Some x) (Some y) e =
    ap (λ (o : Opened). Some (record { counter = o.counter; flags = o.flags; zerofill = o.zerofill; key = o.key })) e

pub opened_settled : (promised : Opened) {o o' : Option Contents} → opened_as o ≡ promised → opened_as o' ≡ promised → o ≡ o'
opened_settled promised {o} {o'} one other = same_found o o' (settled one other)
