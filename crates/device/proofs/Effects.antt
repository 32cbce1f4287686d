-- What a success of a call does to a made device: each call has one law that says it. It stays made, keeps its UID, and its
-- slots that are not volatile are as they were, or loaded with a greater counter, or filled where they were empty.
-- Assumes nothing.
use mathlib.Core.Path.{◌≡◌, refl, ap}
use mathlib.Core.Bool.{true, false}
use mathlib.Core.List.{List, []}
use Prim.Native.Nat.{ℕ, ◌≤◌, ◌<◌}
use native.Mathlib.Omega.{arith}
use Rattle.laws.specs.Among.{Among}
use Rattle.basics.specs.Marks.{is_mark}
use Rattle.device.specs.Account.{Account, answer_to, BringsBytes}
use Rattle.device.specs.Made.{Sound}
use Rattle.device.specs.Record.{mark_count, rng_mark, plain_mark, made_mark, is_empty, counter_at, slot_at, set_mark}
use Rattle.device.specs.declared.Device.{Device}
use Rattle.device.specs.declared.Slot.{Slot}
use Rattle.device.proofs.Made.{facts, is_made, mark_set}
use Rattle.device.proofs.Marks.{mark_shape}

-- it stays made, and keeps its UID; a slot that is not volatile stays as it was, unless the call loads it, or fills it and found it
-- empty. Its counter never falls, and a load raises it
pub record Effect (loads fills : List ℕ) (d e : Device) : Type 0 where
  pub sound : Sound e
  pub uid_stays : e.uid ≡ d.uid
  pub stays : (s : ℕ) → s ≤ 13 → (Among s loads → ⊥) → (Among s fills → is_empty d s ≡ false) → slot_at e s ≡ slot_at d s
  pub never_falls : (s : ℕ) → s ≤ 13 → counter_at d s ≤ counter_at e s
  pub rises : (s : ℕ) → s ≤ 13 → Among s loads → (1 ≤ s) × (counter_at d s < counter_at e s)

abbrev pub Effective : Account → Type 0
Effective call = (d : Device) → Sound d → BringsBytes call → answer_to call d ≡ 0 → Effect call.loads call.fills d (call.does d).0

-- ---- the counter of a slot that is as it was
pub same_counter : (d e : Device) (s : ℕ) → slot_at e s ≡ slot_at d s → counter_at d s ≤ counter_at e s
same_counter d e s same = omega (arith, ap (λ (x : Slot). x.counter) same)

-- ---- a call that loads and fills nothing, and one that changes nothing
pub loads_nothing : (d e : Device) → Sound e → e.uid ≡ d.uid → ((s : ℕ) → s ≤ 13 → slot_at e s ≡ slot_at d s) → Effect [] [] d e
loads_nothing d e sound uid slots = record {
  sound = sound;
  uid_stays = uid;
  stays = λ s low other full. slots s low;
  never_falls = λ s low. same_counter d e s (slots s low);
  rises = λ s low one. absurd one;
}

pub does_nothing : (d : Device) → Sound d → Effect [] [] d d
does_nothing d sound = loads_nothing d d sound refl (λ s low. refl)

-- ---- one that sets a mark to which nothing is tied
pub sets_mark : (place mark : ℕ) (d : Device) → Sound d → place < mark_count → is_mark mark ≡ true
    → (place ≡ made_mark → ⊥) → (place ≡ plain_mark → ⊥) → (place ≡ rng_mark → ⊥) → Effect [] [] d (set_mark place mark d)
sets_mark place mark d sound room h made plain rng =
    let m = mark_set place mark d sound.0 room h (facts d sound.1) made plain rng in
    loads_nothing d (set_mark place mark d) (mark_shape place mark d sound.0, is_made (set_mark place mark d) m) refl (λ s low. refl)
