-- A slot put anew: that slot is what was put, and every other is as it was.
-- Assumes nothing.
use mathlib.Core.Path.{◌≡◌, ap, ◌∙◌}
use mathlib.Core.Bool.{Bool, cond}
use Prim.Native.Nat.{ℕ, ◌+◌, ◌*◌, ◌≤◌}
use native.Mathlib.Omega.{arith}
use borrow.Author.Tests.{le-leb}
use lib.ListN.{length, length-set}
use lib.Seq.{get_or-set_same, get_or-set_other}
use Rattle.aes.specs.State.{Bytes}
use Rattle.basics.proofs.Bytes.{put_here, put_other, put_length, put_bytes}
use Rattle.device.specs.Record.{slot_at, with_slot, put_slot, Shaped}
use Rattle.device.specs.declared.Device.{Device}
use Rattle.device.specs.declared.Slot.{Slot}

pub put_fits : (slot : ℕ) (new : Slot) (d : Device) → slot ≤ 14 → put_slot slot new d ≡ with_slot slot new d
unfolding put_slot
put_fits slot new d fits = ap (λ (b : Bool). cond b (with_slot slot new d) d) (le-leb slot 14 fits)

slot_of : {x y : Slot} → x.key ≡ y.key → x.counter ≡ y.counter → x.flags ≡ y.flags → x.empty ≡ y.empty → x ≡ y
slot_of p q r s = λ i. record { key = p i; counter = q i; flags = r i; empty = s i }

module _ (s : ℕ) (new : Slot) (d : Device) (shaped : Shaped d) (fits : s ≤ 14) (long : length new.key ≡ 16) where
  room : 16 * s + 16 ≤ length d.keys
  room = omega (arith, shaped.all_keys)

  pub that_slot : slot_at (with_slot s new d) s ≡ new
  that_slot =
      slot_of (put_here d.keys new.key s room long)
      (get_or-set_same d.counters s new.counter 0 (omega (arith, shaped.all_counters)))
      (get_or-set_same d.flags s new.flags 0 (omega (arith, shaped.all_flags)))
      (get_or-set_same d.empty s new.empty 0 (omega (arith, shaped.all_empty)))

  pub other_slot : (s' : ℕ) → (s' ≡ s → ⊥) → slot_at (with_slot s new d) s' ≡ slot_at d s'
  other_slot s' other =
      slot_of (put_other d.keys new.key s room long s' other)
      (get_or-set_other d.counters s s' new.counter 0 other)
      (get_or-set_other d.flags s s' new.flags 0 other)
      (get_or-set_other d.empty s s' new.empty 0 other)

  pub shape_kept : Bytes new.key → Shaped (with_slot s new d)
  shape_kept small = record {
    all_keys = put_length d.keys new.key s room long ∙ shaped.all_keys;
    key_bytes = put_bytes d.keys new.key s room shaped.key_bytes small;
    all_counters = length-set d.counters s new.counter ∙ shaped.all_counters;
    all_flags = length-set d.flags s new.flags ∙ shaped.all_flags;
    all_empty = length-set d.empty s new.empty ∙ shaped.all_empty;
    uid_long = shaped.uid_long;
    all_marks = shaped.all_marks;
  }
