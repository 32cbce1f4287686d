-- Marks set anew, all of them or one: that mark is what was set, and every other is as it was.
-- Assumes nothing.
use mathlib.Core.Path.{◌≡◌, ap, ◌∙◌}
use mathlib.Core.List.{List}
use Prim.Native.Nat.{ℕ, ◌<◌}
use native.Mathlib.Omega.{arith}
use lib.ListN.{length, set, length-set}
use lib.Seq.{get_or-set_same, get_or-set_other}
use Rattle.basics.specs.Marks.{is_on}
use Rattle.device.specs.Record.{mark_count, is_marked, set_mark, set_marks, Shaped}
use Rattle.device.specs.declared.Device.{Device}

pub marks_shape : (marks : List ℕ) (d : Device) → length marks ≡ mark_count → Shaped d → Shaped (set_marks marks d)
marks_shape marks d long shaped = record {
  all_keys = shaped.all_keys;
  key_bytes = shaped.key_bytes;
  all_counters = shaped.all_counters;
  all_flags = shaped.all_flags;
  all_empty = shaped.all_empty;
  uid_long = shaped.uid_long;
  all_marks = long;
}

module _ (place mark : ℕ) (d : Device) where
  pub that_mark : Shaped d → place < mark_count → is_marked (set_mark place mark d) place ≡ is_on mark
  that_mark shaped fits = ap is_on (get_or-set_same d.marks place mark 0 (omega (arith, fits, shaped.all_marks)))

  pub other_mark : (place' : ℕ) → (place' ≡ place → ⊥) → is_marked (set_mark place mark d) place' ≡ is_marked d place'
  other_mark place' other = ap is_on (get_or-set_other d.marks place place' mark 0 other)

  pub mark_shape : Shaped d → Shaped (set_mark place mark d)
  mark_shape shaped = marks_shape (set d.marks place mark) d (length-set d.marks place mark ∙ shaped.all_marks) shaped
