-- A line put anew: that line is what was put, and every other is as it was.
-- Assumes nothing.
use mathlib.Core.Path.{◌≡◌, refl, ap, ◌∙◌}
use mathlib.Core.Bool.{Bool, true, false, cond}
use Prim.Native.Nat.{ℕ, ◌+◌, ◌*◌, ◌≤◌}
use native.Mathlib.Omega.{arith}
use borrow.Author.Tests.{le-leb}
use lib.Dec.{leb}
use lib.ListN.{length, length-set}
use lib.Seq.{get_or-set_same, get_or-set_other}
use Rattle.basics.proofs.Bytes.{put_here, put_other, put_length}
use Rattle.garage.specs.Book.{line_at, with_line, put_line, Shaped}
use Rattle.garage.specs.declared.Book.{Book}
use Rattle.garage.specs.declared.Line.{Line}

put_fits : (slot : ℕ) (new : Line) (b : Book) → slot ≤ 14 → put_line slot new b ≡ with_line slot new b
unfolding put_line
put_fits slot new b fits = ap (λ (t : Bool). cond t (with_line slot new b) b) (le-leb slot 14 fits)

line_of : {x y : Line} → x.key ≡ y.key → x.held ≡ y.held → x.counter ≡ y.counter → x.waits ≡ y.waits → x.authority ≡ y.authority
    → x.newcounter ≡ y.newcounter → x.newkey ≡ y.newkey → x ≡ y
line_of p q r s t u v = λ i. record { key = p i; held = q i; counter = r i; waits = s i; authority = t i; newcounter = u i; newkey = v i }

module _ (s : ℕ) (new : Line) (b : Book) (shaped : Shaped b) (fits : s ≤ 14) (long : length new.key ≡ 16) (longer : length new.newkey ≡ 16) where
  room : 16 * s + 16 ≤ length b.keys
  room = omega (arith, shaped.all_keys)

  new_room : 16 * s + 16 ≤ length b.newkeys
  new_room = omega (arith, shaped.all_newkeys)

  pub that_line : line_at (put_line s new b) s ≡ new
  that_line =
      ap (λ (x : Book). line_at x s) (put_fits s new b fits)
      ∙ line_of (put_here b.keys new.key s room long)
      (get_or-set_same b.held s new.held 0 (omega (arith, shaped.all_held)))
      (get_or-set_same b.counters s new.counter 0 (omega (arith, shaped.all_counters)))
      (get_or-set_same b.waits s new.waits 0 (omega (arith, shaped.all_waits)))
      (get_or-set_same b.authorities s new.authority 0 (omega (arith, shaped.all_authorities)))
      (get_or-set_same b.newcounters s new.newcounter 0 (omega (arith, shaped.all_newcounters)))
      (put_here b.newkeys new.newkey s new_room longer)

  pub other_line : (s' : ℕ) → (s' ≡ s → ⊥) → line_at (put_line s new b) s' ≡ line_at b s'
  other_line s' other =
      ap (λ (x : Book). line_at x s') (put_fits s new b fits)
      ∙ line_of (put_other b.keys new.key s room long s' other)
      (get_or-set_other b.held s s' new.held 0 other)
      (get_or-set_other b.counters s s' new.counter 0 other)
      (get_or-set_other b.waits s s' new.waits 0 other)
      (get_or-set_other b.authorities s s' new.authority 0 other)
      (get_or-set_other b.newcounters s s' new.newcounter 0 other)
      (put_other b.newkeys new.newkey s new_room longer s' other)

  shape_with : Shaped (with_line s new b)
  shape_with = record {
    all_keys = put_length b.keys new.key s room long ∙ shaped.all_keys;
    all_newkeys = put_length b.newkeys new.newkey s new_room longer ∙ shaped.all_newkeys;
    all_counters = length-set b.counters s new.counter ∙ shaped.all_counters;
    all_newcounters = length-set b.newcounters s new.newcounter ∙ shaped.all_newcounters;
    all_held = length-set b.held s new.held ∙ shaped.all_held;
    all_waits = length-set b.waits s new.waits ∙ shaped.all_waits;
    all_authorities = length-set b.authorities s new.authority ∙ shaped.all_authorities;
    uid_long = shaped.uid_long;
  }

  pub shape_kept : Shaped (put_line s new b)
  shape_kept = rw (put_fits s new b fits) shape_with

-- what stands beside the lines
pub besides : (s : ℕ) (new : Line) (b : Book) → ((put_line s new b).uid ≡ b.uid) × ((put_line s new b).marks ≡ b.marks)
unfolding put_line
besides s new b = tests (leb s 14)
  where
    tests : (t : Bool) → ((cond t (with_line s new b) b).uid ≡ b.uid) × ((cond t (with_line s new b) b).marks ≡ b.marks)
    tests true = (refl, refl)
    tests false = (refl, refl)
