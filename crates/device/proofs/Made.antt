-- What a made record is, fact by fact; and which changes keep it made. What a made record is, is said of its UID, its slots
-- and its marks as such, and not of the record; so a change of anything else leaves the very same fact, and none is listed
-- again. Two marks are tied to something else, and these ties are shown for each change that touches one.
-- Assumes nothing.
use mathlib.Core.Path.{◌≡◌, refl, sym, ap, ◌∙◌, subst}
use mathlib.Core.Bool.{Bool, true, false, not, ◌&&◌, ◌||◌, or-true}
use mathlib.Core.List.{List}
use Prim.Native.Nat.{ℕ, ◌≤◌, ◌<◌}
use native.Mathlib.Decide.{ℕ_discrete}
use native.Mathlib.Omega.{arith}
use borrow.Author.Tests.{eqb-true, not-true}
use lib.Bits.{bit_and, and_zero_r}
use lib.Dec.{eqb, leb}
use lib.ListN.{length, set}
use lib.Seq.{get_or-set_same, get_or-set_other}
use Rattle.laws.specs.All.{all}
use Rattle.laws.specs.Ranges.{row_of}
use Rattle.laws.specs.Same.{same}
use Rattle.laws.specs.Tabulate.{tabulate}
use Rattle.laws.proofs.Test.{both, all_each, each_all}
use Rattle.aes.proofs.Bytes.{zero_bytes}
use Rattle.aes.specs.State.{byte, Block, Bytes}
use Rattle.basics.specs.Bytes.{block_at, zero_uid}
use Rattle.basics.specs.Marks.{is_mark, off, is_on}
use Rattle.modes.specs.Blocks.{zero_block}
use Rattle.message.specs.FirstBlock.{max_counter}
use Rattle.message.specs.Slots.{flags_kept, counter_kept}
use Rattle.device.specs.Made.{is_zero, slot_fine, slots_fine, marks_fine, made, new_marks, unkeyed, fresh, Sound}
use Rattle.device.specs.Record.{secret_key, ram_key, mark_count, rng_mark, plain_mark, made_mark, mark_at, is_marked, key_at, counter_at, flags_at, empty_at, is_empty, slot_at, set_mark, with_slot, put_slot, Shaped}
use Rattle.device.specs.Rules.{kept}
use Rattle.device.specs.declared.Device.{Device}
use Rattle.device.specs.declared.Slot.{Slot}
use Rattle.device.proofs.Marks.{other_mark}
use Rattle.device.proofs.Slots.{put_fits, that_slot, other_slot, shape_kept}

-- what is asked of UID, slots and marks, each by itself. A change elsewhere leaves this as it is, and says nothing of it
pub record Fit (uid : List ℕ) (slot : ℕ → Slot) (marks : List ℕ) : Type 0 where
  pub mark : is_on (byte marks made_mark) ≡ true
  pub named : not (same uid zero_uid) ≡ true
  pub slots : (s : ℕ) → s < 15 → slot_fine s (slot s) ≡ true
  pub all_marks : (place : ℕ) → place < mark_count → is_mark (byte marks place) ≡ true

abbrev pub PartsFit : Device → Type 0
PartsFit d = Fit d.uid (slot_at d) d.marks

-- and what ties a mark to something else
abbrev pub PlainFits : Device → Type 0
PlainFits d = (not (is_empty d ram_key) || not (is_marked d plain_mark)) ≡ true

abbrev pub AtRest : Device → Type 0
AtRest d = (is_marked d rng_mark || (same d.state zero_block && same d.rngkey zero_block)) ≡ true

pub record Made (d : Device) : Type 0 where
  pub fits : PartsFit d
  pub secret : not (is_empty d secret_key) ≡ true
  pub plain_fits : PlainFits d
  pub at_rest : AtRest d

pub facts : (d : Device) → made d ≡ true → Made d
unfolding made slots_fine marks_fine
facts d h =
    let a = both _ (all mark_count (λ place. is_mark (mark_at d place))) h in
    let b = both _ (is_marked d rng_mark || (same d.state zero_block && same d.rngkey zero_block)) a.0 in
    let c = both _ (not (is_empty d ram_key) || not (is_marked d plain_mark)) b.0 in
    let e = both _ (all 15 (λ s. slot_fine s (slot_at d s))) c.0 in
    let f = both _ (not (is_empty d secret_key)) e.0 in
    let g = both (is_marked d made_mark) (not (same d.uid zero_uid)) f.0 in
    record {
      fits = record {
        mark = g.0;
        named = g.1;
        slots = all_each 15 (λ s. slot_fine s (slot_at d s)) e.1;
        all_marks = all_each mark_count (λ place. is_mark (mark_at d place)) a.1;
      };
      secret = f.1;
      plain_fits = c.1;
      at_rest = b.1;
    }

pub is_made : (d : Device) → Made d → made d ≡ true
unfolding made slots_fine marks_fine
is_made d m =
    let f = m.fits in
    rw (f.mark, f.named, m.secret, each_all 15 (λ s. slot_fine s (slot_at d s)) f.slots, m.plain_fits, m.at_rest, each_all mark_count (λ place. is_mark (mark_at d place)) f.all_marks) refl

-- ---- SECRET_KEY is there; a slot that keeps no flags has none, and one that is empty no counter
module _ (d : Device) (m : Made d) where
  pub secret_present : is_empty d secret_key ≡ false
  secret_present = not-true (is_empty d secret_key) m.secret

  pub flagless : (s : ℕ) → s < 15 → flags_kept s ≡ 0 → flags_at d s ≡ 0
  unfolding slot_fine kept
  flagless s fits none =
      let counter : Bool = leb (counter_at d s) (counter_kept s max_counter) in
      let flags : Bool = eqb (bit_and (flags_at d s) (flags_kept s)) (flags_at d s) in
      let three = (both (is_mark (empty_at d s) && counter && flags) (not (is_empty d s) || is_zero (slot_at d s)) (m.fits.slots s fits)).0 in
      let same = eqb-true _ _ (both (is_mark (empty_at d s) && counter) flags three).1 in
      sym same ∙ ap (bit_and (flags_at d s)) none ∙ and_zero_r (flags_at d s)

  pub empty_counter : (s : ℕ) → s < 15 → is_empty d s ≡ true → counter_at d s ≡ 0
  unfolding slot_fine
  empty_counter s fits empty =
      let counter : Bool = leb (counter_at d s) (counter_kept s max_counter) in
      let flags : Bool = eqb (kept s (flags_at d s)) (flags_at d s) in
      let zero = (both (is_mark (empty_at d s) && counter && flags) (not (is_empty d s) || is_zero (slot_at d s)) (m.fits.slots s fits)).1 in
      let all = sym (ap (λ (b : Bool). not b || is_zero (slot_at d s)) empty) ∙ zero in
      let two = (both (same (key_at d s) zero_block && eqb (counter_at d s) 0) (eqb (flags_at d s) 0) all).0 in
      eqb-true (counter_at d s) 0 (both (same (key_at d s) zero_block) (eqb (counter_at d s) 0) two).1

-- ---- a mark set anew leaves what ties another
module _ (place mark : ℕ) (d : Device) where
  pub plain_still : PlainFits d → (place ≡ plain_mark → ⊥) → PlainFits (set_mark place mark d)
  plain_still fits other =
      ap (λ (b : Bool). not (is_empty d ram_key) || not b) (other_mark place mark d plain_mark (λ e. other (sym e))) ∙ fits

  pub rests_still : AtRest d → (place ≡ rng_mark → ⊥) → AtRest (set_mark place mark d)
  rests_still rests other =
      ap (λ (b : Bool). b || (same d.state zero_block && same d.rngkey zero_block)) (other_mark place mark d rng_mark (λ e. other (sym e)))
      ∙ rests

-- ---- a mark set anew, other than that the device is made
module _ (place mark : ℕ) (d : Device) (shaped : Shaped d) (room : place < mark_count) (h : is_mark mark ≡ true) where
  pub mark_fits : PartsFit d → (place ≡ made_mark → ⊥) → PartsFit (set_mark place mark d)
  mark_fits f other = record {
    mark = other_mark place mark d made_mark (λ e. other (sym e)) ∙ f.mark;
    named = f.named;
    slots = f.slots;
    all_marks = λ k l. each k l (ℕ_discrete k place);
  }
    where
      each : (k : ℕ) → k < mark_count → Dec (k ≡ place) → is_mark (byte (set d.marks place mark) k) ≡ true
      each k l (yes e) =
          ap (λ (n : ℕ). is_mark (byte (set d.marks place mark) n)) e
          ∙ ap is_mark (get_or-set_same d.marks place mark 0 (omega (arith, room, shaped.all_marks))) ∙ h
      each k l (no e) = ap is_mark (get_or-set_other d.marks place k mark 0 e) ∙ f.all_marks k l

  -- one that nothing is tied to
  pub mark_set : Made d → (place ≡ made_mark → ⊥) → (place ≡ plain_mark → ⊥) → (place ≡ rng_mark → ⊥) → Made (set_mark place mark d)
  mark_set m made plain rng = record {
    fits = mark_fits m.fits made;
    secret = m.secret;
    plain_fits = plain_still place mark d m.plain_fits plain;
    at_rest = rests_still place mark d m.at_rest rng;
  }

-- ---- one slot put anew, where all else is as it must be
module _ (s : ℕ) (new : Slot) (d : Device) (shaped : Shaped d) (fits : s ≤ 14) (long : length new.key ≡ 16) where
  -- whether a slot is empty after that
  pub empty_there : is_empty (with_slot s new d) s ≡ is_on new.empty
  empty_there = ap (λ (x : Slot). is_on x.empty) (that_slot s new d shaped fits long)

  pub empty_elsewhere : (k : ℕ) → (k ≡ s → ⊥) → is_empty (with_slot s new d) k ≡ is_empty d k
  empty_elsewhere k e = ap (λ (x : Slot). is_on x.empty) (other_slot s new d shaped fits long k e)

  slot_fits : PartsFit d → slot_fine s new ≡ true → PartsFit (with_slot s new d)
  slot_fits f fine = record {
    mark = f.mark;
    named = f.named;
    slots = λ k l. each k l (ℕ_discrete k s);
    all_marks = f.all_marks;
  }
    where
      each : (k : ℕ) → k < 15 → Dec (k ≡ s) → slot_fine k (slot_at (with_slot s new d) k) ≡ true
      each k l (yes e) =
          subst (λ (n : ℕ). slot_fine n (slot_at (with_slot s new d) n) ≡ true) (sym e) (ap (slot_fine s) (that_slot s new d shaped fits long) ∙ fine)
      each k l (no e) = ap (slot_fine k) (other_slot s new d shaped fits long k e) ∙ f.slots k l

  pub put_sound : Bytes new.key → PartsFit d → slot_fine s new ≡ true → not (is_empty (with_slot s new d) secret_key) ≡ true
      → PlainFits (with_slot s new d) → AtRest d → Sound (put_slot s new d)
  put_sound small f fine secret plain rest =
      let put = put_fits s new d fits in
      let m : Made (with_slot s new d) = record { fits = slot_fits f fine; secret = secret; plain_fits = plain; at_rest = rest } in
      (subst Shaped (sym put) (shape_kept s new d shaped fits long small), ap made put ∙ is_made (with_slot s new d) m)

-- ---- a new device, and its marks
tested_marks : all mark_count (λ place. is_mark (byte new_marks place)) ≡ true
unfolding all
tested_marks = refl

pub new_marks_fit : (place : ℕ) → place < mark_count → is_mark (byte new_marks place) ≡ true
new_marks_fit = all_each mark_count (λ place. is_mark (byte new_marks place)) tested_marks

module _ (uid seed : List ℕ) (long : length uid ≡ 15) where
  unkeyed_shape : Shaped (unkeyed uid seed)
  unkeyed_shape = record {
    all_keys = refl;
    key_bytes = zero_bytes 240;
    all_counters = refl;
    all_flags = refl;
    all_empty = refl;
    uid_long = long;
    all_marks = refl;
  }

  unkeyed_slots : all 15 (λ s. slot_fine s (slot_at (unkeyed uid seed) s)) ≡ true
  unfolding all slot_fine counter_kept kept flags_kept row_of block_at tabulate same
  unkeyed_slots = refl

  unkeyed_fits : same uid zero_uid ≡ false → PartsFit (unkeyed uid seed)
  unkeyed_fits other = record {
    mark = refl;
    named = ap not other;
    slots = all_each 15 (λ s. slot_fine s (slot_at (unkeyed uid seed) s)) unkeyed_slots;
    all_marks = new_marks_fit;
  }

  unkeyed_rests : AtRest (unkeyed uid seed)
  unfolding same
  unkeyed_rests = refl

  module _ (secret : List ℕ) (block : Block secret) where
    new : Slot
    new = record { key = secret; counter = 0; flags = 0; empty = off }

    new_fine : slot_fine 0 new ≡ true
    unfolding new slot_fine counter_kept kept flags_kept row_of
    new_fine = refl

    pub fresh_sound : same uid zero_uid ≡ false → Sound (fresh uid secret seed)
    unfolding new
    fresh_sound other =
        let there = empty_there 0 new (unkeyed uid seed) unkeyed_shape (omega arith) block.long in
        put_sound 0 new (unkeyed uid seed) unkeyed_shape (omega arith) block.long block.small (unkeyed_fits other) new_fine (ap not there)
        (or-true (not (is_empty (with_slot 0 new (unkeyed uid seed)) ram_key))) unkeyed_rests
