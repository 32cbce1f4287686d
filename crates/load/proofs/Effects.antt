-- What LOAD_KEY does to a made device. That flags as kept are kept again is `and_twice` of `laws/proofs/And.antt`.
-- Assumes nothing.
use mathlib.Core.Path.{◌≡◌, refl, sym, ap, ap₂, ◌∙◌, subst}
use mathlib.Core.Bool.{Bool, true, false, not, cond, ◌||◌, or-true}
use mathlib.Core.List.{List}
use mathlib.Core.Logic.{inl, ⊎_elim}
use Prim.Native.Nat.{ℕ, ◌≤◌, ◌<◌}
use native.Mathlib.Decide.{ℕ_discrete}
use native.Mathlib.Omega.{arith}
use borrow.Author.Tests.{le-leb, eq-eqb, ne_eqb, ltb-true}
use lib.Dec.{eqb, leb, ltb}
use lib.ListN.{length, replicate}
use Rattle.laws.specs.Lengths.{right_lengths}
use Rattle.laws.specs.Ranges.{within, row_of}
use Rattle.laws.proofs.And.{and_twice}
use Rattle.laws.proofs.Lengths.{each_right}
use Rattle.aes.specs.State.{Bytes, Block}
use Rattle.aes.proofs.Bytes.{tested_bytes}
use Rattle.basics.specs.Marks.{is_mark, off, is_on}
use Rattle.message.specs.Building.{uid_of, target_of, authority_of, Carried}
use Rattle.message.specs.FirstBlock.{max_counter}
use Rattle.message.specs.Messages.{sent, build}
use Rattle.message.specs.Slots.{flags_kept, counter_kept}
use Rattle.message.specs.Opening.{Opened}
use Rattle.message.proofs.Building.{opens}
use Rattle.message.proofs.Slots.{pair_slots, counter_1_13}
use Rattle.device.specs.Account.{answer_by}
use Rattle.device.specs.Made.{slot_fine, Sound}
use Rattle.device.specs.Record.{secret_key, ram_key, plain_mark, mark_at, is_marked, is_empty, key_at, counter_at, slot_at, set_mark, with_slot, beside_slots, Shaped}
use Rattle.device.specs.Rules.{kept}
use Rattle.device.specs.declared.Device.{Device}
use Rattle.device.specs.declared.Slot.{Slot}
use Rattle.device.proofs.Effects.{Effective, same_counter}
use Rattle.device.proofs.Made.{PlainFits, facts, rests_still, mark_fits, put_sound, empty_elsewhere}
use Rattle.device.proofs.Marks.{that_mark, mark_shape}
use Rattle.device.proofs.Record.{key_block}
use Rattle.device.proofs.Slots.{put_fits, that_slot, other_slot}
use Rattle.load.specs.Load.{five_lengths, pair_checks, opened_answer, load_checks, opened_by, load_key}
use Rattle.load.specs.Rules.{authority_key, counter_rises, plain_after, as_kept, loaded}
use Rattle.load.proofs.Loading.{Guarded, guarded, Accepted, accepted, by_guards, by_message}

-- ---- an answer of 0 to the ten checks is one to the first six, and one to the last four
module _ (d : Device) (lengths : Bool) (one : List ℕ) (new : Opened) (e : answer_by d lengths (load_checks d one new) ≡ 0) where
  pub all_guards : answer_by d lengths (pair_checks d (target_of one) (authority_of one)) ≡ 0
  all_guards = tests (ℕ_discrete (answer_by d lengths (pair_checks d (target_of one) (authority_of one))) 0)
    where
      tests : Dec (answer_by d lengths (pair_checks d (target_of one) (authority_of one)) ≡ 0) → answer_by d lengths (pair_checks d (target_of one) (authority_of one)) ≡ 0
      tests (yes z) = z
      tests (no h) = by_guards d lengths one new h ∙ e

  pub all_checks : opened_answer d (target_of one) (uid_of one) new ≡ 0
  all_checks = by_message d lengths one new all_guards ∙ e

-- ---- an authority's key is a block
pub authority_block : (d : Device) (a : ℕ) → Shaped d → Block (authority_key d a)
unfolding authority_key
authority_block d a shaped = tests (is_empty d a)
  where
    tests : (b : Bool) → Block (cond b (replicate 16 0xff) (key_at d a))
    tests true = record { long = refl; small = tested_bytes (replicate 16 0xff) refl }
    tests false = key_block d a shaped

-- ---- what the target then holds is what it may hold
counter_kept_fits : (t c : ℕ) → c ≤ max_counter → leb (counter_kept t c) (counter_kept t max_counter) ≡ true
unfolding counter_kept row_of
counter_kept_fits t c h = tests (within 1 13 t)
  where
    tests : (b : Bool) → leb (cond b c 0) (cond b max_counter 0) ≡ true
    tests true = le-leb c max_counter h
    tests false = refl

kept_again : (t f : ℕ) → eqb (kept t (kept t f)) (kept t f) ≡ true
unfolding kept
kept_again t f = eq-eqb _ _ (and_twice f (flags_kept t))

stored_fine : (t c f : ℕ) (key : List ℕ) → c ≤ max_counter → slot_fine t (as_kept t c f key) ≡ true
unfolding slot_fine
stored_fine t c f key h = rw (counter_kept_fits t c h, kept_again t f) refl

-- ---- the plain mark
plain_is_mark : (t plain : ℕ) → is_mark plain ≡ true → is_mark (plain_after t plain) ≡ true
unfolding plain_after
plain_is_mark t plain h = tests (eqb t ram_key)
  where
    tests : (b : Bool) → is_mark (cond b off plain) ≡ true
    tests true = refl
    tests false = h

-- ---- the target put anew, and the plain mark with it
module _ (d : Device) (sound : Sound d) (t c f : ℕ) (key : List ℕ) (high : t ≤ 14) (block : Block key) where
  abbrev marked : Device
  marked = set_mark plain_mark (plain_after t (mark_at d plain_mark)) d

  abbrev slot : Slot
  slot = as_kept t c f key

  shaped : Shaped marked
  shaped = mark_shape plain_mark (plain_after t (mark_at d plain_mark)) d sound.0

  put : loaded d t c f key ≡ with_slot t slot marked
  unfolding loaded
  put = put_fits t slot marked high

  pub loaded_there : slot_at (loaded d t c f key) t ≡ slot
  loaded_there = ap (λ (e : Device). slot_at e t) put ∙ that_slot t slot marked shaped high block.long

  pub loaded_elsewhere : (s : ℕ) → (s ≡ t → ⊥) → slot_at (loaded d t c f key) s ≡ slot_at d s
  loaded_elsewhere s other = ap (λ (e : Device). slot_at e s) put ∙ other_slot t slot marked shaped high block.long s other

  pub loaded_beside : beside_slots (loaded d t c f key) ≡ beside_slots marked
  loaded_beside = ap beside_slots put

  plain_fits : PlainFits (with_slot t slot marked)
  unfolding plain_after
  plain_fits = tests (ℕ_discrete ram_key t)
    where
      plain_is : is_marked marked plain_mark ≡ is_on (plain_after t (mark_at d plain_mark))
      plain_is = that_mark plain_mark (plain_after t (mark_at d plain_mark)) d sound.0 (omega arith)

      tests : Dec (ram_key ≡ t) → PlainFits (with_slot t slot marked)
      tests (yes e) =
          ap (λ (b : Bool). not (is_empty (with_slot t slot marked) ram_key) || not b)
          (plain_is ∙ ap (λ (b : Bool). is_on (cond b off (mark_at d plain_mark))) (eq-eqb t ram_key (sym e)))
          ∙ or-true (not (is_empty (with_slot t slot marked) ram_key))
      tests (no h) =
          ap₂ (λ (a b : Bool). not a || not b) (empty_elsewhere t slot marked shaped high block.long ram_key h)
          (plain_is ∙ ap (λ (b : Bool). is_on (cond b off (mark_at d plain_mark))) (ne_eqb t ram_key (λ e. h (sym e))))
          ∙ (facts d sound.1).plain_fits

  pub loaded_sound : 1 ≤ t → c ≤ max_counter → Sound (loaded d t c f key)
  unfolding loaded
  loaded_sound low h =
      let m = facts d sound.1 in
      let mark = plain_is_mark t (mark_at d plain_mark) (m.fits.all_marks plain_mark (omega arith)) in
      let elsewhere = empty_elsewhere t slot marked shaped high block.long secret_key (λ e. omega (arith, low, e)) in
      let rest = rests_still plain_mark (plain_after t (mark_at d plain_mark)) d m.at_rest (λ z. omega (arith, z)) in
      put_sound t slot marked shaped high block.long block.small
      (mark_fits plain_mark (plain_after t (mark_at d plain_mark)) d sound.0 (omega arith) mark m.fits (λ z. omega (arith, z)))
      (stored_fine t c f key h) (ap not elsewhere ∙ m.secret) plain_fits rest

-- ---- what an answer of 0 tells of a load: what its checks found, and that what was opened builds these messages
pub record Succeeded (n : ℕ) (d : Device) (lengths : Bool) (one two three : List ℕ) (new : Opened) : Type 0 where
  pub guard : Guarded d lengths (target_of one) (authority_of one)
  pub message : Accepted d (target_of one) (uid_of one) new
  pub carried : Carried n new.counter new.flags new.key
  pub built : build n (uid_of one) (target_of one) (authority_of one) (authority_key d (authority_of one)) new.counter new.flags new.key
      ≡ sent one two three

module _ (n : ℕ) (few : n ≤ 100) (d : Device) (shaped : Shaped d) (one two three b4 b5 : List ℕ) (small : Bytes two) where
  abbrev lengths : Bool
  lengths = right_lengths (five_lengths (length one) (length two) (length three) (length b4) (length b5))

  abbrev new : Opened
  new = opened_by n d one two three

  pub succeeded : answer_by d lengths (load_checks d one new) ≡ 0 → Succeeded n d lengths one two three new
  succeeded zero =
      let g = guarded d lengths (target_of one) (authority_of one) (all_guards d lengths one new zero) in
      let m = accepted d (target_of one) (uid_of one) new (all_checks d lengths one new zero) in
      let long = each_right _ g.lengths_right in
      let block = authority_block d (authority_of one) shaped in
      let parts = opens n few (authority_key d (authority_of one)) one two three block (long 0) (record { long = long 1; small = small })
      (long 2) m.genuine m.zerofill in
      record { guard = g; message = m; carried = parts.0; built = parts.1 }

-- ---- a counter that rises is a greater one, where the slot keeps one
raised : (d e : Device) (t s c : ℕ) → t ≡ s → 1 ≤ t → s ≤ 13 → counter_rises d t c ≡ true → counter_at e t ≡ counter_kept t c
    → (1 ≤ s) × (counter_at d s < counter_at e s)
unfolding counter_rises
raised d e t s c same low high rises stored =
    let other : eqb t ram_key ≡ false = ne_eqb t ram_key (λ z. omega (arith, same, high, z)) in
    let more = ltb-true (counter_at d t) c (sym (ap (λ (b : Bool). b || ltb (counter_at d t) c) other) ∙ rises) in
    let now = stored ∙ sym (counter_1_13 t c low (omega (arith, same, high))) in
    subst (λ (k : ℕ). (1 ≤ k) × (counter_at d k < counter_at e k)) same (low, omega (arith, more, now))

-- ---- the command
module _ (n : ℕ) (few : n ≤ 100) where
  pub load_key_effect : (one two three b4 b5 : List ℕ) → Effective (load_key n one two three b4 b5)
  unfolding load_key
  load_key_effect one two three b4 b5 d sound bytes zero =
      let t : ℕ = target_of one in
      let new : Opened = opened_by n d one two three in
      let s = succeeded n few d sound.0 one two three b4 b5 (bytes 1) zero in
      let slots = pair_slots t (authority_of one) s.guard.pair in
      let block = s.carried.key_fits in
      let e : Device = loaded d t new.counter new.flags new.key in
      let elsewhere : (k : ℕ) → (k ≡ t → ⊥) → slot_at e k ≡ slot_at d k
      = loaded_elsewhere d sound t new.counter new.flags new.key slots.1 block in
      let there : (k : ℕ) → k ≤ 13 → t ≡ k → (1 ≤ k) × (counter_at d k < counter_at e k)
      = λ k low this. raised d e t k new.counter this slots.0 low s.message.rises
      (ap (λ (x : Slot). x.counter) (loaded_there d sound t new.counter new.flags new.key slots.1 block)) in
      record {
        sound = loaded_sound d sound t new.counter new.flags new.key slots.1 block slots.0 s.carried.counter_fits;
        uid_stays = ap (λ (x : Device). x.uid) (loaded_beside d sound t new.counter new.flags new.key slots.1 block);
        stays = λ k low other full. elsewhere k (λ same. other (inl same));
        never_falls = λ k low. either d e t k (ℕ_discrete k t) (elsewhere k) (there k low);
        rises = λ k low this. there k low (sym (⊎_elim (λ same. same) (λ none. absurd none) this));
      }
    where
      either : (d e : Device) (t k : ℕ) → Dec (k ≡ t) → ((k ≡ t → ⊥) → slot_at e k ≡ slot_at d k)
          → (t ≡ k → (1 ≤ k) × (counter_at d k < counter_at e k)) → counter_at d k ≤ counter_at e k
      either d e t k (yes same) elsewhere there = omega (arith, (there (sym same)).1)
      either d e t k (no other) elsewhere there = same_counter d e k (elsewhere other)
