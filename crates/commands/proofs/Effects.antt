-- What each command does to a made device.
-- Assumes nothing.
use mathlib.Core.Path.{◌≡◌, refl, ap, ◌∙◌}
use mathlib.Core.Bool.{Bool, true, not, ◌&&◌, ◌||◌}
use mathlib.Core.List.{List, [], ◌∷◌}
use Prim.Native.Nat.{ℕ, ◌≤◌}
use native.Mathlib.Omega.{arith}
use borrow.Author.Tests.{eqb-true, not-false}
use lib.Dec.{eqb}
use lib.ListN.{length}
use Rattle.laws.specs.Ranges.{row_of}
use Rattle.laws.specs.Same.{same}
use Rattle.aes.specs.State.{Block}
use Rattle.aes.proofs.Bytes.{zero_block_lem}
use Rattle.basics.specs.Answers.{rng_seed}
use Rattle.basics.proofs.Faults.{no_fault}
use Rattle.basics.specs.Marks.{off, on, is_on}
use Rattle.modes.specs.Blocks.{zero_block}
use Rattle.message.specs.Slots.{flags_kept, counter_kept}
use Rattle.device.specs.Account.{answer_by}
use Rattle.device.specs.Made.{new_marks, slot_fine, Sound}
use Rattle.device.specs.Record.{secret_key, ram_key, rng_mark, plain_mark, debugger_mark, is_marked, is_empty, slot_at, set_random, set_mark, set_marks, put_slot, Shaped}
use Rattle.device.specs.Rules.{kept}
use Rattle.device.specs.declared.Device.{Device}
use Rattle.device.specs.declared.Slot.{Slot}
use Rattle.device.proofs.Account.{made_and_long}
use Rattle.device.proofs.Effects.{Effective, loads_nothing, sets_mark}
use Rattle.device.proofs.Made.{PartsFit, AtRest, Made, facts, is_made, plain_still, rests_still, mark_fits, new_marks_fit, put_sound, empty_there, empty_elsewhere}
use Rattle.device.proofs.Marks.{that_mark, mark_shape, marks_shape}
use Rattle.device.proofs.Slots.{put_fits, other_slot}
use Rattle.commands.specs.Commands.{after_reset, reset, attach_debugger, load_plain_key, init_rng, extend_seed, rnd}

-- ---- marks and random numbers: the slots stay
pub attach_debugger_effect : Effective attach_debugger
unfolding attach_debugger
attach_debugger_effect d sound bytes none =
    sets_mark debugger_mark on d sound (omega arith) refl (λ z. omega (arith, z)) (λ z. omega (arith, z)) (λ z. omega (arith, z))

module _ (d : Device) (sound : Sound d) (seed state key : List ℕ) where
  abbrev moved : Device
  moved = set_random seed state key d

  begun : Sound (set_mark rng_mark on moved)
  begun =
      let f = facts d sound.1 in
      let m : Made (set_mark rng_mark on moved)
      = record {
        fits = mark_fits rng_mark on moved sound.0 (omega arith) refl f.fits (λ z. omega (arith, z));
        secret = f.secret;
        plain_fits = plain_still rng_mark on moved f.plain_fits (λ z. omega (arith, z));
        at_rest = ap (λ (b : Bool). b || (same state zero_block && same key zero_block)) (that_mark rng_mark on moved sound.0 (omega arith));
      } in
      (mark_shape rng_mark on moved sound.0, is_made (set_mark rng_mark on moved) m)

  -- where random numbers are initialised they may be any
  still_on : is_marked d rng_mark ≡ true → Sound moved
  still_on h =
      let f = facts d sound.1 in
      let m : Made moved
      = record {
        fits = f.fits;
        secret = f.secret;
        plain_fits = f.plain_fits;
        at_rest = ap (λ (b : Bool). b || (same state zero_block && same key zero_block)) h;
      } in
      (sound.0, is_made moved m)

pub init_rng_effect : Effective init_rng
unfolding init_rng
init_rng_effect d sound bytes none = loads_nothing d _ (begun d sound _ _ _) refl (λ s low. refl)

-- EXTEND_SEED and RND succeed where they are
is_initialised : (d : Device) (lengths : Bool) → answer_by d lengths ((not (is_marked d rng_mark), rng_seed) ∷ []) ≡ 0
    → is_marked d rng_mark ≡ true
is_initialised d lengths e =
    not-false _ (no_fault (not (is_marked d rng_mark)) 8 0 (λ z. omega (arith, z)) (made_and_long d lengths _ e).2).0

pub extend_seed_effect : (entropy : List ℕ) → Effective (extend_seed entropy)
unfolding extend_seed
extend_seed_effect entropy d sound bytes none =
    loads_nothing d _ (still_on d sound _ _ _ (is_initialised d (eqb (length entropy) 16) none)) refl (λ s low. refl)

pub rnd_effect : (output : List ℕ) → Effective (rnd output)
unfolding rnd
rnd_effect output d sound bytes none =
    loads_nothing d _ (still_on d sound _ _ _ (is_initialised d (eqb (length output) 16) none)) refl (λ s low. refl)

-- ---- slot 14 put anew
module _ (e : Device) (key : List ℕ) (empty : ℕ) (shaped : Shaped e) (block : Block key) where
  abbrev ram : Slot
  ram = record { key = key; counter = 0; flags = 0; empty = empty }

  beside_ram : (s : ℕ) → s ≤ 13 → slot_at (put_slot ram_key ram e) s ≡ slot_at e s
  beside_ram s low =
      ap (λ (x : Device). slot_at x s) (put_fits ram_key ram e (omega arith))
      ∙ other_slot ram_key ram e shaped (omega arith) block.long s (λ z. omega (arith, low, z))

  ram_uid : (put_slot ram_key ram e).uid ≡ e.uid
  ram_uid = ap (λ (x : Device). x.uid) (put_fits ram_key ram e (omega arith))

  ram_sound : PartsFit e → not (is_empty e secret_key) ≡ true → AtRest e → slot_fine ram_key ram ≡ true
      → (not (is_on empty) || not (is_marked e plain_mark)) ≡ true → Sound (put_slot ram_key ram e)
  ram_sound fits secret rest fine plain =
      let last : 14 ≤ 14 = omega arith in
      let there = empty_there ram_key ram e shaped last block.long in
      let elsewhere = empty_elsewhere ram_key ram e shaped last block.long secret_key (λ z. omega (arith, z)) in
      put_sound ram_key ram e shaped last block.long block.small fits fine (ap not elsewhere ∙ secret)
      (ap (λ (b : Bool). not b || not (is_marked e plain_mark)) there ∙ plain) rest

-- reset: marks and random numbers first
module _ (d : Device) (sound : Sound d) where
  abbrev quiet : Device
  quiet = set_marks new_marks (set_random d.seed zero_block zero_block d)

  quiet_shape : Shaped quiet
  quiet_shape = marks_shape new_marks (set_random d.seed zero_block zero_block d) refl sound.0

  quiet_fits : PartsFit quiet
  quiet_fits = let f = (facts d sound.1).fits in record { mark = refl; named = f.named; slots = f.slots; all_marks = new_marks_fit }

  quiet_rests : AtRest quiet
  unfolding same
  quiet_rests = refl

  pub reset_sound : Sound (after_reset d)
  unfolding slot_fine counter_kept kept flags_kept row_of same
  reset_sound = ram_sound quiet zero_block on quiet_shape zero_block_lem quiet_fits (facts d sound.1).secret quiet_rests refl refl

pub reset_effect : Effective reset
unfolding reset
reset_effect d sound bytes none =
    loads_nothing d _ (reset_sound d sound) (ram_uid (quiet d sound) zero_block on (quiet_shape d sound) zero_block_lem)
    (beside_ram (quiet d sound) zero_block on (quiet_shape d sound) zero_block_lem)

-- LOAD_PLAIN_KEY
module _ (d : Device) (sound : Sound d) (key : List ℕ) (block : Block key) where
  abbrev marked : Device
  marked = set_mark plain_mark on d

  pub plain_sound : Sound (put_slot ram_key (record { key = key; counter = 0; flags = 0; empty = off }) marked)
  unfolding slot_fine counter_kept kept flags_kept row_of
  plain_sound =
      let f = facts d sound.1 in
      let rest = rests_still plain_mark on d f.at_rest (λ z. omega (arith, z)) in
      ram_sound marked key off (mark_shape plain_mark on d sound.0) block
      (mark_fits plain_mark on d sound.0 (omega arith) refl f.fits (λ z. omega (arith, z))) f.secret rest refl refl

pub load_plain_key_effect : (key : List ℕ) → Effective (load_plain_key key)
unfolding load_plain_key
load_plain_key_effect key d sound bytes none =
    let block : Block key = record { long = eqb-true (length key) 16 (made_and_long d (eqb (length key) 16) [] none).1; small = bytes 0 } in
    let shaped = mark_shape plain_mark on d sound.0 in
    loads_nothing d _ (plain_sound d sound key block) (ram_uid (marked d sound key block) key off shaped block)
    (beside_ram (marked d sound key block) key off shaped block)
