-- What the boot check does to a made device: a bootloader that is learnt fills slot 3 and nothing else, one that is checked changes
-- marks alone.
-- Assumes nothing.
use mathlib.Core.Path.{◌≡◌, refl, sym, ap, ◌∙◌}
use mathlib.Core.Bool.{Bool, true, false, not, cond, ◌||◌, true≢false}
use mathlib.Core.List.{List, [], ◌∷◌}
use mathlib.Core.Logic.{inl}
use mir.Val.{bool_byte}
use Prim.Native.Nat.{ℕ, ◌≤◌, ◌<◌}
use native.Mathlib.Decide.{ℕ_discrete}
use native.Mathlib.Omega.{arith}
use Rattle.laws.specs.Ranges.{row_of}
use Rattle.laws.specs.Same.{same}
use Rattle.aes.specs.State.{Block}
use Rattle.basics.specs.Marks.{is_mark, off, on, is_on}
use Rattle.modes.specs.Cmac.{whole_blocks, text_mac}
use Rattle.modes.proofs.MacSteps.{mac_block}
use Rattle.message.specs.Slots.{flags_kept, counter_kept}
use Rattle.device.specs.Made.{slot_fine, Sound}
use Rattle.device.specs.Record.{boot_mac_key, secret_key, ram_key, boot_mac, mark_count, booted_mark, secure_boot_mark, boot_init_mark, boot_finished_mark, boot_ok_mark, is_marked, is_empty, key_at, counter_at, slot_at, set_mark, Shaped}
use Rattle.device.specs.Rules.{kept}
use Rattle.device.specs.declared.Device.{Device}
use Rattle.device.specs.declared.Slot.{Slot}
use Rattle.device.proofs.Effects.{Effect, Effective, loads_nothing, same_counter, sets_mark}
use Rattle.device.proofs.Made.{facts, empty_counter, put_sound, empty_elsewhere}
use Rattle.device.proofs.Marks.{that_mark, other_mark}
use Rattle.device.proofs.Record.{key_block}
use Rattle.device.proofs.Slots.{put_fits, that_slot, other_slot}
use Rattle.boot.specs.Boot.{measured, measure, learnt, checked, booted, secure_boot, boot_failure, boot_ok}

-- a test as a mark
test_mark : (b : Bool) → is_mark (bool_byte b) ≡ true
test_mark true = refl
test_mark false = refl

mark_of_test : (b : Bool) → is_on (bool_byte b) ≡ b
mark_of_test true = refl
mark_of_test false = refl

-- ---- a mark of the boot check set anew, to which nothing is tied
set_sound : (place mark : ℕ) (d : Device) → Sound d → 3 < place → place < mark_count → is_mark mark ≡ true → Sound (set_mark place mark d)
set_sound place mark d sound above room h =
    (sets_mark place mark d sound room h (λ z. omega (arith, above, z)) (λ z. omega (arith, above, z)) (λ z. omega (arith, above, z))).sound

pub boot_ok_effect : Effective boot_ok
unfolding boot_ok
boot_ok_effect d sound bytes none =
    loads_nothing d _ (set_sound boot_finished_mark on d sound (omega arith) (omega arith) refl) refl (λ s low. refl)

pub boot_failure_effect : Effective boot_failure
unfolding boot_failure
boot_failure_effect d sound bytes none =
    let one = set_sound boot_finished_mark on d sound (omega arith) (omega arith) refl in
    loads_nothing d _ (set_sound boot_ok_mark off (set_mark boot_finished_mark on d) one (omega arith) (omega arith) refl) refl (λ s low. refl)

-- ---- what is measured is a block
pub measure_block : (d : Device) (bootloader : List ℕ) → Shaped d → Block (measure d bootloader)
unfolding measure text_mac
measure_block d bootloader shaped =
    mac_block (key_at d boot_mac_key) _ (whole_blocks (measured bootloader)) (key_block d boot_mac_key shaped)

-- ---- a bootloader that is checked: four marks
module _ (agrees : Bool) (d : Device) (sound : Sound d) where
  abbrev ran : Device
  ran = set_mark booted_mark on d

  abbrev begun : Device
  begun = set_mark secure_boot_mark on ran

  abbrev judged : Device
  judged = set_mark boot_ok_mark (bool_byte agrees) begun

  ran_sound : Sound ran
  ran_sound = set_sound booted_mark on d sound (omega arith) (omega arith) refl

  begun_sound : Sound begun
  begun_sound = set_sound secure_boot_mark on ran ran_sound (omega arith) (omega arith) refl

  judged_sound : Sound judged
  judged_sound = set_sound boot_ok_mark (bool_byte agrees) begun begun_sound (omega arith) (omega arith) (test_mark agrees)

  checked_sound : Sound (checked agrees d)
  unfolding checked
  checked_sound = set_sound boot_finished_mark (bool_byte (not agrees)) judged judged_sound (omega arith) (omega arith) (test_mark (not agrees))

  checked_effect : Effect [] (boot_mac ∷ []) d (checked agrees d)
  unfolding checked
  checked_effect = record {
    sound = checked_sound;
    uid_stays = refl;
    stays = λ s low other full. refl;
    never_falls = λ s low. same_counter d (checked agrees d) s refl;
    rises = λ s low one. absurd one;
  }

  last_other : (place : ℕ) → (place ≡ boot_finished_mark → ⊥) → is_marked (checked agrees d) place ≡ is_marked judged place
  unfolding checked
  last_other place other = other_mark boot_finished_mark (bool_byte (not agrees)) judged place other

  pub checked_finished : is_marked (checked agrees d) boot_finished_mark ≡ not agrees
  unfolding checked
  checked_finished =
      that_mark boot_finished_mark (bool_byte (not agrees)) judged judged_sound.0 (omega arith) ∙ mark_of_test (not agrees)

  pub checked_ok : is_marked (checked agrees d) boot_ok_mark ≡ agrees
  checked_ok =
      last_other boot_ok_mark (λ z. omega (arith, z)) ∙ that_mark boot_ok_mark (bool_byte agrees) begun begun_sound.0 (omega arith)
      ∙ mark_of_test agrees

  pub checked_secure : is_marked (checked agrees d) secure_boot_mark ≡ true
  checked_secure =
      last_other secure_boot_mark (λ z. omega (arith, z)) ∙ other_mark boot_ok_mark (bool_byte agrees) begun secure_boot_mark (λ z. omega (arith, z))
      ∙ that_mark secure_boot_mark on ran ran_sound.0 (omega arith)

  pub checked_booted : is_marked (checked agrees d) booted_mark ≡ true
  checked_booted =
      last_other booted_mark (λ z. omega (arith, z)) ∙ other_mark boot_ok_mark (bool_byte agrees) begun booted_mark (λ z. omega (arith, z))
      ∙ other_mark secure_boot_mark on ran booted_mark (λ z. omega (arith, z)) ∙ that_mark booted_mark on d sound.0 (omega arith)

-- ---- one that is learnt: slot 3, which was empty
module _ (mac : List ℕ) (block : Block mac) (d : Device) (sound : Sound d) where
  abbrev marked : Device
  marked = set_mark boot_init_mark on (set_mark booted_mark on d)

  abbrev own : Slot
  own = record { key = mac; counter = 0; flags = 0; empty = off }

  marked_sound : Sound marked
  marked_sound =
      set_sound boot_init_mark on (set_mark booted_mark on d) (set_sound booted_mark on d sound (omega arith) (omega arith) refl) (omega arith)
      (omega arith) refl

  fits : boot_mac ≤ 14
  fits = omega arith

  own_fine : slot_fine boot_mac own ≡ true
  unfolding slot_fine counter_kept kept flags_kept row_of
  own_fine = refl

  learnt_sound : Sound (learnt mac d)
  unfolding learnt
  learnt_sound =
      let m = facts marked marked_sound.1 in
      let elsewhere = empty_elsewhere boot_mac own marked marked_sound.0 fits block.long in
      put_sound boot_mac own marked marked_sound.0 fits block.long block.small m.fits own_fine
      (ap not (elsewhere secret_key (λ z. omega (arith, z))) ∙ m.secret)
      (ap (λ (b : Bool). not b || not (is_marked marked 1)) (elsewhere ram_key (λ z. omega (arith, z))) ∙ m.plain_fits) m.at_rest

  pub learnt_there : slot_at (learnt mac d) boot_mac ≡ record { key = mac; counter = 0; flags = 0; empty = off }
  unfolding learnt
  learnt_there =
      ap (λ (e : Device). slot_at e boot_mac) (put_fits boot_mac own marked fits) ∙ that_slot boot_mac own marked marked_sound.0 fits block.long

  pub learnt_elsewhere : (s : ℕ) → (s ≡ boot_mac → ⊥) → slot_at (learnt mac d) s ≡ slot_at d s
  unfolding learnt
  learnt_elsewhere s other =
      ap (λ (e : Device). slot_at e s) (put_fits boot_mac own marked fits) ∙ other_slot boot_mac own marked marked_sound.0 fits block.long s other

  pub learnt_booted : is_marked (learnt mac d) booted_mark ≡ true
  unfolding learnt
  learnt_booted =
      ap (λ (e : Device). is_marked e booted_mark) (put_fits boot_mac own marked fits)
      ∙ other_mark boot_init_mark on (set_mark booted_mark on d) booted_mark (λ z. omega (arith, z)) ∙ that_mark booted_mark on d sound.0 (omega arith)

  pub learnt_secure : is_marked (learnt mac d) secure_boot_mark ≡ is_marked d secure_boot_mark
  unfolding learnt
  learnt_secure =
      ap (λ (e : Device). is_marked e secure_boot_mark) (put_fits boot_mac own marked fits)
      ∙ other_mark boot_init_mark on (set_mark booted_mark on d) secure_boot_mark (λ z. omega (arith, z))
      ∙ other_mark booted_mark on d secure_boot_mark (λ z. omega (arith, z))

  learnt_effect : is_empty d boot_mac ≡ true → Effect [] (boot_mac ∷ []) d (learnt mac d)
  unfolding learnt
  learnt_effect empty = record {
    sound = learnt_sound;
    uid_stays = ap (λ (e : Device). e.uid) (put_fits boot_mac own marked fits);
    stays = λ s low other full. learnt_elsewhere s (λ e. true≢false (sym empty ∙ ap (is_empty d) (sym e) ∙ full (inl e)));
    never_falls = λ s low. counts s (ℕ_discrete s boot_mac);
    rises = λ s low one. absurd one;
  }
    where
      counts : (s : ℕ) → Dec (s ≡ boot_mac) → counter_at d s ≤ counter_at (learnt mac d) s
      counts s (yes e) = omega (arith, ap (counter_at d) e, empty_counter d (facts d sound.1) boot_mac (omega arith) empty)
      counts s (no other) = same_counter d (learnt mac d) s (learnt_elsewhere s other)

-- ---- SECURE_BOOT, by the two ways
module _ (mac : List ℕ) (d : Device) where
  pub booted_empty : is_empty d boot_mac ≡ true → booted mac d ≡ learnt mac d
  booted_empty empty = ap (λ (b : Bool). cond b (learnt mac d) (checked (same mac (key_at d boot_mac)) d)) empty

  pub booted_full : is_empty d boot_mac ≡ false → booted mac d ≡ checked (same mac (key_at d boot_mac)) d
  booted_full full = ap (λ (b : Bool). cond b (learnt mac d) (checked (same mac (key_at d boot_mac)) d)) full

pub booted_effect : (bootloader : List ℕ) (d : Device) → Sound d → Effect [] (boot_mac ∷ []) d (booted (measure d bootloader) d)
booted_effect bootloader d sound = ways (is_empty d boot_mac) refl
  where
    ways : (b : Bool) → is_empty d boot_mac ≡ b
        → Effect [] (boot_mac ∷ []) d (cond b (learnt (measure d bootloader) d) (checked (same (measure d bootloader) (key_at d boot_mac)) d))
    ways true empty = learnt_effect (measure d bootloader) (measure_block d bootloader sound.0) d sound empty
    ways false full = checked_effect (same (measure d bootloader) (key_at d boot_mac)) d sound

pub secure_boot_effect : (bootloader : List ℕ) → Effective (secure_boot bootloader)
unfolding secure_boot
secure_boot_effect bootloader d sound bytes none = booted_effect bootloader d sound

-- either way it ran
pub booted_ran : (bootloader : List ℕ) (d : Device) → Sound d → is_marked (booted (measure d bootloader) d) booted_mark ≡ true
booted_ran bootloader d sound = ways (is_empty d boot_mac)
  where
    ways : (b : Bool)
        → is_marked (cond b (learnt (measure d bootloader) d) (checked (same (measure d bootloader) (key_at d boot_mac)) d)) booted_mark ≡ true
    ways true = learnt_booted (measure d bootloader) (measure_block d bootloader sound.0) d sound
    ways false = checked_booted (same (measure d bootloader) (key_at d boot_mac)) d sound
