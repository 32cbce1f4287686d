-- What the owner asks of the boot check holds of the device. That it ran, SECURE_BOOT and a BOOT_OK that is off hold on from call to
-- call until a reset, by the law of each call; and slots 2 and 3 stay as they are while neither is loaded.
-- Assumes nothing.
use mathlib.Core.Path.{◌≡◌, refl, sym, ap, ap₂, ◌∙◌, subst⁻¹}
use mathlib.Core.Bool.{Bool, true, false, not, cond, ◌&&◌, ◌||◌, or-true}
use mathlib.Core.List.{List, [], ◌∷◌, ◌++◌, append_assoc}
use Prim.Native.Nat.{ℕ, suc, ◌≤◌, ◌<◌}
use native.Mathlib.Omega.{arith}
use borrow.Author.Tests.{eqb-false, leb-true, ltb-true}
use lib.Dec.{ltb}
use lib.ListN.{length, set}
use lib.Seq.{set-get_or, get_or-set_other}
use Rattle.laws.specs.Same.{same}
use Rattle.laws.proofs.Same.{same_equal, equal_same}
use Rattle.laws.proofs.Test.{both}
use Rattle.aes.specs.State.{byte}
use Rattle.basics.specs.Answers.{no_error, sequence_error, key_not_available, no_secure_boot, general_error, first_fault}
use Rattle.basics.proofs.Faults.{no_fault, found_first}
use Rattle.basics.specs.Marks.{off, on, is_on}
use Rattle.message.specs.Flags.{boot, debugger}
use Rattle.modes.specs.Cmac.{text_mac}
use Rattle.aes.specs.Cipher.{cipher}
use Rattle.device.specs.Account.{Account, answer_by, answer_to}
use Rattle.device.specs.Made.{new_marks, made, Sound}
use Rattle.device.specs.Outcome.{Outcome}
use Rattle.device.specs.Record.{boot_mac_key, boot_mac, mark_count, debugger_mark, booted_mark, secure_boot_mark, boot_finished_mark, boot_ok_mark, mark_at, is_marked, is_empty, key_at, flags_at, slot_at, set_mark, set_marks}
use Rattle.device.specs.Rules.{has_flag, locked}
use Rattle.device.specs.declared.Device.{Device}
use Rattle.device.specs.declared.Slot.{Slot}
use Rattle.device.proofs.Account.{made_and_long, then_own}
use Rattle.device.proofs.Made.{facts}
use Rattle.device.proofs.Marks.{that_mark, mark_shape}
use Rattle.boot.specs.Boot as booting
use Rattle.boot.specs.Boot.{measured, measure, boot_lengths, boot_checks, learnt, checked, booted}
use Rattle.commands.specs.Commands as commands
use Rattle.boot.proofs.Effects.{measure_block, checked_finished, checked_ok, checked_secure, learnt_elsewhere, booted_empty, booted_full, booted_effect, booted_ran}
use Rattle.commands.proofs.Effects.{reset_effect, reset_sound}
use Rattle.demands.specs.BootCheck.{NoReset, Checked, Failed, InStep, Shut, BootCheck, BootFollows}
use Rattle.demands.specs.Calls.{Call, reset, secure_boot, boot_failure, account, step}
use Rattle.demands.specs.Runs.{run, after, loads_of, InBytes}
use Rattle.demands.proofs.BootLaws.{Holds, alike, put_marks, failure_holds, stage_is_set, fresh_in_step, boot_law}
use Rattle.demands.proofs.Laws.{other_than0, LockStands, law}
use Rattle.demands.proofs.Runs.{runs, step_sound, boots_so, learns_so, full_stays}
use Rattle.demands.proofs.Settled.{only_ours}
use Rattle.demands.proofs.Steps.{answer_found, step_done, step_either}

-- ---- a check that found a slot locked, and what stands before it
stops : (before since : List (Bool × ℕ)) → other_than0 before ≡ true → first_fault (before ++ ((true, key_not_available) ∷ since)) ≡ 0 → ⊥
stops [] since numbers zero = omega (arith, zero)
stops (check ∷ before) since numbers zero =
    let parts = both (ltb 0 check.1) (other_than0 before) numbers in
    let other : check.1 ≡ 0 → ⊥ = λ z. omega (arith, z, ltb-true 0 check.1 parts.0) in
    stops before since parts.1 (no_fault check.0 check.1 (first_fault (before ++ ((true, key_not_available) ∷ since))) other zero).1

-- what stands after it has no part in the answer
nothing_after : (before since : List (Bool × ℕ)) → other_than0 before ≡ true
    → first_fault (before ++ ((true, key_not_available) ∷ since)) ≡ first_fault (before ++ ((true, key_not_available) ∷ []))
nothing_after before since numbers =
    ap first_fault (sym (append_assoc before ((true, key_not_available) ∷ []) since))
    ∙ found_first (before ++ ((true, key_not_available) ∷ [])) since (stops before [] numbers)

shut_by : (call : Account) (d : Device) (answer : ℕ) → answer ≡ answer_to call d → LockStands (call.checks d) → Shut call d answer
unfolding answer_by
shut_by call d answer found lock = record {
  before = lock.before;
  since = lock.since;
  in_order = lock.in_order;
  answers = found
      ∙ ap (λ (own : ℕ). cond (not (made d)) general_error (cond (not call.lengths) general_error own))
      (ap first_fault lock.in_order ∙ nothing_after lock.before lock.since lock.numbers);
  refused = λ zero. stops lock.before lock.since lock.numbers
      (sym (ap first_fault lock.in_order) ∙ (made_and_long d call.lengths (call.checks d) (sym found ∙ zero)).2);
}

-- a boot check that failed locks every slot with BOOT set
locks : (d : Device) (slot : ℕ) → Failed d → has_flag (flags_at d slot) boot ≡ true → locked d slot ≡ true
unfolding locked
locks d slot failed flag =
    ap (λ (b : Bool). is_marked d debugger_mark && has_flag (flags_at d slot) debugger || b)
    (ap₂ (λ (x y : Bool). x && not y && has_flag (flags_at d slot) boot) failed.is_set failed.not_ok ∙ flag)
    ∙ or-true (is_marked d debugger_mark && has_flag (flags_at d slot) debugger)

-- two MACs that differ
differ : (a b : List ℕ) → (a ≡ b → ⊥) → same a b ≡ false
differ a b other = tests (same a b) refl
  where
    tests : (t : Bool) → same a b ≡ t → t ≡ false
    tests true e = absurd (other (equal_same a b e))
    tests false e = refl

-- ---- to set a mark to off that is off changes nothing
mark_off : (place : ℕ) (d : Device) → Sound d → place < mark_count → is_marked d place ≡ false → mark_at d place ≡ off
mark_off place d sound room is-off =
    omega (arith, leb-true (mark_at d place) on ((facts d sound.1).fits.all_marks place room), eqb-false (mark_at d place) on is-off)

set_off : (place : ℕ) (d : Device) → mark_at d place ≡ off → set_mark place off d ≡ d
set_off place d is-off = ap (λ (marks : List ℕ). set_marks marks d) (ap (set d.marks place) (sym is-off) ∙ set-get_or d.marks place 0)

module _ (d : Device) (sound : Sound d) (in_step : InStep d) (first : is_marked d booted_mark ≡ false) where
  abbrev begun : Device
  begun = set_mark secure_boot_mark on (set_mark booted_mark on d)

  -- any other mark of such a device
  begun_other : (place : ℕ) → (place ≡ secure_boot_mark → ⊥) → (place ≡ booted_mark → ⊥) → mark_at begun place ≡ mark_at d place
  begun_other place one two =
      get_or-set_other (set d.marks booted_mark on) secure_boot_mark place on 0 one ∙ get_or-set_other d.marks booted_mark place on 0 two

  finished_off : mark_at (set_mark boot_ok_mark on begun) boot_finished_mark ≡ off
  finished_off =
      get_or-set_other begun.marks boot_ok_mark boot_finished_mark on 0 (λ z. omega (arith, z))
      ∙ begun_other boot_finished_mark (λ z. omega (arith, z)) (λ z. omega (arith, z))
      ∙ mark_off boot_finished_mark d sound (omega arith) (in_step.before_it_ran first).2

  ok_off : mark_at begun boot_ok_mark ≡ off
  ok_off =
      begun_other boot_ok_mark (λ z. omega (arith, z)) (λ z. omega (arith, z)) ∙ mark_off boot_ok_mark d sound (omega arith) (in_step.before_it_ran first).3

  only_sets : (agrees : Bool)
      → checked agrees d ≡ set_mark (cond agrees boot_ok_mark boot_finished_mark) on (set_mark secure_boot_mark on (set_mark booted_mark on d))
  unfolding checked
  only_sets true = set_off boot_finished_mark (set_mark boot_ok_mark on begun) finished_off
  only_sets false = ap (set_mark boot_finished_mark on) (set_off boot_ok_mark begun ok_off)

module _ (n : ℕ) (few : n ≤ 100) where
  -- ---- from call to call
  step_holds : (d : Device) (call : Call) → Sound d → (call ≡ reset → ⊥) → is_marked d booted_mark ≡ true
      → Holds d (step n d call).device
  step_holds d call sound other ran =
      step_either n d call (Holds d) (alike d d (λ place above. refl)) (λ zero. (boot_law n call).holds other d sound zero ran)

  stays_ran : (d : Device) (calls : List Call) → Sound d → InBytes n calls → NoReset calls → is_marked d booted_mark ≡ true
      → is_marked (after d (run (step n) d calls)) booted_mark ≡ true
  stays_ran d [] sound bytes none ran = ran
  stays_ran d (call ∷ calls) sound bytes none ran =
      stays_ran (step n d call).device calls (step_sound n few d sound call (bytes 0)) (λ k. bytes (suc k)) none.1
      ((step_holds d call sound none.0 ran).still_ran ran)

  stays_failed : (d : Device) (calls : List Call) → Sound d → InBytes n calls → NoReset calls → Failed d
      → Failed (after d (run (step n) d calls))
  stays_failed d [] sound bytes none failed = failed
  stays_failed d (call ∷ calls) sound bytes none failed =
      let held = step_holds d call sound none.0 failed.ran in
      stays_failed (step n d call).device calls (step_sound n few d sound call (bytes 0)) (λ k. bytes (suc k)) none.1
      (record {
        ran = held.still_ran failed.ran;
        is_set = held.still_set failed.is_set;
        not_ok = held.still_off failed.not_ok;
      })

  stays_in_step : (d : Device) (calls : List Call) → Sound d → InBytes n calls → InStep d → InStep (after d (run (step n) d calls))
  stays_in_step d [] sound bytes in_step = in_step
  stays_in_step d (call ∷ calls) sound bytes in_step =
      stays_in_step (step n d call).device calls (step_sound n few d sound call (bytes 0)) (λ k. bytes (suc k))
      (step_either n d call InStep in_step (λ zero. (boot_law n call).in_step d sound zero in_step))

  -- ---- after a SECURE_BOOT that succeeded
  module _ (d : Device) (bootloader : List ℕ) (sound : Sound d) (zero : (step n d (secure_boot bootloader)).answer ≡ no_error) where
    abbrev e : Device
    e = (step n d (secure_boot bootloader)).device

    is_e : e ≡ booted (measure d bootloader) d
    is_e = boots_so n d bootloader zero

    e_sound : Sound e
    e_sound = subst⁻¹ Sound is_e (booted_effect bootloader d sound).sound

    e_ran : is_marked e booted_mark ≡ true
    e_ran = ap (λ (x : Device). is_marked x booted_mark) is_e ∙ booted_ran bootloader d sound

    fails : is_empty d boot_mac ≡ false → (measure d bootloader ≡ key_at d boot_mac → ⊥) → Failed e
    fails full other =
        let agrees = same (measure d bootloader) (key_at d boot_mac) in
        let is = is_e ∙ booted_full (measure d bootloader) d full in
        record {
          ran = e_ran;
          is_set = ap (λ (x : Device). is_marked x secure_boot_mark) is ∙ checked_secure agrees d sound;
          not_ok = ap (λ (x : Device). is_marked x boot_ok_mark) is ∙ checked_ok agrees d sound ∙ differ (measure d bootloader) (key_at d boot_mac) other;
        }

    module _ (calls : List Call) (bytes : InBytes n calls) where
      abbrev f : Device
      f = after e (run (step n) e calls)

      f_sound : Sound f
      f_sound = (runs n few).stays_made e calls e_sound bytes

      -- a second one
      once : NoReset calls → (again : List ℕ) → boot_lengths (length again) ≡ true → (step n f (secure_boot again)).answer ≡ sequence_error
      unfolding booting.secure_boot
      once none again long =
          answer_found n f (secure_boot again) ∙ then_own f (boot_lengths (length again)) (boot_checks f) f_sound.1 long
          ∙ ap (λ (b : Bool). cond b sequence_error (first_fault ((is_empty f boot_mac_key, no_secure_boot) ∷ (locked f boot_mac_key || locked f boot_mac, key_not_available) ∷ [])))
          (stays_ran e calls e_sound bytes none e_ran)

      -- BOOT_FAILURE
      fails_later : NoReset calls → (step n f boot_failure).answer ≡ no_error → Failed (step n f boot_failure).device
      unfolding booting.boot_failure
      fails_later none done =
          let found = sym (answer_found n f boot_failure) ∙ done in
          let ran = stays_ran e calls e_sound bytes none e_ran in
          let held = failure_holds f f_sound in
          let is = ap (λ (o : Outcome). o.device) (step_done n f boot_failure found) in
          let once : Device = set_mark boot_finished_mark on f in
          record {
            ran = ap (λ (x : Device). is_marked x booted_mark) is ∙ held.still_ran ran;
            is_set = ap (λ (x : Device). is_marked x secure_boot_mark) is ∙ held.still_set (stage_is_set f found);
            not_ok = ap (λ (x : Device). is_marked x boot_ok_mark) is
                ∙ that_mark boot_ok_mark off once (mark_shape boot_finished_mark on f f_sound.0) (omega arith);
          }

      -- ---- the next boot, where neither slot 2 nor slot 3 was loaded since the bootloader was learnt
      module _ (empty : is_empty d boot_mac ≡ true) (none_2 : loads_of n boot_mac_key (run (step n) e calls) ≡ 0)
          (none-3 : loads_of n boot_mac (run (step n) e calls) ≡ 0) where
        abbrev g : Device
        g = (step n f reset).device

        is_g : g ≡ commands.after_reset f
        unfolding commands.reset
        is_g = ap (λ (o : Outcome). o.device) (step_done n f reset (then_own f true [] f_sound.1 refl))

        g_sound : Sound g
        g_sound = subst⁻¹ Sound is_g (reset_sound f f_sound)

        -- its marks are those of a new device, so that nothing is locked
        g_mark : (place : ℕ) → is_marked g place ≡ is_on (byte new_marks place)
        g_mark place = ap (λ (x : Device). is_marked x place) is_g ∙ ap (λ (marks : List ℕ). is_on (byte marks place)) (put_marks _ _ _)

        unlocked : (s : ℕ) → locked g s ≡ false
        unfolding locked
        unlocked s =
            ap₂ (λ (x y : Bool). x && has_flag (flags_at g s) debugger || y && not (is_marked g boot_ok_mark) && has_flag (flags_at g s) boot)
            (g_mark debugger_mark) (g_mark secure_boot_mark)

        -- a slot that holds a key and is not loaded stays
        through : (s : ℕ) → s ≤ 13 → is_empty e s ≡ false → loads_of n s (run (step n) e calls) ≡ 0 → slot_at g s ≡ slot_at e s
        unfolding commands.reset
        through s low full none =
            ap (λ (x : Device). slot_at x s) is_g
            ∙ (reset_effect f f_sound (λ k i. omega arith) (then_own f true [] f_sound.1 refl)).stays s low (λ never. never) (λ never. absurd never)
            ∙ (runs n few).slots_stay e calls s e_sound bytes low none (full_stays n few e calls s e_sound bytes low full none)

        -- slot 2 is as it was, and slot 3 holds what was learnt
        key_there : is_empty d boot_mac_key ≡ false
        unfolding booting.secure_boot
        key_there =
            let own = (made_and_long d (boot_lengths (length bootloader)) (boot_checks d) (sym (answer_found n d (secure_boot bootloader)) ∙ zero)).2 in
            let first = no_fault (is_marked d booted_mark) sequence_error _ (λ z. omega (arith, z)) own in
            (no_fault (is_empty d boot_mac_key) no_secure_boot _ (λ z. omega (arith, z)) first.1).0

        slot_2 : slot_at g boot_mac_key ≡ slot_at d boot_mac_key
        slot_2 =
            let mac : List ℕ = measure d bootloader in
            let same = ap (λ (x : Device). slot_at x boot_mac_key) (is_e ∙ booted_empty mac d empty)
            ∙ learnt_elsewhere mac (measure_block d bootloader sound.0) d sound boot_mac_key (λ z. omega (arith, z)) in
            through boot_mac_key (omega arith) (ap (λ (x : Slot). is_on x.empty) same ∙ key_there) none_2 ∙ same

        slot_3 : slot_at g boot_mac ≡ record { key = measure d bootloader; counter = 0; flags = 0; empty = off }
        slot_3 =
            let there = learns_so n d bootloader sound empty zero in
            through boot_mac (omega arith) (ap (λ (x : Slot). is_on x.empty) there) none-3 ∙ there

        measures_alike : (other : List ℕ) → measure g other ≡ measure d other
        unfolding measure
        measures_alike other = ap (λ (x : Slot). text_mac (cipher x.key) (measured other)) slot_2

        -- so it is checked, against what was learnt
        goes : (other : List ℕ) → boot_lengths (length other) ≡ true → (step n g (secure_boot other)).answer ≡ no_error
        unfolding booting.secure_boot
        goes other long =
            answer_found n g (secure_boot other) ∙ then_own g (boot_lengths (length other)) (boot_checks g) g_sound.1 long
            ∙ ap₂ (λ (x y : Bool). first_fault ((x, sequence_error) ∷ (y, no_secure_boot) ∷ (locked g boot_mac_key || locked g boot_mac, key_not_available) ∷ []))
            (g_mark booted_mark) (ap (λ (x : Slot). is_on x.empty) slot_2 ∙ key_there)
            ∙ ap₂ (λ (x y : Bool). cond (x || y) key_not_available no_error) (unlocked boot_mac_key) (unlocked boot_mac)

        checks : (other : List ℕ) → boot_lengths (length other) ≡ true
            → (step n g (secure_boot other)).device ≡ checked (same (measure d other) (measure d bootloader)) g
        checks other long =
            boots_so n g other (goes other long) ∙ booted_full (measure g other) g (ap (λ (x : Slot). is_on x.empty) slot_3)
            ∙ ap₂ (λ (x y : List ℕ). checked (same x y) g) (measures_alike other) (ap (λ (x : Slot). x.key) slot_3)

        rechecks : (other : List ℕ) (ok : Bool) → boot_lengths (length other) ≡ true → same (measure d other) (measure d bootloader) ≡ ok
            → ((step n g (secure_boot other)).answer ≡ no_error) × Checked ok (step n g (secure_boot other)).device
        rechecks other ok long agrees =
            let is = checks other long ∙ ap (λ (b : Bool). checked b g) agrees in (
              goes other long,
              record {
                secure_boot_is = ap (λ (x : Device). is_marked x secure_boot_mark) is ∙ checked_secure ok g g_sound;
                boot_ok_is = ap (λ (x : Device). is_marked x boot_ok_mark) is ∙ checked_ok ok g g_sound;
                boot_finished_is = ap (λ (x : Device). is_marked x boot_finished_mark) is ∙ checked_finished ok g g_sound;
              },
            )

    right_length : boot_lengths (length bootloader) ≡ true
    unfolding booting.secure_boot
    right_length = (made_and_long d (boot_lengths (length bootloader)) (boot_checks d) (sym (answer_found n d (secure_boot bootloader)) ∙ zero)).1

  pub boot_check : BootCheck n (step n)
  boot_check = record {
    once = λ d bootloader again calls sound bytes none zero long. once d bootloader sound zero calls bytes none again long;
    learnt_agrees = λ d bootloader calls sound bytes empty zero two three.
        rechecks d bootloader sound zero calls bytes empty two three bootloader true (right_length d bootloader sound zero)
        (same_equal (measure d bootloader) (measure d bootloader) refl);
    other_fails = λ d bootloader other calls sound bytes empty zero long differs two three.
        rechecks d bootloader sound zero calls bytes empty two three other false long (differ (measure d other) (measure d bootloader) differs);
    fails = λ d bootloader sound zero full other. fails d bootloader sound zero full other;
    fails_later = λ d bootloader calls sound bytes none zero done. fails_later d bootloader sound zero calls bytes none done;
    stays_failed = stays_failed;
    shut = λ d calls call slot sound bytes none failed flag used.
        let e : Device = after d (run (step n) d calls) in
        shut_by (account n call) e (step n e call).answer (answer_found n e call)
        ((law n call).lock_stands e slot used (locks e slot (stays_failed d calls sound bytes none failed) flag));
    begins_in_step = fresh_in_step;
    stays_in_step = stays_in_step;
    only_sets = λ d agrees sound in_step first. only_sets d sound in_step first agrees;
  }

-- and of any machine that meets the first two demands
pub boot_follows : (n : ℕ) → n ≤ 100 → BootFollows n
boot_follows n few machine one two = subst⁻¹ (BootCheck n) (only_ours n machine one two) (boot_check n few)
