-- What every call does to the marks of the boot check, and which call fills a slot: the second table by calls in the proofs. Most calls
-- leave these marks as they are.
-- Assumes nothing.
use mathlib.Core.Path.{◌≡◌, refl, sym, ap, ◌∙◌}
use mathlib.Core.Bool.{Bool, true, false, not, cond, true≢false}
use mathlib.Core.List.{List}
use mathlib.Core.Logic.{⊎_elim}
use Prim.Native.Nat.{ℕ, ◌<◌}
use native.Mathlib.Omega.{arith}
use borrow.Author.Tests.{not-false}
use lib.Dec.{leb}
use lib.ListN.{length}
use Rattle.laws.specs.Among.{Among}
use Rattle.laws.specs.Same.{same}
use Rattle.aes.specs.State.{byte}
use Rattle.basics.specs.Answers.{sequence_error, no_secure_boot}
use Rattle.basics.proofs.Faults.{no_fault}
use Rattle.basics.specs.Marks.{off, on, is_on}
use Rattle.message.specs.Building.{target_of}
use Rattle.device.specs.Account.{answer_by, answer_to}
use Rattle.device.specs.Made.{new_marks, fresh, Sound}
use Rattle.device.specs.Record.{boot_mac, ram_key, rng_mark, plain_mark, debugger_mark, booted_mark, secure_boot_mark, boot_init_mark, boot_finished_mark, boot_ok_mark, mark_at, is_marked, is_empty, key_at, set_mark, with_slot, put_slot}
use Rattle.device.specs.declared.Device.{Device}
use Rattle.device.specs.declared.Slot.{Slot}
use Rattle.device.proofs.Account.{made_and_long}
use Rattle.device.proofs.Marks.{that_mark, other_mark, mark_shape}
use Rattle.boot.specs.Boot as booting
use Rattle.boot.specs.Boot.{measure, boot_lengths, boot_checks, learnt, checked, booted, stage_checks}
use Rattle.commands.specs.Commands as commands
use Rattle.boot.proofs.Effects.{measure_block, checked_finished, checked_ok, checked_booted, learnt_booted, learnt_secure}
use Rattle.load.specs.Export as exporting
use Rattle.load.specs.Load as loading
use Rattle.load.specs.Rules.{plain_after, loaded}
use Rattle.demands.specs.BootCheck.{InStep}
use Rattle.demands.specs.Calls.{Call, reset, attach_debugger, enc_ecb, dec_ecb, enc_cbc, dec_cbc, generate_mac, verify_mac, load_key, load_plain_key, export_ram_key, init_rng, extend_seed, rnd, get_status, get_id, secure_boot, boot_failure, boot_ok, account}

-- while the check ran, these hold on: that it ran, SECURE_BOOT, and that BOOT_OK is off
pub record Holds (d e : Device) : Type 0 where
  pub still_ran : is_marked d booted_mark ≡ true → is_marked e booted_mark ≡ true
  pub still_set : is_marked d secure_boot_mark ≡ true → is_marked e secure_boot_mark ≡ true
  pub still_off : is_marked d boot_ok_mark ≡ false → is_marked e boot_ok_mark ≡ false

pub record BootLaw (n : ℕ) (call : Call) : Type 0 where
  pub fills : (s : ℕ) → Among s (account n call).fills → (s ≡ boot_mac) × (bootloader : List ℕ) × (call ≡ secure_boot bootloader)
  -- for a reset and a second SECURE_BOOT there is nothing to show
  pub holds : (call ≡ reset → ⊥) → (d : Device) → Sound d → answer_to (account n call) d ≡ 0 → is_marked d booted_mark ≡ true
      → Holds d ((account n call).does d).0
  pub in_step : (d : Device) → Sound d → answer_to (account n call) d ≡ 0 → InStep d → InStep ((account n call).does d).0

-- ---- the marks of the check, which are those from the fifth on, as they were
abbrev Same : Device → Device → Type 0
Same d e = (place : ℕ) → 3 < place → is_marked e place ≡ is_marked d place

pub alike : (d e : Device) → Same d e → Holds d e
alike d e same = record {
  still_ran = λ h. same booted_mark (omega arith) ∙ h;
  still_set = λ h. same secure_boot_mark (omega arith) ∙ h;
  still_off = λ h. same boot_ok_mark (omega arith) ∙ h;
}

-- where one of the first four is set
low_set : (place mark : ℕ) (d : Device) → place < 4 → Same d (set_mark place mark d)
low_set place mark d low other above = other_mark place mark d other (λ e. omega (arith, low, above, e))

-- and where a slot is put
pub put_marks : (s : ℕ) (new : Slot) (d : Device) → (put_slot s new d).marks ≡ d.marks
unfolding put_slot
put_marks s new d = ways (leb s ram_key)
  where
    ways : (b : Bool) → (cond b (with_slot s new d) d).marks ≡ d.marks
    ways true = refl
    ways false = refl

put_same : (s : ℕ) (new : Slot) (d e : Device) → Same d e → Same d (put_slot s new e)
put_same s new d e same place above = ap (λ (marks : List ℕ). is_on (byte marks place)) (put_marks s new e) ∙ same place above

-- ---- BOOT_OK and BOOT_FAILURE
finished : (d : Device) (place : ℕ) → (place ≡ boot_finished_mark → ⊥) → is_marked (set_mark boot_finished_mark on d) place ≡ is_marked d place
finished d place other = other_mark boot_finished_mark on d place other

ok_holds : (d : Device) → Holds d (set_mark boot_finished_mark on d)
ok_holds d = record {
  still_ran = λ h. finished d booted_mark (λ e. omega (arith, e)) ∙ h;
  still_set = λ h. finished d secure_boot_mark (λ e. omega (arith, e)) ∙ h;
  still_off = λ h. finished d boot_ok_mark (λ e. omega (arith, e)) ∙ h;
}

pub failure_holds : (d : Device) → Sound d → Holds d (set_mark boot_ok_mark off (set_mark boot_finished_mark on d))
failure_holds d sound =
    let once : Device = set_mark boot_finished_mark on d in
    record {
      still_ran = λ h. other_mark boot_ok_mark off once booted_mark (λ e. omega (arith, e)) ∙ (ok_holds d).still_ran h;
      still_set = λ h. other_mark boot_ok_mark off once secure_boot_mark (λ e. omega (arith, e)) ∙ (ok_holds d).still_set h;
      still_off = λ h. that_mark boot_ok_mark off once (mark_shape boot_finished_mark on d sound.0) (omega arith);
    }

-- ---- in step: whatever leaves the five marks as they are, and what sets them
alike_in_step : (d e : Device) → Same d e → InStep d → InStep e
alike_in_step d e same step = record {
  before_it_ran = λ off.
      let was = step.before_it_ran (sym (same booted_mark (omega arith)) ∙ off) in (
        same secure_boot_mark (omega arith) ∙ was.0,
        same boot_init_mark (omega arith) ∙ was.1,
        same boot_finished_mark (omega arith) ∙ was.2,
        same boot_ok_mark (omega arith) ∙ was.3,
      );
  unfinished = λ is_set still. same boot_ok_mark (omega arith)
      ∙ step.unfinished (sym (same secure_boot_mark (omega arith)) ∙ is_set) (sym (same boot_finished_mark (omega arith)) ∙ still);
}

new_in_step : (d : Device) → d.marks ≡ new_marks → InStep d
new_in_step d new = record {
  before_it_ran = λ off. (is secure_boot_mark, is boot_init_mark, is boot_finished_mark, is boot_ok_mark);
  unfinished = λ is_set still. absurd (true≢false (sym is_set ∙ is secure_boot_mark));
}
  where
    is : (place : ℕ) → is_marked d place ≡ is_on (byte new_marks place)
    is place = ap (λ (marks : List ℕ). is_on (byte marks place)) new

pub fresh_in_step : (uid secret seed : List ℕ) → InStep (fresh uid secret seed)
fresh_in_step uid secret seed = new_in_step (fresh uid secret seed) (put_marks _ _ _)

booted_in_step : (bootloader : List ℕ) (d : Device) → Sound d → is_marked d booted_mark ≡ false → InStep d
    → InStep (booted (measure d bootloader) d)
booted_in_step bootloader d sound first step = ways (is_empty d boot_mac)
  where
    ways : (b : Bool) → InStep (cond b (learnt (measure d bootloader) d) (checked (same (measure d bootloader) (key_at d boot_mac)) d))
    ways true =
        let mac : List ℕ = measure d bootloader in
        let block = measure_block d bootloader sound.0 in
        record {
          before_it_ran = λ off. absurd (true≢false (sym (learnt_booted mac block d sound) ∙ off));
          unfinished = λ is_set still.
              absurd (true≢false (sym is_set ∙ learnt_secure mac block d sound ∙ (step.before_it_ran first).0));
        }
    ways false =
        let agrees : Bool = same (measure d bootloader) (key_at d boot_mac) in
        record {
          before_it_ran = λ off. absurd (true≢false (sym (checked_booted agrees d sound) ∙ off));
          unfinished = λ is_set still. checked_ok agrees d sound ∙ not-false agrees (sym (checked_finished agrees d sound) ∙ still);
        }

-- BOOT_FAILURE and BOOT_OK come after a check, and finish it
finished_in_step : (d e : Device) → is_marked d secure_boot_mark ≡ true → is_marked e booted_mark ≡ is_marked d booted_mark
    → is_marked e boot_finished_mark ≡ true → InStep d → InStep e
finished_in_step d e is_set same done step = record {
  before_it_ran = λ off. absurd (true≢false (sym is_set ∙ (step.before_it_ran (sym same ∙ off)).0));
  unfinished = λ now still. absurd (true≢false (sym done ∙ still));
}

pub stage_is_set : (d : Device) → answer_by d true (stage_checks d) ≡ 0 → is_marked d secure_boot_mark ≡ true
stage_is_set d zero =
    not-false (is_marked d secure_boot_mark)
    (no_fault (not (is_marked d secure_boot_mark)) no_secure_boot _ (λ z. omega (arith, z)) (made_and_long d true (stage_checks d) zero).2).0

ok_in_step : (d : Device) → Sound d → answer_by d true (stage_checks d) ≡ 0 → InStep d → InStep (set_mark boot_finished_mark on d)
ok_in_step d sound zero step =
    finished_in_step d (set_mark boot_finished_mark on d) (stage_is_set d zero)
    (other_mark boot_finished_mark on d booted_mark (λ z. omega (arith, z)))
    (that_mark boot_finished_mark on d sound.0 (omega arith)) step

failure_in_step : (d : Device) → Sound d → answer_by d true (stage_checks d) ≡ 0 → InStep d
    → InStep (set_mark boot_ok_mark off (set_mark boot_finished_mark on d))
failure_in_step d sound zero step =
    let once : Device = set_mark boot_finished_mark on d in
    finished_in_step d (set_mark boot_ok_mark off once) (stage_is_set d zero)
    (other_mark boot_ok_mark off once booted_mark (λ z. omega (arith, z)) ∙ other_mark boot_finished_mark on d booted_mark (λ z. omega (arith, z)))
    (other_mark boot_ok_mark off once boot_finished_mark (λ z. omega (arith, z)) ∙ that_mark boot_finished_mark on d sound.0 (omega arith)) step

-- ---- a second SECURE_BOOT is refused
first_time : (d : Device) (lengths : Bool) → answer_by d lengths (boot_checks d) ≡ 0 → is_marked d booted_mark ≡ false
first_time d lengths zero =
    (no_fault (is_marked d booted_mark) sequence_error _ (λ z. omega (arith, z)) (made_and_long d lengths (boot_checks d) zero).2).0

module _ (n : ℕ) where
  -- ---- a call that fills nothing and leaves the marks of the check
  of_other : (call : Call) → ((s : ℕ) → Among s (account n call).fills → ⊥) → ((d : Device) → Same d ((account n call).does d).0)
      → BootLaw n call
  of_other call none same = record {
    fills = λ s filled. absurd (none s filled);
    holds = λ other d sound zero ran. alike d ((account n call).does d).0 (same d);
    in_step = λ d sound zero step. alike_in_step d ((account n call).does d).0 (same d) step;
  }

  -- ---- call by call
  pub boot_law : (call : Call) → BootLaw n call
  unfolding commands.reset commands.attach_debugger commands.enc_ecb commands.dec_ecb commands.enc_cbc commands.dec_cbc commands.generate_mac commands.verify_mac commands.load_plain_key commands.init_rng commands.extend_seed commands.rnd commands.get_status commands.get_id exporting.export_ram_key loading.load_key loaded booting.secure_boot booting.boot_failure booting.boot_ok
  boot_law reset = record {
    fills = λ s none. absurd none;
    holds = λ other d sound zero ran. absurd (other refl);
    in_step = λ d sound zero step. new_in_step (commands.after_reset d) (put_marks _ _ _);
  }
  boot_law attach_debugger = of_other attach_debugger (λ s none. none) (λ d. low_set debugger_mark on d (omega arith))
  boot_law (enc_ecb slot input output) = of_other (enc_ecb slot input output) (λ s none. none) (λ d place above. refl)
  boot_law (dec_ecb slot input output) = of_other (dec_ecb slot input output) (λ s none. none) (λ d place above. refl)
  boot_law (enc_cbc slot iv input output) = of_other (enc_cbc slot iv input output) (λ s none. none) (λ d place above. refl)
  boot_law (dec_cbc slot iv input output) = of_other (dec_cbc slot iv input output) (λ s none. none) (λ d place above. refl)
  boot_law (generate_mac slot bits message mac) = of_other (generate_mac slot bits message mac) (λ s none. none) (λ d place above. refl)
  boot_law (verify_mac slot bits message mac macbits) =
      of_other (verify_mac slot bits message mac macbits) (λ s none. none) (λ d place above. refl)
  boot_law (load_key m1 m2 m3 b4 b5) =
      of_other (load_key m1 m2 m3 b4 b5) (λ s none. none)
      (λ d. put_same _ _ d _ (low_set plain_mark (plain_after (target_of m1) (mark_at d plain_mark)) d (omega arith)))
  boot_law (load_plain_key key) =
      of_other (load_plain_key key) (λ s none. none) (λ d. put_same _ _ d _ (low_set plain_mark on d (omega arith)))
  boot_law (export_ram_key b1 b2 b3 b4 b5) = of_other (export_ram_key b1 b2 b3 b4 b5) (λ s none. none) (λ d place above. refl)
  boot_law init_rng = of_other init_rng (λ s none. none) (λ d. low_set rng_mark on d (omega arith))
  boot_law (extend_seed entropy) = of_other (extend_seed entropy) (λ s none. none) (λ d place above. refl)
  boot_law (rnd output) = of_other (rnd output) (λ s none. none) (λ d place above. refl)
  boot_law get_status = of_other get_status (λ s none. none) (λ d place above. refl)
  boot_law (get_id challenge output) = of_other (get_id challenge output) (λ s none. none) (λ d place above. refl)
  boot_law (secure_boot bootloader) = record {
    fills = λ s filled. (⊎_elim (λ e. e) (λ none. absurd none) filled, bootloader, refl);
    holds = λ other d sound zero ran. absurd (true≢false (sym ran ∙ first_time d (boot_lengths (length bootloader)) zero));
    in_step = λ d sound zero step. booted_in_step bootloader d sound (first_time d (boot_lengths (length bootloader)) zero) step;
  }
  boot_law boot_failure = record {
    fills = λ s none. absurd none;
    holds = λ other d sound zero ran. failure_holds d sound;
    in_step = λ d sound zero step. failure_in_step d sound zero step;
  }
  boot_law boot_ok = record {
    fills = λ s none. absurd none;
    holds = λ other d sound zero ran. ok_holds d;
    in_step = λ d sound zero step. ok_in_step d sound zero step;
  }
