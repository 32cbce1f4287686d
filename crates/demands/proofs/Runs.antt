-- The third demand's second sentence holds of the device, over any sequence of calls. One step goes by the law of its call;
-- the statements about runs are inductions over it.
-- Assumes nothing.
use mathlib.Core.Path.{◌≡◌, refl, sym, ap, ap₂, ◌∙◌, subst}
use mathlib.Core.Bool.{Bool, true, false, cond, ◌&&◌, and-true, and-false, true≢false}
use mathlib.Core.List.{List, [], ◌∷◌}
use Prim.Native.Nat.{ℕ, suc, ◌+◌, ◌≤◌, ◌<◌}
use native.Mathlib.Omega.{arith}
use borrow.Author.Tests.{eq-eqb, eqb-true}
use lib.Dec.{eqb}
use Rattle.laws.specs.Among.{Among, is_among}
use Rattle.laws.proofs.Among.{tested_among, among_tested}
use Rattle.laws.proofs.Test.{both}
use Rattle.basics.specs.Answers.{no_error}
use Rattle.basics.specs.Marks.{off, is_on}
use Rattle.device.specs.Account.{answer_to, BringsBytes}
use Rattle.device.specs.Made.{made, Sound}
use Rattle.device.specs.Outcome.{Outcome}
use Rattle.device.specs.Record.{secret_key, boot_mac, is_empty, counter_at, slot_at}
use Rattle.device.specs.declared.Device.{Device}
use Rattle.device.specs.declared.Slot.{Slot}
use Rattle.device.proofs.Effects.{Effect}
use Rattle.device.proofs.Made.{facts, secret_present}
use Rattle.boot.specs.Boot as booting
use Rattle.boot.specs.Boot.{measure, booted}
use Rattle.boot.proofs.Effects.{measure_block, learnt_there, booted_empty}
use Rattle.demands.specs.Calls.{Call, secure_boot, account, step}
use Rattle.demands.specs.Demand3.{Learns, Runs, Demand3}
use Rattle.demands.specs.Runs.{run, after, is_load_of, loads_of, is_fill_of, fills_of, InBytes}
use Rattle.demands.proofs.BootLaws.{boot_law}
use Rattle.demands.proofs.Laws.{law}
use Rattle.demands.proofs.Steps.{answer_found, step_done, step_either}
use Rattle.demands.proofs.Third.{loads_exactly}
use Rattle.demands.proofs.First.{step_unmade}

-- ---- one call, by its law
module _ (n : ℕ) (few : n ≤ 100) (d : Device) (sound : Sound d) (call : Call) (bytes : BringsBytes (account n call)) where
  effect : answer_to (account n call) d ≡ 0 → Effect (account n call).loads (account n call).fills d ((account n call).does d).0
  effect none = (law n call).effect few d sound bytes none

  pub step_sound : Sound (step n d call).device
  step_sound = step_either n d call Sound sound (λ none. (effect none).sound)

  pub step_uid : (step n d call).device.uid ≡ d.uid
  step_uid = step_either n d call (λ (e : Device). e.uid ≡ d.uid) refl (λ none. (effect none).uid_stays)

  module _ (s : ℕ) (low : s ≤ 13) where
    -- a slot that was neither loaded nor filled with success is as it was
    step_stays : is_load_of n s (call, step n d call) ≡ false → is_fill_of n s d (call, step n d call) ≡ false
        → slot_at (step n d call).device s ≡ slot_at d s
    step_stays other full =
        step_either n d call (λ (e : Device). slot_at e s ≡ slot_at d s) refl
        (λ none. (effect none).stays s low (λ loaded. true≢false (sym (is_load none loaded) ∙ other)) (is_full none))
      where
        answers : answer_to (account n call) d ≡ 0 → eqb (step n d call).answer no_error ≡ true
        answers none = eq-eqb (step n d call).answer no_error (answer_found n d call ∙ none)

        is_load : answer_to (account n call) d ≡ 0 → Among s (account n call).loads → is_load_of n s (call, step n d call) ≡ true
        is_load none loaded = ap₂ (λ (x y : Bool). x && y) (among_tested s (account n call).loads loaded) (answers none)

        is_full : answer_to (account n call) d ≡ 0 → Among s (account n call).fills → is_empty d s ≡ false
        is_full none filled =
            sym (ap₂ (λ (x y : Bool). x && is_empty d s && y) (among_tested s (account n call).fills filled) (answers none)
            ∙ and-true (is_empty d s)) ∙ full

    -- and the counter of one that was loaded has risen
    step_raises : is_load_of n s (call, step n d call) ≡ true → (1 ≤ s) × (counter_at d s < counter_at (step n d call).device s)
    step_raises this =
        let parts = both (is_among s (account n call).loads) (eqb (step n d call).answer no_error) this in
        let none = sym (answer_found n d call) ∙ eqb-true (step n d call).answer no_error parts.1 in
        subst (λ (o : Outcome). (1 ≤ s) × (counter_at d s < counter_at o.device s)) (sym (step_done n d call none))
        ((effect none).rises s low (tested_among s (account n call).loads parts.0))

    pub step_counts : counter_at d s + cond (is_load_of n s (call, step n d call)) 1 0 ≤ counter_at (step n d call).device s
    step_counts = tests (is_load_of n s (call, step n d call)) refl
      where
        tests : (b : Bool) → is_load_of n s (call, step n d call) ≡ b → counter_at d s + cond b 1 0 ≤ counter_at (step n d call).device s
        tests true this = omega (arith, (step_raises this).1)
        tests false other =
            omega (arith, step_either n d call (λ (e : Device). counter_at d s ≤ counter_at e s) (omega arith) (λ none. (effect none).never_falls s low))

-- ---- what a slot holds that was filled
pub boots_so : (n : ℕ) (d : Device) (bootloader : List ℕ) → (step n d (secure_boot bootloader)).answer ≡ no_error
    → (step n d (secure_boot bootloader)).device ≡ booted (measure d bootloader) d
unfolding booting.secure_boot
boots_so n d bootloader zero =
    ap (λ (o : Outcome). o.device) (step_done n d (secure_boot bootloader) (sym (answer_found n d (secure_boot bootloader)) ∙ zero))

pub learns_so : (n : ℕ) (d : Device) (bootloader : List ℕ) → Sound d → is_empty d boot_mac ≡ true
    → (step n d (secure_boot bootloader)).answer ≡ no_error
    → slot_at (step n d (secure_boot bootloader)).device boot_mac ≡ record { key = measure d bootloader; counter = 0; flags = 0; empty = off }
learns_so n d bootloader sound empty zero =
    ap (λ (e : Device). slot_at e boot_mac) (boots_so n d bootloader zero ∙ booted_empty (measure d bootloader) d empty)
    ∙ learnt_there (measure d bootloader) (measure_block d bootloader sound.0) d sound

filled : (n : ℕ) (d : Device) (call : Call) (s : ℕ) → Sound d → is_fill_of n s d (call, step n d call) ≡ true
    → Learns d call s (step n d call).device
filled n d call s sound this =
    let answered = both (is_among s (account n call).fills && is_empty d s) (eqb (step n d call).answer no_error) this in
    let found = both (is_among s (account n call).fills) (is_empty d s) answered.0 in
    let boot = (boot_law n call).fills s (tested_among s (account n call).fills found.0) in
    let zero = subst (λ (c : Call). (step n d c).answer ≡ no_error) boot.2 (eqb-true (step n d call).answer no_error answered.1) in
    record {
      bootloader = boot.1;
      by_secure_boot = boot.2;
      slot_is = boot.0;
      holds = ap (λ (c : Call). slot_at (step n d c).device boot_mac) boot.2
          ∙ learns_so n d boot.1 sound (ap (is_empty d) (sym boot.0) ∙ found.1) zero;
    }

-- ---- over any sequence of calls
module _ (n : ℕ) (few : n ≤ 100) where
  all_made : (d : Device) (calls : List Call) → Sound d → InBytes n calls → Sound (after d (run (step n) d calls))
  all_made d [] sound bytes = sound
  all_made d (call ∷ calls) sound bytes =
      all_made (step n d call).device calls (step_sound n few d sound call (bytes 0)) (λ k. bytes (suc k))

  all_count : (d : Device) (calls : List Call) (s : ℕ) → Sound d → InBytes n calls → s ≤ 13
      → counter_at d s + loads_of n s (run (step n) d calls) ≤ counter_at (after d (run (step n) d calls)) s
  all_count d [] s sound bytes high = omega arith
  all_count d (call ∷ calls) s sound bytes high =
      let now = step_counts n few d sound call (bytes 0) s high in
      let later = all_count (step n d call).device calls s (step_sound n few d sound call (bytes 0)) (λ k. bytes (suc k)) high in
      omega (arith, now, later)

  not_one : (b : Bool) → cond {A = ℕ} b 1 0 ≡ 0 → b ≡ false
  not_one true e = absurd (omega (arith, e))
  not_one false e = refl

  all_stay : (d : Device) (calls : List Call) (s : ℕ) → Sound d → InBytes n calls → s ≤ 13 → loads_of n s (run (step n) d calls) ≡ 0
      → fills_of n s d (run (step n) d calls) ≡ 0 → slot_at (after d (run (step n) d calls)) s ≡ slot_at d s
  all_stay d [] s sound bytes high none full = refl
  all_stay d (call ∷ calls) s sound bytes high none full =
      all_stay (step n d call).device calls s (step_sound n few d sound call (bytes 0)) (λ k. bytes (suc k)) high (omega (arith, none))
      (omega (arith, full))
      ∙ step_stays n few d sound call (bytes 0) s high (not_one (is_load_of n s (call, step n d call)) (omega (arith, none)))
      (not_one (is_fill_of n s d (call, step n d call)) (omega (arith, full)))

  -- SECRET_KEY is never loaded
  never_first : (d : Device) (calls : List Call) → Sound d → InBytes n calls → loads_of n secret_key (run (step n) d calls) ≡ 0
  never_first d [] sound bytes = refl
  never_first d (call ∷ calls) sound bytes =
      let later = never_first (step n d call).device calls (step_sound n few d sound call (bytes 0)) (λ k. bytes (suc k)) in
      omega (arith, now (is_load_of n secret_key (call, step n d call)) refl, later)
    where
      now : (b : Bool) → is_load_of n secret_key (call, step n d call) ≡ b → cond {A = ℕ} b 1 0 ≡ 0
      now true this = absurd (omega (arith, (step_raises n few d sound call (bytes 0) secret_key (omega arith) this).0))
      now false other = refl

  -- a slot that is not empty is not filled, and stays so while it is not loaded
  pub full_stays : (d : Device) (calls : List Call) (s : ℕ) → Sound d → InBytes n calls → s ≤ 13 → is_empty d s ≡ false
      → loads_of n s (run (step n) d calls) ≡ 0 → fills_of n s d (run (step n) d calls) ≡ 0
  full_stays d [] s sound bytes high full none = refl
  full_stays d (call ∷ calls) s sound bytes high full none =
      let now : is_fill_of n s d (call, step n d call) ≡ false
      = ap (λ (b : Bool). is_among s (account n call).fills && b && eqb (step n d call).answer no_error) full
      ∙ ap (λ (b : Bool). b && eqb (step n d call).answer no_error) (and-false (is_among s (account n call).fills)) in
      let same = step_stays n few d sound call (bytes 0) s high (not_one (is_load_of n s (call, step n d call)) (omega (arith, none))) now in
      let later = full_stays (step n d call).device calls s (step_sound n few d sound call (bytes 0)) (λ k. bytes (suc k)) high
      (ap (λ (x : Slot). is_on x.empty) same ∙ full) (omega (arith, none)) in
      omega (arith, ap (λ (b : Bool). cond {A = ℕ} b 1 0) now, later)

  all_uid : (d : Device) (calls : List Call) → Sound d → InBytes n calls → (after d (run (step n) d calls)).uid ≡ d.uid
  all_uid d [] sound bytes = refl
  all_uid d (call ∷ calls) sound bytes =
      all_uid (step n d call).device calls (step_sound n few d sound call (bytes 0)) (λ k. bytes (suc k))
      ∙ step_uid n few d sound call (bytes 0)

  all_refused : (d : Device) (calls : List Call) → made d ≡ false → after d (run (step n) d calls) ≡ d
  all_refused d [] unmade = refl
  all_refused d (call ∷ calls) unmade =
      let same = step_unmade n d call unmade in
      ap (λ (e : Device). after e (run (step n) e calls)) same ∙ all_refused d calls unmade

  pub runs : Runs n (step n)
  runs = record {
    stays_made = all_made;
    counters_rise = all_count;
    slots_stay = all_stay;
    identity_stays = λ d calls sound bytes.
        let none = never_first d calls sound bytes in
        let full = full_stays d calls secret_key sound bytes (omega arith) (secret_present d (facts d sound.1)) none in
        (all_stay d calls secret_key sound bytes (omega arith) none full, all_uid d calls sound bytes);
    fills_exactly = filled n;
    unmade_stays = all_refused;
  }

pub demand_3 : (n : ℕ) → n ≤ 100 → Demand3 n (step n)
demand_3 n few = record {
  loading = λ d m1 m2 m3 b4 b5 sound small long. loads_exactly n few d m1 m2 m3 b4 b5 sound small long;
  runs = runs n few;
}
