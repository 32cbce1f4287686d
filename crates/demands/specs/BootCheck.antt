-- The boot check over days: what its owner asks of it.
-- Assumes nothing.
use Rattle.std.specs.Prelude.{◌≡◌, Bool, true, false, not, cond, List, [], ◌∷◌, ◌++◌, ℕ, length}
use Rattle.laws.specs.Among.{Among}
use Rattle.basics.specs.Answers.{no_error, sequence_error, key_not_available}
use Rattle.basics.specs.Marks.{on}
use Rattle.message.specs.Flags.{boot}
use Rattle.device.specs.Account.{Account, answer_by}
use Rattle.device.specs.Made.{fresh, Sound}
use Rattle.device.specs.Record.{boot_mac_key, boot_mac, booted_mark, secure_boot_mark, boot_init_mark, boot_finished_mark, boot_ok_mark, is_marked, is_empty, key_at, flags_at, set_mark}
use Rattle.device.specs.Rules.{has_flag}
use Rattle.device.specs.declared.Device.{Device}
use Rattle.boot.specs.Boot.{measure, boot_lengths, checked}
use Rattle.demands.specs.Calls.{Call, reset, secure_boot, boot_failure, account, Machine}
use Rattle.demands.specs.Demand1.{Demand1}
use Rattle.demands.specs.Demand2.{Demand2}
use Rattle.demands.specs.Runs.{run, after, loads_of, InBytes}

-- calls with no reset among them
abbrev pub NoReset : List Call → Type 0
NoReset [] = Unit {0}
NoReset (call ∷ calls) = (call ≡ reset → ⊥) × NoReset calls

-- what the status says after a check that went well, or not
pub record Checked (ok : Bool) (d : Device) : Type 0 where
  pub secure_boot_is : is_marked d secure_boot_mark ≡ true
  pub boot_ok_is : is_marked d boot_ok_mark ≡ ok
  pub boot_finished_is : is_marked d boot_finished_mark ≡ not ok

-- the check ran since reset, and has failed
pub record Failed (d : Device) : Type 0 where
  pub ran : is_marked d booted_mark ≡ true
  pub is_set : is_marked d secure_boot_mark ≡ true
  pub not_ok : is_marked d boot_ok_mark ≡ false

-- the marks of the check as making and calls leave them: before it ran all four bits are off, and one that isn't finished went well
pub record InStep (d : Device) : Type 0 where
  pub before_it_ran : is_marked d booted_mark ≡ false → (is_marked d secure_boot_mark ≡ false) × (is_marked d boot_init_mark ≡ false)
      × (is_marked d boot_finished_mark ≡ false) × (is_marked d boot_ok_mark ≡ false)
  pub unfinished : is_marked d secure_boot_mark ≡ true → is_marked d boot_finished_mark ≡ false → is_marked d boot_ok_mark ≡ true

-- one of a call's checks has found a slot locked: then the call is refused, by a check before that one, or else with 2
pub record Shut (call : Account) (d : Device) (answer : ℕ) : Type 0 where
  pub before : List (Bool × ℕ)
  pub since : List (Bool × ℕ)
  pub in_order : call.checks d ≡ before ++ ((true, key_not_available) ∷ since)
  pub answers : answer ≡ answer_by d call.lengths (before ++ ((true, key_not_available) ∷ []))
  pub refused : answer ≡ no_error → ⊥

pub record BootCheck (n : ℕ) (machine : Machine) : Type 0 where
  -- after a SECURE_BOOT that succeeded every further one answers 1, until a reset
  pub once : (d : Device) (bootloader again : List ℕ) (calls : List Call) → Sound d → InBytes n calls → NoReset calls
      → (machine d (secure_boot bootloader)).answer ≡ no_error → boot_lengths (length again) ≡ true
      → let e = (machine d (secure_boot bootloader)).device in
      (machine (after e (run machine e calls)) (secure_boot again)).answer ≡ sequence_error
  -- what was learnt is what agrees: after any calls that load neither slot 2 nor slot 3, and a reset, the same bootloader is right
  pub learnt_agrees : (d : Device) (bootloader : List ℕ) (calls : List Call) → Sound d → InBytes n calls → is_empty d boot_mac ≡ true
      → (machine d (secure_boot bootloader)).answer ≡ no_error
      → let e = (machine d (secure_boot bootloader)).device in
      loads_of n boot_mac_key (run machine e calls) ≡ 0 → loads_of n boot_mac (run machine e calls) ≡ 0
      → let later = machine (machine (after e (run machine e calls)) reset).device (secure_boot bootloader) in
      (later.answer ≡ no_error) × Checked true later.device
  -- and one with another MAC is wrong
  pub other_fails : (d : Device) (bootloader other : List ℕ) (calls : List Call) → Sound d → InBytes n calls → is_empty d boot_mac ≡ true
      → (machine d (secure_boot bootloader)).answer ≡ no_error → boot_lengths (length other) ≡ true
      → (measure d other ≡ measure d bootloader → ⊥)
      → let e = (machine d (secure_boot bootloader)).device in
      loads_of n boot_mac_key (run machine e calls) ≡ 0 → loads_of n boot_mac (run machine e calls) ≡ 0
      → let later = machine (machine (after e (run machine e calls)) reset).device (secure_boot other) in
      (later.answer ≡ no_error) × Checked false later.device
  -- the check fails by a bootloader with another MAC than slot 3 holds, or later by BOOT_FAILURE
  pub fails : (d : Device) (bootloader : List ℕ) → Sound d → (machine d (secure_boot bootloader)).answer ≡ no_error
      → is_empty d boot_mac ≡ false → (measure d bootloader ≡ key_at d boot_mac → ⊥) → Failed (machine d (secure_boot bootloader)).device
  pub fails_later : (d : Device) (bootloader : List ℕ) (calls : List Call) → Sound d → InBytes n calls → NoReset calls
      → (machine d (secure_boot bootloader)).answer ≡ no_error
      → let e = (machine d (secure_boot bootloader)).device in
      let f = after e (run machine e calls) in
      (machine f boot_failure).answer ≡ no_error → Failed (machine f boot_failure).device
  -- then BOOT_OK is off whatever is called, until a reset
  pub stays_failed : (d : Device) (calls : List Call) → Sound d → InBytes n calls → NoReset calls → Failed d
      → Failed (after d (run machine d calls))
  -- and all the while no call uses a key with BOOT set
  pub shut : (d : Device) (calls : List Call) (call : Call) (slot : ℕ) → Sound d → InBytes n calls → NoReset calls → Failed d
      → let e = after d (run machine d calls) in
      has_flag (flags_at e slot) boot ≡ true → Among slot (account n call).uses → Shut (account n call) e (machine e call).answer
  -- the marks are in step on every device that making and calls have left
  pub begins_in_step : (uid secret seed : List ℕ) → InStep (fresh uid secret seed)
  pub stays_in_step : (d : Device) (calls : List Call) → Sound d → InBytes n calls → InStep d → InStep (after d (run machine d calls))
  -- and there a check does no more than to set marks: SECURE_BOOT, and BOOT_OK or BOOT_FINISHED
  pub only_sets : (d : Device) (agrees : Bool) → Sound d → InStep d → is_marked d booted_mark ≡ false
      → checked agrees d ≡ set_mark (cond agrees boot_ok_mark boot_finished_mark) on (set_mark secure_boot_mark on (set_mark booted_mark on d))

-- it is about no more than what the first two demands settle
abbrev pub BootFollows : ℕ → Type 0
BootFollows n = (machine : Machine) → Demand1 n machine → Demand2 n machine → BootCheck n machine
