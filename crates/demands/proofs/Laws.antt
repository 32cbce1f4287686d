-- The law of every call: what of it is not said by its account alone. The theorems about all calls follow from these. Of the two
-- tables by calls in the proofs this is the one; the other, of the boot check's marks, is in BootLaws.antt. The calls that use a slot
-- share one law, and so do those that change nothing.
-- Assumes nothing.
use mathlib.Core.Path.{◌≡◌, refl, sym, ap, ◌∙◌}
use mathlib.Core.Bool.{Bool, true, false, not, ◌&&◌, ◌||◌, or-true}
use mathlib.Core.List.{List, [], ◌∷◌, ◌++◌}
use mathlib.Core.Logic.{inl, inr, ⊎_elim}
use Prim.Native.Nat.{ℕ, ◌≤◌, ◌<◌}
use native.Mathlib.Omega.{arith}
use borrow.Author.Tests.{leb-true}
use lib.Dec.{eqb, leb, ltb}
use Rattle.laws.specs.Among.{Among}
use Rattle.laws.proofs.Test.{both}
use Rattle.basics.specs.Answers.{sequence_error, key_not_available, key_invalid, key_empty, no_secure_boot, key_write_protected, first_fault}
use Rattle.basics.proofs.Faults.{all_among}
use Rattle.message.specs.Building.{target_of, authority_of}
use Rattle.message.specs.Flags.{write}
use Rattle.message.specs.Slots.{has_role, allowed}
use Rattle.message.specs.declared.Role.{Role}
use Rattle.message.specs.declared.Role.TheVariants.{Cipher, GenerateMac, VerifyMac}
use Rattle.message.proofs.Slots.{role_15, pair_slots}
use Rattle.device.specs.Account.{Account, names, unchanged, Command, command}
use Rattle.device.specs.Record.{master_ecu_key, boot_mac_key, boot_mac, ram_key, booted_mark, is_marked, is_empty, flags_at}
use Rattle.device.specs.Rules.{has_flag, locked}
use Rattle.device.specs.declared.Device.{Device}
use Rattle.device.proofs.Effects.{Effective, does_nothing}
use Rattle.boot.specs.Boot as booting
use Rattle.boot.specs.Boot.{boot_checks}
use Rattle.commands.specs.Checks.{slot_checks}
use Rattle.commands.specs.Commands as commands
use Rattle.boot.proofs.Effects.{boot_ok_effect, boot_failure_effect, secure_boot_effect}
use Rattle.commands.proofs.Effects.{attach_debugger_effect, init_rng_effect, extend_seed_effect, rnd_effect, reset_effect, load_plain_key_effect}
use Rattle.load.specs.Export as exporting
use Rattle.load.specs.Load as loading
use Rattle.load.specs.Load.{pair_checks}
use Rattle.load.proofs.Effects.{load_key_effect}
use Rattle.demands.specs.Calls.{Call, reset, attach_debugger, enc_ecb, dec_ecb, enc_cbc, dec_cbc, generate_mac, verify_mac, load_key, load_plain_key, export_ram_key, init_rng, extend_seed, rnd, get_status, get_id, secure_boot, boot_failure, boot_ok, account}
use Rattle.demands.specs.Demand1.{table}

-- checks none of which answers 0
abbrev pub other_than0 : List (Bool × ℕ) → Bool
other_than0 [] = true
other_than0 (check ∷ checks) = ltb 0 check.1 && other_than0 checks

-- one of the checks has found a slot locked
pub record LockStands (checks : List (Bool × ℕ)) : Type 0 where
  pub before : List (Bool × ℕ)
  pub since : List (Bool × ℕ)
  pub in_order : checks ≡ before ++ ((true, key_not_available) ∷ since)
  pub numbers : other_than0 before ≡ true

lock_between : (before since : List (Bool × ℕ)) (lock : Bool) → lock ≡ true → other_than0 before ≡ true
    → LockStands (before ++ ((lock, key_not_available) ∷ since))
lock_between before since lock shut numbers =
    record { before = before; since = since; in_order = ap (λ (b : Bool). before ++ ((b, key_not_available) ∷ since)) shut; numbers = numbers }

pub record Law (n : ℕ) (call : Account) : Type 0 where
  -- every number that its own checks answer is one of the table
  pub numbers : (d : Device) → all_among table (call.checks d) ≡ true
  -- a refusal leaves the device as it was
  pub unchanged : (answer : ℕ) (d : Device) → call.refusal answer d ≡ d
  -- where it names what is no slot, they answer 3
  pub no_such_slot : (d : Device) (s : ℕ) → Among s (names call) → ram_key < s → first_fault (call.checks d) ≡ key_invalid
  -- where it uses a slot that is locked, one of them finds that, and they do not pass
  pub lock_stands : (d : Device) (s : ℕ) → Among s call.uses → locked d s ≡ true → LockStands (call.checks d)
  -- what a success does to a made device
  pub effect : n ≤ 100 → Effective call

module _ (n : ℕ) where
  -- ---- a call that names no slot
  of_command : (c : Command) → ((d : Device) → all_among table (c.checks d) ≡ true) → Effective (command c) → Law n (command c)
  of_command c numbers effect =
      record { numbers = numbers; unchanged = λ answer d. refl; no_such_slot = λ d s named high. absurd named; lock_stands = λ d s used locked. absurd used; effect = λ few. effect }

  -- and changes nothing
  of_reading : {lent brought : List (List ℕ)} {lengths : Bool} {checks : Device → List (Bool × ℕ)} {gives : Device → ℕ × List (List ℕ)}
      → ((d : Device) → all_among table (checks d) ≡ true)
      → Law n (command (record {
        lent = lent;
        brought = brought;
        lengths = lengths;
        checks = checks;
        does = λ d. (d, (gives d).0, (gives d).1);
      }))
  of_reading numbers = of_command _ numbers (λ d sound bytes none. does_nothing d sound)

  -- ---- a call that uses a slot, whatever it gives: what is no slot has no role
  no_role : (d : Device) (slot : ℕ) (role : Role) (s : ℕ) → Among s (slot ∷ []) → ram_key < s → first_fault (slot_checks d slot role) ≡ key_invalid
  no_role d slot role s (inl e) high = let none = role_15 slot role (omega (arith, e)) in rw (sym none) refl
  no_role d slot role s (inr none) high = absurd none

  slot_lock : (d : Device) (slot : ℕ) (role : Role) (s : ℕ) → Among s (slot ∷ []) → locked d s ≡ true → LockStands (slot_checks d slot role)
  slot_lock d slot role s (inl e) shut =
      lock_between ((not (has_role slot role), key_invalid) ∷ (is_empty d slot, key_empty) ∷ []) _ (locked d slot) (ap (locked d) (sym e) ∙ shut) refl
  slot_lock d slot role s (inr none) shut = absurd none

  of_use : (slot : ℕ) (role : Role) {lent brought : List (List ℕ)} {lengths : Bool} {gives : Device → ℕ × List (List ℕ)}
      → Law n (record {
        lent = lent;
        brought = brought;
        lengths = lengths;
        uses = slot ∷ [];
        loads = [];
        fills = [];
        checks = λ d. slot_checks d slot role;
        refusal = unchanged;
        does = λ d. (d, (gives d).0, (gives d).1);
      })
  of_use slot role = record {
    numbers = λ d. refl;
    unchanged = λ answer d. refl;
    no_such_slot = λ d s named high. no_role d slot role s named high;
    lock_stands = λ d s used shut. slot_lock d slot role s used shut;
    effect = λ few d sound bytes none. does_nothing d sound;
  }

  -- ---- LOAD_KEY: what is no slot stands in no pair
  module _ (t a s : ℕ) (named : Among s (a ∷ t ∷ [])) (high : ram_key < s) where
    beyond : (1 ≤ t) × (t ≤ 14) × (a ≤ 13) → ⊥
    beyond slots =
        ⊎_elim (λ e. omega (arith, high, e, slots.2)) (λ more. ⊎_elim (λ e. omega (arith, high, e, slots.1)) (λ none. none) more) named

    no_pair : allowed t a ≡ false
    no_pair = tests (allowed t a) refl
      where
        tests : (b : Bool) → allowed t a ≡ b → b ≡ false
        tests false e = refl
        tests true e = absurd (beyond (pair_slots t a e))

  load_lock : (d : Device) (t a : ℕ) (more : List (Bool × ℕ)) (s : ℕ) → Among s (a ∷ []) → locked d s ≡ true
      → LockStands (pair_checks d t a ++ more)
  load_lock d t a more s (inl e) shut =
      lock_between
      ((not (allowed t a), key_invalid) ∷ (has_flag (flags_at d t) write, key_write_protected) ∷ (is_empty d a && not (eqb a t), key_empty) ∷ [])
      more (locked d a) (ap (locked d) (sym e) ∙ shut) refl
  load_lock d t a more s (inr none) shut = absurd none

  of_load : (m1 m2 m3 b4 b5 : List ℕ) → Law n (loading.load_key n m1 m2 m3 b4 b5)
  unfolding loading.load_key
  of_load m1 m2 m3 b4 b5 = record {
    numbers = λ d. refl;
    unchanged = λ answer d. refl;
    no_such_slot = λ d s named high. rw (no_pair (target_of m1) (authority_of m1) s named high) refl;
    lock_stands = λ d s used shut. load_lock d (target_of m1) (authority_of m1) _ s used shut;
    effect = λ few. load_key_effect n few m1 m2 m3 b4 b5;
  }

  -- ---- GET_ID uses slot 1, and SECURE_BOOT slots 2 and 3, whatever is asked: these are slots
  abbrev are_slots : List ℕ → Bool
  are_slots [] = true
  are_slots (x ∷ xs) = leb x ram_key && are_slots xs

  not_beyond : (slots : List ℕ) → are_slots slots ≡ true → (s : ℕ) → Among s slots → ram_key < s → ⊥
  not_beyond [] h s named high = named
  not_beyond (x ∷ xs) h s (inl e) high = omega (arith, e, high, leb-true x ram_key (both (leb x ram_key) (are_slots xs) h).0)
  not_beyond (x ∷ xs) h s (inr more) high = not_beyond xs (both (leb x ram_key) (are_slots xs) h).1 s more high

  id_lock : (d : Device) (s : ℕ) → Among s (master_ecu_key ∷ []) → locked d s ≡ true → LockStands ((locked d master_ecu_key, key_not_available) ∷ [])
  id_lock d s (inl e) shut = lock_between [] [] (locked d master_ecu_key) (ap (locked d) (sym e) ∙ shut) refl
  id_lock d s (inr none) shut = absurd none

  of_id : (challenge output : List ℕ) → Law n (commands.get_id challenge output)
  unfolding commands.get_id
  of_id challenge output = record {
    numbers = λ d. refl;
    unchanged = λ answer d. refl;
    no_such_slot = λ d s named high. absurd (not_beyond (master_ecu_key ∷ []) refl s named high);
    lock_stands = id_lock;
    effect = λ few d sound bytes none. does_nothing d sound;
  }

  boot_lock : (d : Device) (s : ℕ) → Among s (boot_mac_key ∷ boot_mac ∷ []) → locked d s ≡ true → LockStands (boot_checks d)
  boot_lock d s used shut = lock_between ((is_marked d booted_mark, sequence_error) ∷ (is_empty d boot_mac_key, no_secure_boot) ∷ []) [] _ (one_of used) refl
    where
      one_of : Among s (boot_mac_key ∷ boot_mac ∷ []) → (locked d boot_mac_key || locked d boot_mac) ≡ true
      one_of (inl e) = ap (λ (b : Bool). b || locked d boot_mac) (ap (locked d) (sym e) ∙ shut)
      one_of (inr (inl e)) = ap (λ (b : Bool). locked d boot_mac_key || b) (ap (locked d) (sym e) ∙ shut) ∙ or-true (locked d boot_mac_key)
      one_of (inr (inr none)) = absurd none

  of_boot : (bootloader : List ℕ) → Law n (booting.secure_boot bootloader)
  unfolding booting.secure_boot
  of_boot bootloader = record {
    numbers = λ d. refl;
    unchanged = λ answer d. refl;
    no_such_slot = λ d s named high. absurd (not_beyond (boot_mac_key ∷ boot_mac ∷ []) refl s named high);
    lock_stands = boot_lock;
    effect = λ few. secure_boot_effect bootloader;
  }

  -- ---- call by call
  pub law : (call : Call) → Law n (account n call)
  unfolding commands.reset commands.attach_debugger commands.enc_ecb commands.dec_ecb commands.enc_cbc commands.dec_cbc commands.generate_mac commands.verify_mac commands.load_plain_key commands.init_rng commands.extend_seed commands.rnd commands.get_status exporting.export_ram_key booting.boot_failure booting.boot_ok
  law reset = of_command _ (λ d. refl) reset_effect
  law attach_debugger = of_command _ (λ d. refl) attach_debugger_effect
  law (enc_ecb slot input output) = of_use slot Cipher
  law (dec_ecb slot input output) = of_use slot Cipher
  law (enc_cbc slot iv input output) = of_use slot Cipher
  law (dec_cbc slot iv input output) = of_use slot Cipher
  law (generate_mac slot bits message mac) = of_use slot GenerateMac
  law (verify_mac slot bits message mac macbits) = of_use slot VerifyMac
  law (load_key m1 m2 m3 b4 b5) = of_load m1 m2 m3 b4 b5
  law (load_plain_key key) = of_command _ (λ d. refl) (load_plain_key_effect key)
  law (export_ram_key b1 b2 b3 b4 b5) = of_reading (λ d. refl)
  law init_rng = of_command _ (λ d. refl) init_rng_effect
  law (extend_seed entropy) = of_command _ (λ d. refl) (extend_seed_effect entropy)
  law (rnd output) = of_command _ (λ d. refl) (rnd_effect output)
  law get_status = of_reading (λ d. refl)
  law (get_id challenge output) = of_id challenge output
  law (secure_boot bootloader) = of_boot bootloader
  law boot_failure = of_command _ (λ d. refl) boot_failure_effect
  law boot_ok = of_command _ (λ d. refl) boot_ok_effect
