-- The third demand: on a made device with right lengths, a key load succeeds exactly when some key, counter and flags exist which
-- the published building, under the secret the paper gives the named slot, turns into these very three messages, and the paper's
-- rules hold; then only the target slot changes, to that record as its slot keeps it. Over any sequence of calls no non-volatile
-- counter falls, and each successful non-volatile load raises its slot's.
-- Assumes nothing.
use Rattle.std.specs.Prelude.{◌≡◌, true, false, List, ◌↔◌, ℕ, ◌+◌, ◌≤◌, length}
use Rattle.laws.specs.Lengths.{right_lengths}
use Rattle.aes.specs.State.{Bytes}
use Rattle.basics.specs.Answers.{no_error}
use Rattle.basics.specs.Marks.{off}
use Rattle.message.specs.Building.{uid_of, target_of, authority_of, Carried}
use Rattle.message.specs.Flags.{write}
use Rattle.message.specs.Messages.{sent, build}
use Rattle.message.specs.Slots.{allowed}
use Rattle.device.specs.Made.{made, Sound}
use Rattle.device.specs.Record.{secret_key, boot_mac, plain_mark, mark_at, is_empty, counter_at, flags_at, slot_at, set_mark, beside_slots}
use Rattle.device.specs.Rules.{has_flag, locked}
use Rattle.device.specs.declared.Device.{Device}
use Rattle.device.specs.declared.Slot.{Slot}
use Rattle.boot.specs.Boot.{measure}
use Rattle.load.specs.Load.{five_lengths, key_loaded}
use Rattle.load.specs.Rules.{authority_key, is_for_us, counter_rises, plain_after, as_kept}
use Rattle.demands.specs.Calls.{Call, Machine, load_key, secure_boot}
use Rattle.demands.specs.Runs.{run, after, loads_of, is_fill_of, fills_of, InBytes}

-- the paper's rules for a message to UID', target and authority, with a counter: the pair; target without WRITE; authority not
-- empty, or the target itself; authority not locked; identity; counter
pub record Rules (d : Device) (uid : List ℕ) (target authority counter : ℕ) : Type 0 where
  pub pair : allowed target authority ≡ true
  pub writable : has_flag (flags_at d target) write ≡ false
  pub present : is_empty d authority ≡ true → authority ≡ target
  pub unlocked : locked d authority ≡ false
  pub for_us : is_for_us d target uid ≡ true
  pub rises : counter_rises d target counter ≡ true

-- a counter of 28 bits, n flags and a key of 16 bytes that the building turns into these very three messages, under the key of
-- the authority that M1 names; and the rules hold
pub record Loads (n : ℕ) (d : Device) (m1 m2 m3 : List ℕ) (counter flags : ℕ) (key : List ℕ) : Type 0 where
  pub carried : Carried n counter flags key
  pub built : build n (uid_of m1) (target_of m1) (authority_of m1) (authority_key d (authority_of m1)) counter flags key ≡ sent m1 m2 m3
  pub rules : Rules d (uid_of m1) (target_of m1) (authority_of m1) counter

-- one slot is new, and nothing else; slot 14's plain mark goes off with it
pub record OnlyTarget (d : Device) (target : ℕ) (new : Slot) (e : Device) : Type 0 where
  pub target_is : slot_at e target ≡ new
  pub others_stay : (slot : ℕ) → (slot ≡ target → ⊥) → slot_at e slot ≡ slot_at d slot
  pub all_else_stays : beside_slots e ≡ beside_slots (set_mark plain_mark (plain_after target (mark_at d plain_mark)) d)

pub record LoadsExactly (n : ℕ) (machine : Machine) (d : Device) (m1 m2 m3 b4 b5 : List ℕ) : Type 0 where
  pub exactly_when : ((machine d (load_key m1 m2 m3 b4 b5)).answer ≡ no_error)
      ↔ ((counter : ℕ) × (flags : ℕ) × (key : List ℕ) × Loads n d m1 m2 m3 counter flags key)
  -- then there are no others
  pub no_others : (c f c' f' : ℕ) (key key' : List ℕ) → Loads n d m1 m2 m3 c f key → Loads n d m1 m2 m3 c' f' key'
      → (c ≡ c') × (f ≡ f') × (key ≡ key')
  -- and the target alone changes, to that record as its slot keeps it
  pub leaves : (c f : ℕ) (key : List ℕ) → Loads n d m1 m2 m3 c f key
      → machine d (load_key m1 m2 m3 b4 b5) ≡ key_loaded d (target_of m1) (authority_of m1) c f key
  pub only_target : (c f : ℕ) (key : List ℕ) → Loads n d m1 m2 m3 c f key
      → OnlyTarget d (target_of m1) (as_kept (target_of m1) c f key) (machine d (load_key m1 m2 m3 b4 b5)).device

-- a SECURE_BOOT that found slot 3 empty: that slot holds the MAC of the bootloader, counter 0 and no flags
pub record Learns (d : Device) (call : Call) (slot : ℕ) (e : Device) : Type 0 where
  pub bootloader : List ℕ
  pub by_secure_boot : call ≡ secure_boot bootloader
  pub slot_is : slot ≡ boot_mac
  pub holds : slot_at e boot_mac ≡ record { key = measure d bootloader; counter = 0; flags = 0; empty = off }

-- over any sequence of calls
pub record Runs (n : ℕ) (machine : Machine) : Type 0 where
  pub stays_made : (d : Device) (calls : List Call) → Sound d → InBytes n calls → Sound (after d (run machine d calls))
  -- a non-volatile counter has risen at least by the number of loads of its slot that succeeded: it never falls, and each of them
  -- raises it
  pub counters_rise : (d : Device) (calls : List Call) (slot : ℕ) → Sound d → InBytes n calls → slot ≤ 13
      → counter_at d slot + loads_of n slot (run machine d calls) ≤ counter_at (after d (run machine d calls)) slot
  -- a non-volatile slot changes only by a load of it that succeeds, or, slot 3 alone, by a SECURE_BOOT that found it empty and
  -- succeeded; then it holds exactly that MAC, counter 0 and no flags. SECRET_KEY and UID never change
  pub slots_stay : (d : Device) (calls : List Call) (slot : ℕ) → Sound d → InBytes n calls → slot ≤ 13
      → loads_of n slot (run machine d calls) ≡ 0 → fills_of n slot d (run machine d calls) ≡ 0
      → slot_at (after d (run machine d calls)) slot ≡ slot_at d slot
  pub fills_exactly : (d : Device) (call : Call) (slot : ℕ) → Sound d → is_fill_of n slot d (call, machine d call) ≡ true
      → Learns d call slot (machine d call).device
  pub identity_stays : (d : Device) (calls : List Call) → Sound d → InBytes n calls
      → (slot_at (after d (run machine d calls)) secret_key ≡ slot_at d secret_key) × ((after d (run machine d calls)).uid ≡ d.uid)
  -- and a record that is not made never changes
  pub unmade_stays : (d : Device) (calls : List Call) → made d ≡ false → after d (run machine d calls) ≡ d

pub record Demand3 (n : ℕ) (machine : Machine) : Type 0 where
  pub loading : (d : Device) (m1 m2 m3 b4 b5 : List ℕ) → Sound d → Bytes m2
      → right_lengths (five_lengths (length m1) (length m2) (length m3) (length b4) (length b5)) ≡ true
      → LoadsExactly n machine d m1 m2 m3 b4 b5
  pub runs : Runs n machine
