-- The device record: what it holds slot by slot, its marks, and the same record with a part of it set anew.
-- Assumes nothing.
use Rattle.std.specs.Prelude.{◌≡◌, Bool, cond, List, [], ℕ, leb, length, get_or, set}
use Rattle.aes.specs.State.{byte, Bytes}
use Rattle.basics.specs.Bytes.{block_at, put_block}
use Rattle.basics.specs.Marks.{off, on, is_on}
use Rattle.modes.specs.Blocks.{zero_block}
use Rattle.device.specs.declared.Device.{Device}
use Rattle.device.specs.declared.Slot.{Slot}

-- ---- slots that a rule names
abbrev pub secret_key : ℕ
secret_key = 0

abbrev pub master_ecu_key : ℕ
master_ecu_key = 1

abbrev pub boot_mac_key : ℕ
boot_mac_key = 2

abbrev pub boot_mac : ℕ
boot_mac = 3

abbrev pub ram_key : ℕ
ram_key = 14

-- ---- marks: how many there are, and the places of those that mean something: random numbers are initialised; slot 14 came in
-- plain; a debugger is attached; the device is made; SECURE_BOOT succeeded since reset; and the four bits that the status shows of
-- it: SECURE_BOOT, BOOT_INIT, BOOT_FINISHED and BOOT_OK
abbrev pub mark_count : ℕ
mark_count = 11

abbrev pub rng_mark : ℕ
rng_mark = 0

abbrev pub plain_mark : ℕ
plain_mark = 1

abbrev pub debugger_mark : ℕ
debugger_mark = 2

abbrev pub made_mark : ℕ
made_mark = 3

abbrev pub booted_mark : ℕ
booted_mark = 4

abbrev pub secure_boot_mark : ℕ
secure_boot_mark = 5

abbrev pub boot_init_mark : ℕ
boot_init_mark = 6

abbrev pub boot_finished_mark : ℕ
boot_finished_mark = 7

abbrev pub boot_ok_mark : ℕ
boot_ok_mark = 8

abbrev pub mark_at : Device → ℕ → ℕ
mark_at d place = byte d.marks place

abbrev pub is_marked : Device → ℕ → Bool
is_marked d place = is_on (mark_at d place)

-- ---- what a slot holds: 16 key bytes, a counter, flags, and an empty mark
abbrev pub key_at : Device → ℕ → List ℕ
key_at d slot = block_at d.keys slot

abbrev pub counter_at : Device → ℕ → ℕ
counter_at d slot = get_or d.counters slot 0

abbrev pub flags_at : Device → ℕ → ℕ
flags_at d slot = byte d.flags slot

abbrev pub empty_at : Device → ℕ → ℕ
empty_at d slot = byte d.empty slot

abbrev pub is_empty : Device → ℕ → Bool
is_empty d slot = is_on (empty_at d slot)

-- a slot with a key that no message brought: no counter, no flags; and an empty slot
abbrev pub holding : List ℕ → Slot
holding key = record { key = key; counter = 0; flags = 0; empty = off }

abbrev pub emptied : Slot
emptied = record { key = zero_block; counter = 0; flags = 0; empty = on }

abbrev pub slot_at : Device → ℕ → Slot
slot_at d slot = record { key = key_at d slot; counter = counter_at d slot; flags = flags_at d slot; empty = empty_at d slot }

-- ---- parts set anew: all that calls can change, with the rest as in d; then the random numbers, all marks, one of them, and one slot
abbrev pub rebuilt : (keys counters flags empty seed state rngkey marks : List ℕ) → Device → Device
rebuilt keys counters flags empty seed state rngkey marks d =
    record {
      keys = keys;
      counters = counters;
      flags = flags;
      empty = empty;
      uid = d.uid;
      seed = seed;
      state = state;
      rngkey = rngkey;
      marks = marks;
    }

-- seed, state and key
abbrev pub set_random : List ℕ → List ℕ → List ℕ → Device → Device
set_random seed state key d = rebuilt d.keys d.counters d.flags d.empty seed state key d.marks d

abbrev pub set_marks : List ℕ → Device → Device
set_marks marks d = rebuilt d.keys d.counters d.flags d.empty d.seed d.state d.rngkey marks d

abbrev pub set_mark : ℕ → ℕ → Device → Device
set_mark place mark d = set_marks (set d.marks place mark) d

abbrev pub with_slots : List ℕ → List ℕ → List ℕ → List ℕ → Device → Device
with_slots keys counters flags empty d = rebuilt keys counters flags empty d.seed d.state d.rngkey d.marks d

abbrev pub with_slot : ℕ → Slot → Device → Device
with_slot slot new d =
    with_slots (put_block d.keys slot new.key) (set d.counters slot new.counter) (set d.flags slot new.flags)
    (set d.empty slot new.empty) d

-- a number that is no slot changes nothing
unfoldable pub put_slot : ℕ → Slot → Device → Device
put_slot slot new d = cond (leb slot ram_key) (with_slot slot new d) d

-- all that a device holds besides its slots
abbrev pub beside_slots : Device → Device
beside_slots d = with_slots [] [] [] [] d

-- ---- what the record's type says of it, for theorems: how many numbers there are, and that keys are bytes
pub record Shape (keys counters flags empty uid marks : List ℕ) : Type 0 where
  pub all_keys : length keys ≡ 240
  pub key_bytes : Bytes keys
  pub all_counters : length counters ≡ 15
  pub all_flags : length flags ≡ 15
  pub all_empty : length empty ≡ 15
  pub uid_long : length uid ≡ 15
  pub all_marks : length marks ≡ mark_count

abbrev pub Shaped : Device → Type 0
Shaped d = Shape d.keys d.counters d.flags d.empty d.uid d.marks
