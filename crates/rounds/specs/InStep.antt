-- When the foreman's book and the board of a bus are in step: the book holds what the board holds, as far as it must to write
-- messages that load. And when they are so but for messages that the board has taken and whose proof is still on its way.
-- Assumes nothing.
use Rattle.std.specs.Prelude.{◌≡◌, true, false, ◌⊎◌, ℕ, ◌≤◌}
use Rattle.basics.specs.Marks.{is_on}
use Rattle.message.specs.Slots.{allowed}
use Rattle.garage.specs.Book.{line_at, is_held}
use Rattle.garage.specs.Open.{InUse}
use Rattle.garage.specs.declared.Book.{Book}
use Rattle.device.specs.Made.{Sound}
use Rattle.device.specs.Record.{is_empty, key_at, counter_at}
use Rattle.device.specs.declared.Device.{Device}

-- ---- for one message: the same UID; the authority's key and the target's counter the same, or both without
pub record SameKey (b : Book) (d : Device) (slot : ℕ) : Type 0 where
  pub both_hold : is_held b slot ≡ true → (is_empty d slot ≡ false) × ((line_at b slot).key ≡ key_at d slot)
  pub both_without : is_held b slot ≡ false → is_empty d slot ≡ true

pub record Agree (b : Book) (d : Device) (target authority : ℕ) : Type 0 where
  pub same_uid : b.uid ≡ d.uid
  pub same_key : SameKey b d authority
  pub same_counter : (line_at b target).counter ≡ counter_at d target

-- ---- of a slot: a key that the book holds is the board's; where the book has none and the slot can be loaded by its own key, it is
-- empty; and the counter is the same. (So the book may lack SECRET_KEY, which no board lacks, and a MAC that a boot check learnt.)
pub record Level (b : Book) (d : Device) (slot : ℕ) : Type 0 where
  pub same_key : is_held b slot ≡ true → (is_empty d slot ≡ false) × ((line_at b slot).key ≡ key_at d slot)
  pub none_unknown : allowed slot slot ≡ true → is_held b slot ≡ false → is_empty d slot ≡ true
  pub same_counter : (line_at b slot).counter ≡ counter_at d slot

-- or the board is ahead: it has taken the message that waits, and its proof is on the way
pub record Ahead (b : Book) (d : Device) (slot : ℕ) : Type 0 where
  pub waits : is_on (line_at b slot).waits ≡ true
  pub took : (is_empty d slot ≡ false) × (key_at d slot ≡ (line_at b slot).newkey) × (counter_at d slot ≡ (line_at b slot).newcounter)

-- ---- of all: an open book and a made board of one UID, each non-volatile slot level, or the board ahead. (RAM_KEY goes with a reset,
-- and authorises nothing.)
pub record OnTheWay (b : Book) (d : Device) : Type 0 where
  pub open_book : InUse b
  pub made_board : Sound d
  pub same_uid : b.uid ≡ d.uid
  pub slots : (slot : ℕ) → slot ≤ 13 → Level b d slot ⊎ Ahead b d slot

-- in step: and nothing is on the way back
pub record InStep (b : Book) (d : Device) : Type 0 where
  pub open_book : InUse b
  pub made_board : Sound d
  pub same_uid : b.uid ≡ d.uid
  pub slots : (slot : ℕ) → slot ≤ 13 → Level b d slot
