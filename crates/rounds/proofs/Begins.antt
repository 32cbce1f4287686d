-- A new board, and a book opened with its UID and SECRET_KEY alone, are in step.
-- Assumes nothing.
use mathlib.Core.Path.{◌≡◌, refl, sym, ap, ◌∙◌}
use mathlib.Core.Bool.{true, false, cond, false≢true}
use mathlib.Core.List.{List}
use Prim.Native.Nat.{ℕ, zero, suc, ◌+◌, ◌*◌, ◌/◌, ◌≤◌, ◌<◌}
use native.Mathlib.Omega.{arith}
use lib.ListN.{length, replicate, length-append, get_or-replicate, get_or-append}
use Rattle.laws.specs.Tabulate.{tabulate}
use Rattle.laws.proofs.Tabulate.{get_d_tabulate, tabulate_same, tabulate_own}
use Rattle.aes.specs.State.{byte, Bytes}
use Rattle.aes.proofs.Bytes.{zero_bytes}
use Rattle.basics.specs.Bytes.{block_at, zero_uid}
use Rattle.basics.specs.Marks.{off, on, is_on}
use Rattle.message.specs.Slots.{allowed}
use Rattle.message.proofs.Slots.{pair_slots}
use Rattle.garage.specs.Book.{line_at, is_held}
use Rattle.garage.specs.Open.{InUse, held_keys, new_book}
use Rattle.garage.specs.Promised.{CanOpen}
use Rattle.garage.specs.declared.Book.{Book}
use Rattle.garage.proofs.NewBook.{opens}
use Rattle.device.specs.Made.{unkeyed, fresh, Sound}
use Rattle.device.specs.Record.{is_empty, key_at, counter_at, slot_at, with_slot, Shaped}
use Rattle.device.specs.declared.Device.{Device}
use Rattle.device.specs.declared.Slot.{Slot}
use Rattle.device.proofs.Slots.{put_fits, that_slot, other_slot}
use Rattle.demands.proofs.First.{making}
use Rattle.rounds.specs.InStep.{InStep}
use Rattle.rounds.specs.Rounds.{secret_alone, first_held, Begins}

module _ (uid secret seed : List ℕ) (long : length uid ≡ 15) (named : uid ≡ zero_uid → ⊥) (key-long : length secret ≡ 16) (small : Bytes secret)
    (seed-long : length seed ≡ 16) where
  abbrev book : Book
  book = new_book uid (secret_alone secret) first_held (replicate 13 0)

  abbrev board : Device
  board = fresh uid secret seed

  marks_fit : (i : ℕ) → i < 15 → byte first_held i ≤ on
  marks_fit zero h = omega arith
  marks_fit (suc i) h = let none = get_or-replicate 14 i off 0 (omega (arith, h)) in omega (arith, none)

  can_open : CanOpen uid (secret_alone secret) first_held (replicate 13 0)
  can_open = (
    long,
    length-append secret (replicate 224 0) ∙ ap (λ (n : ℕ). n + 224) key-long,
    refl,
    refl,
    named,
    marks_fit,
    λ i h. let none = get_or-replicate {A = ℕ} 13 i 0 0 h in omega (arith, none),
  )

  in_use : InUse book
  in_use = (opens.opens uid (secret_alone secret) first_held (replicate 13 0) ((opens.exactly_when uid (secret_alone secret) first_held (replicate 13 0)).1 can_open)).1

  sound : Sound board
  sound = (making.makes uid secret seed small ((making.exactly_when uid secret seed).1 (long, key-long, seed-long, named))).1

  -- the book's lines: SECRET_KEY, and nothing else
  none_held : (s : ℕ) → s < 14 → is_held book (suc s) ≡ false
  none_held s h = ap is_on (get_or-replicate 14 s off 0 h)

  book_secret : (line_at book 0).key ≡ secret
  unfolding block_at held_keys
  book_secret =
      let byte_of : ℕ → ℕ = λ k. cond (is_on (byte first_held (k / 16))) (byte (secret_alone secret) k) 0 in
      tabulate_same 16 (λ i. byte (tabulate 240 byte_of) (16 * 0 + i)) (byte secret) (λ i h.
      let at : 16 * 0 + i ≡ i = omega arith in
      let row : i / 16 ≡ 0 = omega (arith, h) in
      ap (byte (tabulate 240 byte_of)) at
      ∙ get_d_tabulate 240 byte_of i (omega (arith, h))
      ∙ ap (λ (n : ℕ). cond (is_on (byte first_held n)) (byte (secret_alone secret) i) 0) row
      ∙ get_or-append secret (replicate 224 0) 0 i (omega (arith, h, key-long)))
      ∙ tabulate_own 16 secret key-long

  -- the board's slots: SECRET_KEY, and all others empty
  abbrev secret_slot : Slot
  secret_slot = record { key = secret; counter = 0; flags = 0; empty = off }

  shaped : Shaped (unkeyed uid seed)
  shaped = record {
    all_keys = refl;
    key_bytes = zero_bytes 240;
    all_counters = refl;
    all_flags = refl;
    all_empty = refl;
    uid_long = long;
    all_marks = refl;
  }

  board_is : board ≡ with_slot 0 secret_slot (unkeyed uid seed)
  board_is = put_fits 0 secret_slot (unkeyed uid seed) (omega arith)

  first_slot : slot_at board 0 ≡ secret_slot
  first_slot = ap (λ (x : Device). slot_at x 0) board_is ∙ that_slot 0 secret_slot (unkeyed uid seed) shaped (omega arith) key-long

  later_slot : (s : ℕ) → slot_at board (suc s) ≡ slot_at (unkeyed uid seed) (suc s)
  later_slot s = ap (λ (x : Device). slot_at x (suc s)) board_is
      ∙ other_slot 0 secret_slot (unkeyed uid seed) shaped (omega arith) key-long (suc s) (λ e. omega (arith, e))

  in_step : InStep book board
  in_step = record {
    open_book = in_use;
    made_board = sound;
    same_uid = sym (ap (λ (x : Device). x.uid) board_is);
    slots = λ slot h. record { same_key = keys slot h; none_unknown = unknown slot; same_counter = counters slot h };
  }
    where
      keys : (slot : ℕ) → slot ≤ 13 → is_held book slot ≡ true → (is_empty board slot ≡ false) × ((line_at book slot).key ≡ key_at board slot)
      keys zero h held = (ap (λ (x : Slot). is_on x.empty) first_slot, book_secret ∙ sym (ap (λ (x : Slot). x.key) first_slot))
      keys (suc s) h held = absurd (false≢true (sym (none_held s (omega (arith, h))) ∙ held))

      unknown : (slot : ℕ) → allowed slot slot ≡ true → is_held book slot ≡ false → is_empty board slot ≡ true
      unknown zero own none = absurd (omega (arith, (pair_slots zero zero own).0))
      unknown (suc s) own none =
          let few : suc s < 15 = omega (arith, (pair_slots (suc s) (suc s) own).1) in
          ap (λ (x : Slot). is_on x.empty) (later_slot s) ∙ ap is_on (get_or-replicate 15 (suc s) on 0 few)

      counters : (slot : ℕ) → slot ≤ 13 → (line_at book slot).counter ≡ counter_at board slot
      counters zero h = sym (ap (λ (x : Slot). x.counter) first_slot)
      counters (suc s) h =
          let few : suc s < 15 = omega (arith, h) in
          get_or-replicate 15 (suc s) 0 0 few ∙ sym (ap (λ (x : Slot). x.counter) (later_slot s) ∙ get_or-replicate 15 (suc s) 0 0 few)

pub begins : Begins
begins = record { new_ones = in_step }
