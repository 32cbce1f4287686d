-- A book that was opened is open, and nothing waits in it.
-- Assumes nothing.
use mathlib.Core.Path.{◌≡◌, refl, sym, ap, ◌∙◌}
use mathlib.Core.Bool.{Bool, true, false, cond, false≢true}
use mathlib.Core.List.{List, [], ◌∷◌}
use mathlib.Core.Logic.{inl, ⊎_elim}
use Prim.Native.Nat.{ℕ, ◌+◌, ◌-◌, ◌*◌, ◌/◌, ◌≤◌, ◌<◌}
use native.Mathlib.Omega.{arith}
use borrow.Author.Tests.{leb-true, leb-false, le-leb}
use lib.Dec.{leb}
use lib.ListN.{length, get_or, replicate, get_or-replicate, get_or-eq_default}
use lib.Seq.{paste, length-paste}
use Rattle.laws.specs.Lengths.{right_lengths}
use Rattle.laws.specs.Same.{same}
use Rattle.laws.specs.Tabulate.{tabulate}
use Rattle.laws.proofs.Lengths.{Right, each_right}
use Rattle.laws.proofs.Paste.{paste_before, paste_at, paste_after}
use Rattle.laws.proofs.Same.{same_equal, equal_same}
use Rattle.laws.proofs.Tabulate.{length_tabulate, get_d_tabulate, tabulate_same}
use Rattle.laws.proofs.Test.{all_each, each_all}
use Rattle.aes.specs.State.{byte}
use Rattle.basics.specs.Answers.{no_error, general_error}
use Rattle.basics.specs.Bytes.{block_at, zero_uid}
use Rattle.basics.specs.Marks.{off, is_on, is_mark}
use Rattle.basics.proofs.Faults.{first_among}
use Rattle.basics.proofs.Wide.{by_answer_lem}
use Rattle.modes.specs.Blocks.{zero_block}
use Rattle.message.specs.FirstBlock.{max_counter}
use Rattle.message.specs.Slots.{counter_kept}
use Rattle.message.proofs.Slots.{counter_1_13}
use Rattle.garage.specs.Book.{line_at, Shaped}
use Rattle.garage.specs.Open.{is_open, InUse, blank, open_lengths, open_checks, open_answer, held_keys, new_book, opening}
use Rattle.garage.specs.Outcome.{Outcome}
use Rattle.garage.specs.Promised.{CanOpen, Opens}
use Rattle.garage.specs.declared.Book.{Book}
use Rattle.garage.proofs.Called.{Openable, openable, open_refused, open_done, is_done, is_refused}
use Rattle.garage.proofs.Opened.{Fine, book_open}

module _ (uid keys held counters : List ℕ) (ok : Openable uid keys held counters) where
  lengths : (k : ℕ) → Right (open_lengths (length uid) (length keys) (length held) (length counters)) k
  lengths = each_right _ ok.long

  abbrev book : Book
  book = new_book uid keys held counters

  abbrev stored : List ℕ
  stored = paste (replicate 15 0) 1 counters 13

  enough : 13 ≤ length counters
  enough = omega (arith, lengths 3)

  -- the counter of each slot: none for the first and the last, and those that were given between
  counter_at : (slot : ℕ) → slot ≤ 14 → get_or stored slot 0 ≤ counter_kept slot max_counter
  counter_at slot fits = tests (leb 1 slot) (leb slot 13) refl refl
    where
      given : 1 ≤ slot → slot ≤ 13 → get_or stored slot 0 ≤ max_counter
      given l h =
          let i : slot - 1 < 13 = omega (arith, l, h) in
          let at : 1 + (slot - 1) ≡ slot = omega (arith, l) in
          let same = sym (ap (λ (s : ℕ). get_or stored s 0) at) ∙ paste_at (replicate 15 0) counters 1 13 (omega arith) enough (slot - 1) i in
          omega (arith, same, leb-true (get_or counters (slot - 1) 0) max_counter (all_each 13 (λ k. leb (get_or counters k 0) max_counter) ok.counts (slot - 1) i))

      first : slot < 1 → get_or stored slot 0 ≤ counter_kept slot max_counter
      first l =
          let same = paste_before (replicate 15 0) counters 1 13 (omega arith) enough slot l ∙ get_or-replicate 15 slot 0 0 (omega (arith, l)) in
          omega (arith, same)

      last : 13 < slot → get_or stored slot 0 ≤ counter_kept slot max_counter
      last h =
          let at : 1 + 13 + 0 ≡ slot = omega (arith, h, fits) in
          let same = sym (ap (λ (s : ℕ). get_or stored s 0) at) ∙ paste_after (replicate 15 0) counters 1 13 (omega arith) enough 0 in
          omega (arith, same)

      tests : (a z : Bool) → leb 1 slot ≡ a → leb slot 13 ≡ z → get_or stored slot 0 ≤ counter_kept slot max_counter
      tests true true p q =
          let l = leb-true 1 slot p in
          let h = leb-true slot 13 q in
          omega (arith, given l h, counter_1_13 slot max_counter l h)
      tests false z p q = first (leb-false 1 slot p)
      tests true false p q = last (leb-false slot 13 q)

  -- a key that isn't held is kept as zeros
  not_held : (slot : ℕ) → slot ≤ 14 → is_on (byte held slot) ≡ false → block_at (held_keys keys held) slot ≡ zero_block
  unfolding block_at held_keys tabulate
  not_held slot fits off-mark =
      let byte_of : ℕ → ℕ = λ k. cond (is_on (byte held (k / 16))) (byte keys k) 0 in
      tabulate_same 16 (λ i. byte (tabulate 240 byte_of) (16 * slot + i)) (λ i. 0) (λ i h.
      let few : 16 * slot + i < 240 = omega (arith, fits, h) in
      let row : (16 * slot + i) / 16 ≡ slot = omega (arith, h) in
      get_d_tabulate 240 byte_of (16 * slot + i) few
      ∙ ap (λ (n : ℕ). cond (is_on (byte held n)) (byte keys (16 * slot + i)) 0) row
      ∙ ap (λ (t : Bool). cond t (byte keys (16 * slot + i)) 0) off-mark)

  no_keys : (slot : ℕ) → slot ≤ 14 → block_at (replicate 240 0) slot ≡ zero_block
  unfolding block_at tabulate
  no_keys slot fits = tabulate_same 16 _ (λ i. 0) (λ i h. get_or-replicate 240 (16 * slot + i) 0 0 (omega (arith, fits, h)))

  fine : (slot : ℕ) → slot ≤ 14 → Fine book slot (line_at book slot)
  fine slot fits =
      let few : slot < 15 = omega (arith, fits) in
      let silent = get_or-replicate 15 slot off 0 few in
      record {
        counted = counter_at slot fits;
        marked = (all_each 15 (λ i. is_mark (byte held i)) ok.marks slot few, ap is_mark silent);
        unheld = not_held slot fits;
        waiting = λ so. absurd (false≢true (sym (ap is_on silent) ∙ so));
        silent = λ none. (get_or-replicate 15 slot 0 0 few, get_or-replicate 15 slot 0 0 few, no_keys slot fits);
      }

  shaped : Shaped book
  unfolding held_keys
  shaped = record {
    all_keys = length_tabulate 240 _;
    all_newkeys = refl;
    all_counters = length-paste (replicate 15 0) 1 counters 13 (omega arith) enough;
    all_newcounters = refl;
    all_held = lengths 2;
    all_waits = refl;
    all_authorities = refl;
    uid_long = lengths 0;
  }

  pub new_in_use : InUse book
  new_in_use = (shaped, book_open book (record { open_marks_lem = refl; named = ok.named; lines = fine }))

-- ---- opening
module _ (uid keys held counters : List ℕ) where
  answered : (opening uid keys held counters).answer ≡ open_answer uid keys held counters
  unfolding opening
  answered = by_answer_lem (open_answer uid keys held counters)
      (λ zero. ap (λ (o : Outcome). o.answer) (is_done _ _ _ zero) ∙ sym zero)
      (λ other. ap (λ (o : Outcome). o.answer) (is_refused _ _ _ other))

  told : (opening uid keys held counters).answer ≡ no_error → CanOpen uid keys held counters
  told e =
      let ok = openable uid keys held counters (sym answered ∙ e) in
      let l = each_right (open_lengths (length uid) (length keys) (length held) (length counters)) ok.long in (
        l 0,
        l 1,
        l 2,
        l 3,
        λ zero. false≢true (sym ok.named ∙ same_equal uid zero_uid zero),
        λ i h. leb-true (byte held i) 1 (all_each 15 (λ k. is_mark (byte held k)) ok.marks i h),
        λ i h. leb-true (get_or counters i 0) max_counter (all_each 13 (λ k. leb (get_or counters k 0) max_counter) ok.counts i h),
      )

  different : (uid ≡ zero_uid → ⊥) → same uid zero_uid ≡ false
  different other = tests (same uid zero_uid) refl
    where
      tests : (t : Bool) → same uid zero_uid ≡ t → t ≡ false
      tests true e = absurd (other (equal_same uid zero_uid e))
      tests false e = refl

  enough_to_open : CanOpen uid keys held counters → (opening uid keys held counters).answer ≡ no_error
  unfolding open_answer right_lengths
  enough_to_open (hu, hk, hh, hc, named, marks, counts) =
      answered
      ∙ simp (
        hu,
        hk,
        hh,
        hc,
        different named,
        each_all 15 (λ i. is_mark (byte held i)) (λ i h. le-leb (byte held i) 1 (marks i h)),
        each_all 13 (λ i. leb (get_or counters i 0) max_counter) (λ i h. le-leb (get_or counters i 0) max_counter (counts i h)),
      )

-- a refusal is 12
only_twelve : (uid keys held counters : List ℕ) → (open_answer uid keys held counters ≡ 0 → ⊥) → open_answer uid keys held counters ≡ general_error
unfolding open_answer
only_twelve uid keys held counters other =
    ⊎_elim (λ zero. absurd (other zero)) (⊎_elim (λ so. so) absurd)
    (first_among (no_error ∷ general_error ∷ []) (open_checks uid keys held counters) (inl refl) refl)

none_waits : (slot : ℕ) → byte (replicate 15 off) slot ≡ off
none_waits slot = tests (leb 15 slot) refl
  where
    tests : (t : Bool) → leb 15 slot ≡ t → byte (replicate 15 off) slot ≡ off
    tests true e = get_or-eq_default (replicate 15 off) 0 {n = slot} (leb-true 15 slot e)
    tests false e = get_or-replicate 15 slot off 0 (leb-false 15 slot e)

shut : is_open blank ≡ false
unfolding is_open same
shut = refl

pub opens : Opens
opens = record {
  exactly_when = λ uid keys held counters. (told uid keys held counters, enough_to_open uid keys held counters);
  opens = λ uid keys held counters e.
      let zero = sym (answered uid keys held counters) ∙ e in (
        sym (open_done uid keys held counters _ refl _ zero refl),
        new_in_use uid keys held counters (openable uid keys held counters zero),
      );
  nothing_waits = λ uid keys held counters slot. none_waits slot;
  blank_otherwise = λ uid keys held counters other.
      let why : open_answer uid keys held counters ≡ 0 → ⊥ = λ zero. other (answered uid keys held counters ∙ zero) in
      sym (open_refused uid keys held counters general_error (sym (only_twelve uid keys held counters why)) blank (λ z. absurd (omega (arith, z))) refl);
  blank_is_not_open = shut;
}
