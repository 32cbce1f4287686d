-- A day of book and board: each slot is level, or the board is ahead. What a call of the board leaves is the third demand's; what
-- a call of the book leaves of its lines, the book's own theorems'.
-- Assumes nothing.
use mathlib.Core.Path.{◌≡◌, refl, sym, ap, ◌∙◌, subst}
use mathlib.Core.Bool.{Bool, true, false, cond, ◌&&◌, false≢true}
use mathlib.Core.List.{List, [], ◌∷◌}
use mathlib.Core.Logic.{◌⊎◌, inl, inr, ⊎_elim}
use Prim.Native.Nat.{ℕ, zero, suc, ◌+◌, ◌≤◌, ◌<◌}
use native.Mathlib.Omega.{arith}
use borrow.Author.Tests.{eqb-true, eqb-false, leb-true}
use lib.Dec.{eqb, leb}
use Rattle.laws.specs.Among.{is_among}
use Rattle.laws.proofs.Test.{both}
use Rattle.basics.specs.Answers.{no_error}
use Rattle.basics.specs.Marks.{is_on, is_mark}
use Rattle.message.specs.FirstBlock.{max_counter}
use Rattle.message.specs.Flags.{flag_count}
use Rattle.message.specs.Slots.{counter_kept, allowed}
use Rattle.message.proofs.Slots.{pair_slots, pair_2_3, counter_14}
use Rattle.garage.specs.Book.{line_at, is_held}
use Rattle.garage.specs.Calls.{judging, verdict_yes}
use Rattle.garage.specs.Open.{InUse}
use Rattle.garage.specs.Outcome as book
use Rattle.garage.specs.Promised.{settled_line}
use Rattle.garage.specs.Rules.{next_counter}
use Rattle.garage.specs.Runs.{Call as BookCall, write as book-write, judge as book-judge, step as book-step, wrote, said_yes}
use Rattle.garage.specs.declared.Book.{Book}
use Rattle.garage.specs.declared.Line.{Line}
use Rattle.garage.proofs.Called.{was_written}
use Rattle.garage.proofs.Opened.{Pair, open_book}
use Rattle.garage.proofs.Promised.{over_time, line_after, yes_takes}
use Rattle.device.specs.Account.{BringsBytes}
use Rattle.device.specs.Made.{slot_fine, Sound}
use Rattle.device.specs.Outcome as board
use Rattle.device.specs.Record.{is_empty, empty_at, counter_at, flags_at, slot_at}
use Rattle.device.specs.Rules.{kept}
use Rattle.device.specs.declared.Device.{Device}
use Rattle.device.specs.declared.Slot.{Slot}
use Rattle.device.proofs.Made.{facts, empty_counter}
use Rattle.commands.specs.Commands as commands
use Rattle.load.proofs.Effects.{loaded_sound}
use Rattle.demands.specs.Calls.{Call, Machine, load_key, account}
use Rattle.demands.specs.Demand1.{Demand1}
use Rattle.demands.specs.Demand3.{Learns, Demand3}
use Rattle.demands.specs.Runs.{is_load_of, is_fill_of, InBytes}
use Rattle.demands.proofs.Third.{puts_one}
use Rattle.rounds.specs.InStep.{Agree, Level, Ahead, OnTheWay, InStep}
use Rattle.rounds.specs.Rounds.{Order, written, Waiting, Event, write, deliver, judge, call, happens, day, MayHappen, Fair, Day}
use Rattle.rounds.proofs.Round.{slots, block, carried, took, is_ahead, yes, may_deliver}

abbrev Both : Book × Device → Type 0
Both s = OnTheWay s.0 s.1

abbrev Settled : Type 0
Settled = List ℕ × ℕ × ℕ

-- ---- a slot: what stays level, and what stays ahead
level_book : (b c : Book) (d : Device) (s : ℕ) → settled_line (line_at c s) ≡ settled_line (line_at b s) → Level b d s → Level c d s
level_book b c d s same l =
    let held = ap (λ (x : Settled). is_on x.1) same in
    record {
      same_key = λ h. let was = l.same_key (sym held ∙ h) in (was.0, ap (λ (x : Settled). x.0) same ∙ was.1);
      none_unknown = λ own h. l.none_unknown own (sym held ∙ h);
      same_counter = ap (λ (x : Settled). x.2) same ∙ l.same_counter;
    }

level_board : (b : Book) (d e : Device) (s : ℕ) → slot_at e s ≡ slot_at d s → Level b d s → Level b e s
level_board b d e s same l =
    let empty = ap (λ (x : Slot). is_on x.empty) same in
    record {
      same_key = λ h. let was = l.same_key h in (empty ∙ was.0, was.1 ∙ sym (ap (λ (x : Slot). x.key) same));
      none_unknown = λ own h. empty ∙ l.none_unknown own h;
      same_counter = l.same_counter ∙ sym (ap (λ (x : Slot). x.counter) same);
    }

ahead_book : (b c : Book) (d : Device) (s : ℕ) → line_at c s ≡ line_at b s → Ahead b d s → Ahead c d s
ahead_book b c d s same a = record {
  waits = ap (λ (l : Line). is_on l.waits) same ∙ a.waits;
  took = (
    a.took.0,
    a.took.1 ∙ sym (ap (λ (l : Line). l.newkey) same),
    a.took.2 ∙ sym (ap (λ (l : Line). l.newcounter) same),
  );
}

ahead_board : (b : Book) (d e : Device) (s : ℕ) → slot_at e s ≡ slot_at d s → Ahead b d s → Ahead b e s
ahead_board b d e s same a = record {
  waits = a.waits;
  took = (
    ap (λ (x : Slot). is_on x.empty) same ∙ a.took.0,
    ap (λ (x : Slot). x.key) same ∙ a.took.1,
    ap (λ (x : Slot). x.counter) same ∙ a.took.2,
  );
}

-- ---- a call of the book: its lines stay, but that for which it wrote, and that of which it said yes
module _ (b : Book) (d : Device) (c : BookCall) (t : OnTheWay b d) where
  abbrev next : Book
  next = (book-step b c).book

  settled_same : (s : ℕ) → said_yes s (c, book-step b c) ≡ false → settled_line (line_at next s) ≡ settled_line (line_at b s)
  settled_same s no-yes = over_time.only_by_yes b (c ∷ []) s t.open_book (ap (λ (x : Bool). cond x 1 0 + 0) no-yes)

  line_same : (s : ℕ) → wrote s (c, book-step b c) ≡ false → said_yes s (c, book-step b c) ≡ false → line_at next s ≡ line_at b s
  line_same s unwritten no-yes =
      line_after b (c ∷ []) s t.open_book (ap (λ (x : Bool). cond x 1 0 + 0) unwritten) (ap (λ (x : Bool). cond x 1 0 + 0) no-yes)

  book_call : ((s : ℕ) → s ≤ 13 → Level next d s ⊎ Ahead next d s) → OnTheWay next d
  book_call each = record {
    open_book = over_time.stays_open b (c ∷ []) t.open_book;
    made_board = t.made_board;
    same_uid = over_time.uid_stays b (c ∷ []) ∙ t.same_uid;
    slots = each;
  }

-- writing for a slot in which the board isn't ahead
writes : (o : Order) (b : Book) (d : Device) → OnTheWay b d → (Ahead b d o.target → ⊥) → OnTheWay (written o b).book d
writes o b d t level = book_call b d c t each
  where
    c : BookCall
    c = book-write o.target o.authority o.flags o.key o.b1 o.b2 o.b3

    other : (s : ℕ) → (x : Bool) → eqb o.target s ≡ x → Ahead b d s → Level (written o b).book d s ⊎ Ahead (written o b).book d s
    other s true e a = absurd (level (subst (Ahead b d) (sym (eqb-true o.target s e)) a))
    other s false e a =
        inr (ahead_book b (written o b).book d s
        (line_same b d (book-write o.target o.authority o.flags o.key o.b1 o.b2 o.b3) t s
        (ap (λ (x : Bool). x && eqb (written o b).answer no_error) e) refl) a)

    each : (s : ℕ) → s ≤ 13 → Level (written o b).book d s ⊎ Ahead (written o b).book d s
    each s fits = ⊎_elim
        (λ l. inl (level_book b (written o b).book d s
        (settled_same b d (book-write o.target o.authority o.flags o.key o.b1 o.b2 o.b3) t s refl) l))
        (λ a. other s (eqb o.target s) refl a) (t.slots s fits)

-- judging, where a yes is for what the board has taken
judges : (b : Book) (d : Device) (target : ℕ) (m4 m5 : List ℕ) → OnTheWay b d
    → ((judging b target m4 m5).verdict ≡ verdict_yes → target ≤ 13 → Ahead b d target) → OnTheWay (judging b target m4 m5).book d
judges b d target m4 m5 t may = book_call b d (book-judge target m4 m5) t (λ s fits. here_or_not s fits (eqb target s) refl)
  where
    stays : (s : ℕ) → s ≤ 13 → said_yes s (book-judge target m4 m5, judging b target m4 m5) ≡ false
        → Level (judging b target m4 m5).book d s ⊎ Ahead (judging b target m4 m5).book d s
    stays s fits no-yes =
        let same = line_same b d (book-judge target m4 m5) t s refl no-yes in
        ⊎_elim (λ l. inl (level_book b (judging b target m4 m5).book d s (ap settled_line same) l))
        (λ a. inr (ahead_book b (judging b target m4 m5).book d s same a)) (t.slots s fits)

    caught_up : (judging b target m4 m5).verdict ≡ verdict_yes → Ahead b d target → Level (judging b target m4 m5).book d target
    caught_up so a =
        let line = yes_takes b target m4 m5 t.open_book so in
        record {
          same_key = λ h. (a.took.0, ap (λ (l : Line). l.key) line ∙ sym a.took.1);
          none_unknown = λ own h. absurd (false≢true (sym h ∙ ap (λ (l : Line). is_on l.held) line));
          same_counter = ap (λ (l : Line). l.counter) line ∙ sym a.took.2;
        }

    yes_or_no : (s : ℕ) → s ≤ 13 → target ≡ s → (x : Bool) → eqb (judging b target m4 m5).verdict 1 ≡ x
        → Level (judging b target m4 m5).book d s ⊎ Ahead (judging b target m4 m5).book d s
    yes_or_no s fits is true e =
        let so = eqb-true (judging b target m4 m5).verdict 1 e in
        let low : target ≤ 13 = omega (arith, is, fits) in
        inl (subst (Level (judging b target m4 m5).book d) is (caught_up so (may so low)))
    yes_or_no s fits is false e = stays s fits (never (eqb target s) (eqb (judging b target m4 m5).verdict 1) e)
      where
        never : (x y : Bool) → y ≡ false → (x && y) ≡ false
        never true y h = h
        never false y h = refl

    here_or_not : (s : ℕ) → s ≤ 13 → (x : Bool) → eqb target s ≡ x
        → Level (judging b target m4 m5).book d s ⊎ Ahead (judging b target m4 m5).book d s
    here_or_not s fits true e = yes_or_no s fits (eqb-true target s e) (eqb (judging b target m4 m5).verdict 1) refl
    here_or_not s fits false e = stays s fits (ap (λ (x : Bool). x && eqb (judging b target m4 m5).verdict 1) e)

-- ---- the board's side: each non-volatile slot stays, or was found empty and learnt a MAC
data Stays (d e : Device) (slot : ℕ) : Type 0 where
  same_slot : slot_at e slot ≡ slot_at d slot → Stays d e slot
  learnt : is_empty d slot ≡ true → allowed slot slot ≡ false → counter_at e slot ≡ 0 → Stays d e slot

slot_after : (b : Book) (d e : Device) (s : ℕ) → Sound d → s ≤ 13 → Stays d e s → Level b d s ⊎ Ahead b d s → Level b e s ⊎ Ahead b e s
slot_after b d e s sound fits (same_slot same) was =
    ⊎_elim (λ l. inl (level_board b d e s same l)) (λ a. inr (ahead_board b d e s same a)) was
slot_after b d e s sound fits (learnt empty other none) was =
    ⊎_elim (λ l. inl (record {
      same_key = λ h. absurd (false≢true (sym (l.same_key h).0 ∙ empty));
      none_unknown = λ own h. absurd (false≢true (sym other ∙ own));
      same_counter = l.same_counter ∙ empty_counter d (facts d sound.1) s (omega (arith, fits)) empty ∙ sym none;
    })) (λ a. absurd (false≢true (sym a.took.0 ∙ empty))) was

module _ (machine : Machine) (first : Demand1 flag_count machine) (third : Demand3 flag_count machine) where
  -- ---- a call of the board
  one_call : (c : Call) → BringsBytes (account flag_count c) → InBytes flag_count (c ∷ [])
  unfolding commands.reset
  one_call c h zero k = h k
  one_call c h (suc j) k = λ i. let none : 0 < 256 = omega arith in none

  module _ (d : Device) (c : Call) (sound : Sound d) (bytes : BringsBytes (account flag_count c)) where
    abbrev later : Device
    later = (machine d c).device

    stays_at : (slot : ℕ) → slot ≤ 13 → is_load_of flag_count slot (c, machine d c) ≡ false → Stays d later slot
    stays_at slot fits not-loaded = tests (is_fill_of flag_count slot d (c, machine d c)) refl
      where
        is_learnt : Learns d c slot later → is_empty d slot ≡ true → Stays d later slot
        is_learnt l empty =
            learnt empty (ap (λ (s : ℕ). allowed s s) l.slot_is ∙ sym (pair_2_3 3 3 (omega arith) (omega arith)))
            (ap (counter_at later) l.slot_is ∙ ap (λ (y : Slot). y.counter) l.holds)

        tests : (x : Bool) → is_fill_of flag_count slot d (c, machine d c) ≡ x → Stays d later slot
        tests true e =
            let two = (both (is_among slot (account flag_count c).fills && is_empty d slot) (eqb (machine d c).answer no_error) e).0 in
            is_learnt (third.runs.fills_exactly d c slot sound e) (both (is_among slot (account flag_count c).fills) (is_empty d slot) two).1
        tests false e =
            same_slot (third.runs.slots_stay d (c ∷ []) slot sound (one_call c bytes) fits
            (ap (λ (x : Bool). cond x 1 0 + 0) not-loaded) (ap (λ (x : Bool). cond x 1 0 + 0) e))

    board_call : (b : Book) → OnTheWay b d → ((slot : ℕ) → 1 ≤ slot → slot ≤ 13 → is_load_of flag_count slot (c, machine d c) ≡ false)
        → OnTheWay b later
    board_call b t none = record {
      open_book = t.open_book;
      made_board = third.runs.stays_made d (c ∷ []) sound (one_call c bytes);
      same_uid = t.same_uid ∙ sym identity.1;
      slots = λ s fits. slot_after b d later s sound fits (each s fits) (t.slots s fits);
    }
      where
        identity : (slot_at later 0 ≡ slot_at d 0) × (later.uid ≡ d.uid)
        identity = third.runs.identity_stays d (c ∷ []) sound (one_call c bytes)

        each : (slot : ℕ) → slot ≤ 13 → Stays d later slot
        each zero fits = same_slot identity.0
        each (suc s) fits = stays_at (suc s) fits (none (suc s) (omega arith) fits)

  -- ---- a message that waits is delivered: the board refuses it, or is ahead then
  delivers : (b : Book) (d : Device) (target : ℕ) (m1 m2 m3 b4 b5 : List ℕ) → OnTheWay b d → Waiting b d target m1 m2 m3
      → OnTheWay b (machine d (load_key m1 m2 m3 b4 b5)).device
  delivers b d target m1 m2 m3 b4 b5 t w = tests (eqb (machine d (load_key m1 m2 m3 b4 b5)).answer no_error) refl
    where
      tests : (x : Bool) → eqb (machine d (load_key m1 m2 m3 b4 b5)).answer no_error ≡ x → OnTheWay b (machine d (load_key m1 m2 m3 b4 b5)).device
      tests false e =
          let stays = first.refusal_changes_nothing d (load_key m1 m2 m3 b4 b5) (eqb-false (machine d (load_key m1 m2 m3 b4 b5)).answer 0 e) in
          subst (OnTheWay b) (sym (ap (λ (y : board.Outcome). y.device) stays)) t
      tests true e =
          let success = eqb-true (machine d (load_key m1 m2 m3 b4 b5)).answer 0 e in
          let line = line_at b target in
          let fit = slots b d target m1 m2 m3 t.open_book t.made_board t.same_uid w in
          let new = block b d target m1 m2 m3 t.open_book t.made_board t.same_uid w in
          let left = took b d target m1 m2 m3 t.open_book t.made_board t.same_uid w machine first third b4 b5 success in
          let one = puts_one d t.made_board target line.newcounter w.flags line.newkey fit.1 new in
          let brought = carried b d target m1 m2 m3 t.open_book t.made_board t.same_uid w in
          record {
            open_book = t.open_book;
            made_board = subst (λ (x : board.Outcome). Sound x.device) (sym left)
                (loaded_sound d t.made_board target line.newcounter w.flags line.newkey fit.1 new fit.0 brought.counter_fits);
            same_uid = t.same_uid ∙ sym (ap (λ (x : board.Outcome). x.device.uid) left ∙ ap (λ (x : Device). x.uid) one.all_else_stays);
            slots = λ s fits. here_or_not s fits success (eqb s target) refl;
          }
        where
          here_or_not : (s : ℕ) → s ≤ 13 → (machine d (load_key m1 m2 m3 b4 b5)).answer ≡ no_error → (x : Bool) → eqb s target ≡ x
              → Level b (machine d (load_key m1 m2 m3 b4 b5)).device s ⊎ Ahead b (machine d (load_key m1 m2 m3 b4 b5)).device s
          here_or_not s fits success true e =
              inr (subst (Ahead b (machine d (load_key m1 m2 m3 b4 b5)).device) (sym (eqb-true s target e))
              (is_ahead b d target m1 m2 m3 t.open_book t.made_board t.same_uid w machine first third b4 b5 success))
          here_or_not s fits success false e =
              let other = eqb-false s target e in
              let line = line_at b target in
              let fit = slots b d target m1 m2 m3 t.open_book t.made_board t.same_uid w in
              let new = block b d target m1 m2 m3 t.open_book t.made_board t.same_uid w in
              let left = took b d target m1 m2 m3 t.open_book t.made_board t.same_uid w machine first third b4 b5 success in
              let one = puts_one d t.made_board target line.newcounter w.flags line.newkey fit.1 new in
              let same = ap (λ (x : board.Outcome). slot_at x.device s) left ∙ one.others_stay s other in
              slot_after b d (machine d (load_key m1 m2 m3 b4 b5)).device s t.made_board fits (same_slot same) (t.slots s fits)

  -- ---- where they are in step, they agree on what the book writes
  ram_counters : (b : Book) (d : Device) → InUse b → Sound d → (line_at b 14).counter ≡ counter_at d 14
  unfolding slot_fine
  ram_counters b d in_use sound =
      let none = sym (counter_14 14 max_counter (omega arith)) in
      let ours = ((open_book b in_use.1).lines 14 (omega arith)).counted in
      let all = (facts d sound.1).fits.slots 14 (omega arith) in
      let three = (both (is_mark (empty_at d 14) && leb (counter_at d 14) (counter_kept 14 max_counter) && eqb (kept 14 (flags_at d 14)) (flags_at d 14)) _ all).0 in
      let two = (both (is_mark (empty_at d 14) && leb (counter_at d 14) (counter_kept 14 max_counter)) _ three).0 in
      let theirs = leb-true (counter_at d 14) (counter_kept 14 max_counter) (both (is_mark (empty_at d 14)) _ two).1 in
      omega (arith, none, ours, theirs)

  agrees : (o : Order) (b : Book) (d : Device) → InStep b d → (written o b).answer ≡ no_error → Agree b d o.target o.authority
  agrees o b d t well = record {
    same_uid = t.same_uid;
    same_key = record {
      both_hold = (t.slots o.authority fits.2).same_key;
      both_without = λ h. (t.slots o.authority fits.2).none_unknown (itself h) h;
    };
    same_counter = tests (eqb o.target 14) refl;
  }
    where
      pair : Pair b o.target o.authority
      pair = (was_written b o.key o.b1 o.b2 o.b3 o.target o.authority o.flags well).0.pair

      fits : (1 ≤ o.target) × (o.target ≤ 14) × (o.authority ≤ 13)
      fits = pair_slots o.target o.authority pair.allows

      itself : is_held b o.authority ≡ false → allowed o.authority o.authority ≡ true
      itself h = ap (λ (s : ℕ). allowed s o.authority) (pair.by_key h) ∙ pair.allows

      tests : (x : Bool) → eqb o.target 14 ≡ x → (line_at b o.target).counter ≡ counter_at d o.target
      tests true e =
          let is = eqb-true o.target 14 e in
          subst (λ (s : ℕ). (line_at b s).counter ≡ counter_at d s) (sym is) (ram_counters b d t.open_book t.made_board)
      tests false e = (t.slots o.target (omega (arith, fits.1, eqb-false o.target 14 e))).same_counter

  -- ---- a day
  event_keeps : (event : Event) (b : Book) (d : Device) → OnTheWay b d → MayHappen machine event (b, d) → Both (happens machine event (b, d))
  event_keeps (write o) b d t may = writes o b d t may
  event_keeps (deliver target m1 m2 m3 b4 b5) b d t may = delivers b d target m1 m2 m3 b4 b5 t may
  event_keeps (judge target m4 m5) b d t may = judges b d target m4 m5 t may
  event_keeps (call c) b d t may = board_call d c t.made_board may.0 b t may.1

  day_keeps : (events : List Event) (s : Book × Device) → Both s → Fair machine events s → Both (day machine events s)
  day_keeps [] s t fair = t
  day_keeps (event ∷ events) s t fair = day_keeps events (happens machine event s) (event_keeps event s.0 s.1 t fair.0) fair.1

  pub days : Day machine
  unfolding next_counter
  days = record {
    stays_on_the_way = λ events b d t fair. day_keeps events (b, d) t fair;
    in_step_again = λ b d t none. record {
      open_book = t.open_book;
      made_board = t.made_board;
      same_uid = t.same_uid;
      slots = λ s fits. ⊎_elim (λ l. l) (λ a. absurd (none s fits a)) (t.slots s fits);
    };
    in_step_agrees = agrees;
    may_deliver = λ o b d in_use small k well. may_deliver o b in_use well d small k;
    proof_keeps = λ b c d target m1 m2 m3 b4 b5 in_use sound same_uid w success open-c uid-c line-c. (
      is_ahead b d target m1 m2 m3 in_use sound same_uid w machine first third b4 b5 success,
      ap (λ (x : book.Outcome). x.verdict)
          (yes b d target m1 m2 m3 in_use sound same_uid w machine first third b4 b5 success c open-c uid-c line-c),
    );
    lost_changes_nothing = λ o b in_use.
        ap (λ (l : Settled). counter_kept o.target (l.2 + 1))
        (over_time.only_by_yes b (book-write o.target o.authority o.flags o.key o.b1 o.b2 o.b3 ∷ []) o.target in_use refl);
  }
