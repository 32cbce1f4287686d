-- A message that waits: if the board takes it, the board is ahead, and the proof gets a yes. And a round: what the book writes
-- waits so, and loads where book and board agree.
-- Assumes nothing.
use mathlib.Core.Path.{◌≡◌, refl, sym, ap, ◌∙◌, subst}
use mathlib.Core.Bool.{Bool, true, false, cond, ◌||◌, false≢true}
use mathlib.Core.List.{List, [], ◌∷◌}
use Prim.Native.Nat.{ℕ, ◌+◌, ◌≤◌}
use native.Mathlib.Omega.{arith}
use borrow.Author.Tests.{eqb-false, leb-true, leb-false, lt-ltb}
use lib.Dec.{eqb, leb, ltb}
use lib.ListN.{length, get_or, get_or-eq_default}
use Rattle.laws.specs.Lengths.{right_lengths}
use Rattle.laws.specs.Ranges.{within, row_of}
use Rattle.laws.proofs.Ranges.{inside}
use Rattle.laws.proofs.Same.{same_equal}
use Rattle.aes.specs.State.{Bytes, Block}
use Rattle.basics.specs.Answers.{no_error}
use Rattle.basics.specs.Marks.{is_on}
use Rattle.basics.proofs.Bytes.{block_long}
use Rattle.message.specs.Building.{Carried}
use Rattle.message.specs.Flags as flag
use Rattle.message.specs.Flags.{flag_count}
use Rattle.message.specs.Messages.{empty_key, m4, m5, Sent, sent, build}
use Rattle.message.specs.Slots.{counter_kept}
use Rattle.message.proofs.Building.{m4_long, m5_long}
use Rattle.message.proofs.Slots.{pair_slots, counter_1_13}
use Rattle.garage.specs.Book.{line_at, is_held, Shaped}
use Rattle.garage.specs.Calls.{judge_answer, is_proof, waiting_line, taken_line, taken, judging, verdict_yes}
use Rattle.garage.specs.Open.{InUse}
use Rattle.garage.specs.Outcome as book
use Rattle.garage.specs.Rules.{next_counter, secret_of}
use Rattle.garage.specs.Runs.{Call, write}
use Rattle.garage.specs.declared.Book.{Book}
use Rattle.garage.specs.declared.Line.{Line}
use Rattle.garage.proofs.Called.{write_long, Writable, was_written, judge_long, says_yes}
use Rattle.garage.proofs.Opened.{Pair, open_book}
use Rattle.garage.proofs.Promised.{written_waits, yes_takes, over_time}
use Rattle.device.specs.Made.{Sound}
use Rattle.device.specs.Outcome as board
use Rattle.device.specs.Record.{is_empty, key_at, counter_at, flags_at, slot_at}
use Rattle.device.specs.Rules.{has_flag, locked}
use Rattle.device.specs.declared.Device.{Device}
use Rattle.device.specs.declared.Slot.{Slot}
use Rattle.load.specs.Load.{key_loaded}
use Rattle.load.specs.Rules.{authority_key, is_for_us, counter_rises, as_kept}
use Rattle.demands.specs.Calls.{Machine, load_key}
use Rattle.demands.specs.Demand1.{Demand1}
use Rattle.demands.specs.Demand3.{Rules, Demand3}
use Rattle.demands.proofs.Lives.{built_loads}
use Rattle.demands.proofs.Third.{puts_one}
use Rattle.rounds.specs.InStep.{SameKey, Agree, Ahead}
use Rattle.rounds.specs.Rounds.{Order, written, delivered, judged, BothHold, Round, Waiting}
use Rattle.rounds.proofs.Taken.{built_taken}

-- ---- the secret is the same, or what an empty slot counts as
same_secret : (b : Book) (d : Device) (a : ℕ) → SameKey b d a → secret_of b a ≡ authority_key d a
unfolding secret_of authority_key
same_secret b d a k = tests (is_held b a) refl
  where
    tests : (t : Bool) → is_held b a ≡ t → cond t (line_at b a).key empty_key ≡ cond (is_empty d a) empty_key (key_at d a)
    tests true e = let both = k.both_hold e in both.1 ∙ ap (λ (x : Bool). cond x empty_key (key_at d a)) (sym both.0)
    tests false e = ap (λ (x : Bool). cond x empty_key (key_at d a)) (sym (k.both_without e))

-- ---- the counter of a message is as its slot keeps it
kept_once : (slot c : ℕ) → counter_kept slot (counter_kept slot c) ≡ counter_kept slot c
unfolding counter_kept row_of
kept_once slot c = tests (within 1 13 slot)
  where
    tests : (t : Bool) → cond t (cond t c 0) 0 ≡ cond t c 0
    tests true = refl
    tests false = refl

next_kept : (b : Book) (t : ℕ) → counter_kept t (next_counter b t) ≡ next_counter b t
unfolding next_counter
next_kept b t = kept_once t _

-- ---- a message waits for a slot that there is
waits_fits : (b : Book) (t : ℕ) → Shaped b → is_on (line_at b t).waits ≡ true → t ≤ 14
waits_fits b t shaped so = tests (leb t 14) refl
  where
    tests : (x : Bool) → leb t 14 ≡ x → t ≤ 14
    tests true e = leb-true t 14 e
    tests false e =
        let none = get_or-eq_default b.waits 0 {n = t} (omega (arith, shaped.all_waits, leb-false t 14 e)) in
        absurd (false≢true (sym (ap is_on none) ∙ so))

-- ---- a message that waits
module _ (b : Book) (d : Device) (t : ℕ) (m1 m2 m3 : List ℕ) (in_use : InUse b) (sound : Sound d) (same_uid : b.uid ≡ d.uid)
    (w : Waiting b d t m1 m2 m3) where
  abbrev line : Line
  line = line_at b t

  fits : t ≤ 14
  fits = waits_fits b t in_use.0 w.waits

  known : Pair b t (line_at b t).authority × ((line_at b t).newcounter ≡ next_counter b t)
  known = ((open_book b in_use.1).lines t fits).waiting w.waits

  pub slots : (1 ≤ t) × (t ≤ 14) × ((line_at b t).authority ≤ 13)
  slots = pair_slots t (line_at b t).authority known.0.allows

  pub block : Block (line_at b t).newkey
  block = record { long = block_long b.newkeys t; small = w.key_bytes }

  pub carried : Carried flag_count (line_at b t).newcounter w.flags (line_at b t).newkey
  carried = record {
    counter_fits = omega (arith, known.1, known.0.counts);
    flags_fit = w.few;
    key_fits = block;
  }

  abbrev made : Sent
  made = build flag_count b.uid t line.authority (authority_key d line.authority) line.newcounter w.flags line.newkey

  module _ (machine : Machine) (first : Demand1 flag_count machine) (third : Demand3 flag_count machine) (b4 b5 : List ℕ)
      (success : (machine d (load_key m1 m2 m3 b4 b5)).answer ≡ no_error) where
    abbrev given : Sent → board.Outcome
    given s = machine d (load_key s.m1 s.m2 s.m3 b4 b5)

    as_made : (given made).answer ≡ no_error
    as_made = ap (λ (s : Sent). (given s).answer) w.built ∙ success

    pub took : machine d (load_key m1 m2 m3 b4 b5)
        ≡ key_loaded d t (line_at b t).authority (line_at b t).newcounter w.flags (line_at b t).newkey
    took =
        sym (ap given w.built)
        ∙ built_taken machine first third d sound b.uid line.newkey t line.authority line.newcounter w.flags
        in_use.0.uid_long carried known.0.allows b4 b5 as_made

    board_slot : slot_at (machine d (load_key m1 m2 m3 b4 b5)).device t ≡ as_kept t line.newcounter w.flags line.newkey
    board_slot =
        ap (λ (x : board.Outcome). slot_at x.device t) took
        ∙ (puts_one d sound t line.newcounter w.flags line.newkey slots.1 block).target_is

    counter_kept_lem : counter_kept t (line_at b t).newcounter ≡ (line_at b t).newcounter
    counter_kept_lem = ap (counter_kept t) known.1 ∙ next_kept b t ∙ sym known.1

    pub is_ahead : Ahead b (machine d (load_key m1 m2 m3 b4 b5)).device t
    is_ahead = record {
      waits = w.waits;
      took = (
        ap (λ (s : Slot). is_on s.empty) board_slot,
        ap (λ (s : Slot). s.key) board_slot,
        ap (λ (s : Slot). s.counter) board_slot ∙ counter_kept_lem,
      );
    }

    abbrev fourth : List ℕ
    fourth = m4 d.uid t line.authority (counter_kept t line.newcounter) line.newkey

    proof : (machine d (load_key m1 m2 m3 b4 b5)).buffers ≡ fourth ∷ m5 line.newkey fourth ∷ []
    proof = ap (λ (x : board.Outcome). x.buffers) took

    -- the proof, given to a book in which the message waits still
    module _ (c : Book) (open-c : InUse c) (uid-c : c.uid ≡ b.uid) (line-c : line_at c t ≡ line_at b t) where
      proves : is_proof c t fourth (m5 (line_at b t).newkey fourth) ≡ true
      unfolding is_proof
      proves =
          let waits = ap (λ (l : Line). is_on l.waits) line-c ∙ w.waits in
          let by = ap (λ (l : Line). l.authority) line-c in
          let count = ap (λ (l : Line). l.newcounter) line-c in
          let new = ap (λ (l : Line). l.newkey) line-c in
          rw (waits, by, count, new, uid-c ∙ same_uid, same_equal fourth fourth refl, same_equal (m5 line.newkey fourth) (m5 line.newkey fourth) refl)
          refl

      answers : judge_answer c (judge_long c fourth (m5 (line_at b t).newkey fourth)) t ≡ 0
      unfolding judge_answer right_lengths
      answers =
          rw (
            open-c.1,
            m4_long d.uid line.newkey t line.authority (counter_kept t line.newcounter) sound.0.uid_long block,
            m5_long line.newkey fourth block,
            inside 1 14 t slots.0 slots.1,
          ) refl

      pub yes : let given = (machine d (load_key m1 m2 m3 b4 b5)).buffers in
          judging c t (get_or given 0 []) (get_or given 1 []) ≡ book.done (taken c t) verdict_yes []
      yes =
          ap (λ (x : List (List ℕ)). judging c t (get_or x 0 []) (get_or x 1 [])) proof
          ∙ sym (says_yes c fourth (m5 line.newkey fourth) t 0 (sym answers) (taken c t) refl proves refl)

-- ---- what was written waits
module _ (o : Order) (b : Book) (in_use : InUse b) (well : (written o b).answer ≡ no_error) where
  abbrev writing_call : Call
  writing_call = write o.target o.authority o.flags o.key o.b1 o.b2 o.b3

  pub ok : Writable b (write_long b o.key o.b1 o.b2 o.b3) o.flags o.target o.authority
  ok = (was_written b o.key o.b1 o.b2 o.b3 o.target o.authority o.flags well).0

  pub waiting : line_at (written o b).book o.target ≡ waiting_line o.authority (next_counter b o.target) o.key (line_at b o.target)
  waiting = written_waits b o.target o.authority o.flags o.key o.b1 o.b2 o.b3 in_use well

  pub noted_in_use : InUse (written o b).book
  noted_in_use = over_time.stays_open b (writing_call ∷ []) in_use

  pub noted_uid : (written o b).book.uid ≡ b.uid
  noted_uid = over_time.uid_stays b (writing_call ∷ [])

  pub may_deliver : (d : Device) → Bytes o.key → SameKey b d o.authority
      → let messages = (written o b).buffers in
      Waiting (written o b).book d o.target (get_or messages 0 []) (get_or messages 1 []) (get_or messages 2 [])
  may_deliver d small k =
      let by = ap (λ (l : Line). l.authority) waiting in
      let count = ap (λ (l : Line). l.newcounter) waiting in
      let new = ap (λ (l : Line). l.newkey) waiting in
      let left = (was_written b o.key o.b1 o.b2 o.b3 o.target o.authority o.flags well).1 in
      record {
        flags = o.flags;
        few = ok.few;
        waits = ap (λ (l : Line). is_on l.waits) waiting;
        key_bytes = subst Bytes (sym new) small;
        built =
            rw (noted_uid, by, count, new, sym (same_secret b d o.authority k))
            (sym (ap (λ (x : book.Outcome). sent (get_or x.buffers 0 []) (get_or x.buffers 1 []) (get_or x.buffers 2 [])) left));
      }

-- ---- a round
module _ (o : Order) (b : Book) (d : Device) (in_use : InUse b) (sound : Sound d) (small : Bytes o.key)
    (agree : Agree b d o.target o.authority) (well : (written o b).answer ≡ no_error) where
  abbrev messages : List (List ℕ)
  messages = (written o b).buffers

  w : Waiting (written o b).book d o.target (get_or messages 0 []) (get_or messages 1 []) (get_or messages 2 [])
  w = may_deliver o b in_use well d small agree.same_key

  uid_same : (written o b).book.uid ≡ d.uid
  uid_same = noted_uid o b in_use well ∙ agree.same_uid

  pair : (1 ≤ o.target) × (o.target ≤ 14) × (o.authority ≤ 13)
  pair = pair_slots o.target o.authority (ok o b in_use well).pair.allows

  -- the rules that the agreement gives
  present : is_empty d o.authority ≡ true → o.authority ≡ o.target
  present empty = tests (is_held b o.authority) refl
    where
      tests : (held : Bool) → is_held b o.authority ≡ held → o.authority ≡ o.target
      tests true e = absurd (false≢true (sym (agree.same_key.both_hold e).0 ∙ empty))
      tests false e = (ok o b in_use well).pair.by_key e

  for_us : is_for_us d o.target b.uid ≡ true
  unfolding is_for_us
  for_us = rw (same_equal b.uid d.uid agree.same_uid) refl

  rises : counter_rises d o.target (next_counter b o.target) ≡ true
  unfolding counter_rises next_counter
  rises = tests (eqb o.target 14) refl
    where
      tests : (ram : Bool) → eqb o.target 14 ≡ ram → (ram || ltb (counter_at d o.target) (next_counter b o.target)) ≡ true
      tests true e = refl
      tests false e =
          let other = eqb-false o.target 14 e in
          let low : o.target ≤ 13 = omega (arith, pair.1, other) in
          let next = counter_1_13 o.target ((line_at b o.target).counter + 1) pair.0 low in
          lt-ltb (counter_at d o.target) (next_counter b o.target) (omega (arith, next, agree.same_counter))

  loads_so : (machine : Machine) → Demand3 flag_count machine → length o.b4 ≡ 32 → length o.b5 ≡ 16
      → has_flag (flags_at d o.target) flag.write ≡ false → locked d o.authority ≡ false → (delivered machine o b d).answer ≡ no_error
  loads_so machine third h4 h5 writable unlocked =
      let line = line_at (written o b).book o.target in
      let by = ap (λ (l : Line). l.authority) (waiting o b in_use well) in
      let count = ap (λ (l : Line). l.newcounter) (waiting o b in_use well) in
      let so : Rules d (written o b).book.uid o.target line.authority line.newcounter
      = rw (noted_uid o b in_use well, by, count) (record {
        pair = (ok o b in_use well).pair.allows;
        writable = writable;
        present = present;
        unlocked = unlocked;
        for_us = for_us;
        rises = rises;
      }) in
      let noted = noted_in_use o b in_use well in
      let carried-so = carried (written o b).book d o.target _ _ _ noted sound uid_same w in
      sym (ap (λ (s : Sent). (machine d (load_key s.m1 s.m2 s.m3 o.b4 o.b5)).answer) w.built)
      ∙ ap (λ (x : board.Outcome). x.answer) (built_loads flag_count machine third d sound (written o b).book.uid line.newkey o.target
      line.authority line.newcounter w.flags noted.0.uid_long carried-so so o.b4 o.b5 h4 h5)

  module _ (machine : Machine) (first : Demand1 flag_count machine) (third : Demand3 flag_count machine)
      (success : (delivered machine o b d).answer ≡ no_error) where
    noted : InUse (written o b).book
    noted = noted_in_use o b in_use well

    said : judged machine o b d ≡ book.done (taken (written o b).book o.target) verdict_yes []
    said = yes (written o b).book d o.target _ _ _ noted sound uid_same w machine first third o.b4 o.b5 success
        (written o b).book noted refl refl

    ahead : Ahead (written o b).book (delivered machine o b d).device o.target
    ahead = is_ahead (written o b).book d o.target _ _ _ noted sound uid_same w machine first third o.b4 o.b5 success

    book_line : line_at (judged machine o b d).book o.target
        ≡ taken_line (waiting_line o.authority (next_counter b o.target) o.key (line_at b o.target))
    book_line =
        let x = (delivered machine o b d).buffers in
        yes_takes (written o b).book o.target (get_or x 0 []) (get_or x 1 []) noted (ap (λ (y : book.Outcome). y.verdict) said)
        ∙ ap taken_line (waiting o b in_use well)

    both : BothHold (judged machine o b d).book (delivered machine o b d).device o.target o.key (next_counter b o.target)
    both = record {
      in_the_book = (ap (λ (l : Line). l.held) book_line, ap (λ (l : Line). l.key) book_line, ap (λ (l : Line). l.counter) book_line);
      on_the_board = (
        ahead.took.0,
        ahead.took.1 ∙ ap (λ (l : Line). l.newkey) (waiting o b in_use well),
        ahead.took.2 ∙ ap (λ (l : Line). l.newcounter) (waiting o b in_use well),
      );
    }

pub rounds : (machine : Machine) → Demand1 flag_count machine → Demand3 flag_count machine → Round machine
rounds machine first third = record {
  loads = λ o b d in_use sound small agree h4 h5 well writable unlocked.
      loads_so o b d in_use sound small agree well machine third h4 h5 writable unlocked;
  gets_a_yes = λ o b d in_use sound small agree well success.
      let end = said o b d in_use sound small agree well machine first third success in (
        ap (λ (x : book.Outcome). x.answer) end,
        ap (λ (x : book.Outcome). x.verdict) end,
        both o b d in_use sound small agree well machine first third success,
      );
}
