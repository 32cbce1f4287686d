-- What book and board do together: a round, in which the book writes a message, the board is given it, and the book judges the
-- proof that comes back; and a day of rounds, in any order over the slots, with all that may lie between.
-- Assumes nothing.
use Rattle.std.specs.Prelude.{◌≡◌, true, false, List, [], ◌∷◌, ◌++◌, ℕ, ◌^◌, ◌≤◌, ◌<◌, length, get_or, replicate}
use Rattle.aes.specs.State.{Bytes}
use Rattle.basics.specs.Answers.{no_error}
use Rattle.basics.specs.Bytes.{zero_uid}
use Rattle.basics.specs.Marks.{off, on, is_on}
use Rattle.message.specs.Flags as flag
use Rattle.message.specs.Flags.{flag_count}
use Rattle.message.specs.Messages.{sent, build}
use Rattle.garage.specs.Book.{line_at}
use Rattle.garage.specs.Calls.{writing, judging, verdict_yes}
use Rattle.garage.specs.Open.{InUse, new_book}
use Rattle.garage.specs.Outcome as book
use Rattle.garage.specs.Rules.{next_counter}
use Rattle.garage.specs.declared.Book.{Book}
use Rattle.device.specs.Account.{BringsBytes}
use Rattle.device.specs.Made.{fresh, Sound}
use Rattle.device.specs.Outcome as board
use Rattle.device.specs.Record.{is_empty, key_at, counter_at, flags_at}
use Rattle.device.specs.Rules.{has_flag, locked}
use Rattle.device.specs.declared.Device.{Device}
use Rattle.load.specs.Rules.{authority_key}
use Rattle.demands.specs.Calls.{Call, Machine, load_key, account}
use Rattle.demands.specs.Runs.{is_load_of}
use Rattle.rounds.specs.InStep.{SameKey, Agree, Ahead, OnTheWay, InStep}

-- ---- a round
-- what is asked of the book, with room for M1 to M3, and for M4 and M5 on the board's side
pub record Order : Type 0 where
  pub target : ℕ
  pub authority : ℕ
  pub flags : ℕ
  pub key : List ℕ
  pub b1 : List ℕ
  pub b2 : List ℕ
  pub b3 : List ℕ
  pub b4 : List ℕ
  pub b5 : List ℕ

abbrev pub written : Order → Book → book.Outcome
written o b = writing b o.target o.authority o.flags o.key o.b1 o.b2 o.b3

-- the board is given what was written
abbrev pub delivered : Machine → Order → Book → Device → board.Outcome
delivered machine o b d =
    let messages = (written o b).buffers in
    machine d (load_key (get_or messages 0 []) (get_or messages 1 []) (get_or messages 2 []) o.b4 o.b5)

-- and the book what the board wrote
abbrev pub judged : Machine → Order → Book → Device → book.Outcome
judged machine o b d =
    let proof = (delivered machine o b d).buffers in
    judging (written o b).book o.target (get_or proof 0 []) (get_or proof 1 [])

-- ---- what a round comes to, for any machine in the place of the board
-- the new key and the counter that was written for it are on both sides
pub record BothHold (b : Book) (d : Device) (slot : ℕ) (key : List ℕ) (counter : ℕ) : Type 0 where
  pub in_the_book : ((line_at b slot).held ≡ on) × ((line_at b slot).key ≡ key) × ((line_at b slot).counter ≡ counter)
  pub on_the_board : (is_empty d slot ≡ false) × (key_at d slot ≡ key) × (counter_at d slot ≡ counter)

pub record Round (machine : Machine) : Type 0 where
  -- where book and board agree, what the book writes loads if the target has no WRITE and the authority isn't locked
  pub loads : (o : Order) (b : Book) (d : Device) → InUse b → Sound d → Bytes o.key → Agree b d o.target o.authority
      → length o.b4 ≡ 32 → length o.b5 ≡ 16 → (written o b).answer ≡ no_error → has_flag (flags_at d o.target) flag.write ≡ false
      → locked d o.authority ≡ false → (delivered machine o b d).answer ≡ no_error
  -- the board's M4 and M5 then get a yes, and both hold the same key and counter for that slot
  pub gets_a_yes : (o : Order) (b : Book) (d : Device) → InUse b → Sound d → Bytes o.key → Agree b d o.target o.authority
      → (written o b).answer ≡ no_error → (delivered machine o b d).answer ≡ no_error
      → ((judged machine o b d).answer ≡ no_error) × ((judged machine o b d).verdict ≡ verdict_yes)
      × BothHold (judged machine o b d).book (delivered machine o b d).device o.target o.key (next_counter b o.target)

-- ---- a message that waits, in the bytes in which it was written, under the key that the board has for its authority
pub record Waiting (b : Book) (d : Device) (target : ℕ) (m1 m2 m3 : List ℕ) : Type 0 where
  pub flags : ℕ
  pub few : flags < 2 ^ flag_count
  pub waits : is_on (line_at b target).waits ≡ true
  pub key_bytes : Bytes (line_at b target).newkey
  pub built : let line = line_at b target in
      build flag_count b.uid target line.authority (authority_key d line.authority) line.newcounter flags line.newkey
      ≡ sent m1 m2 m3

-- ---- a day: messages are written, some of them delivered, and what the board gives for them judged, in any order over the slots; and
-- the board does its work
pub data Event : Type 0 where
  write : Order → Event
  deliver : (target : ℕ) (m1 m2 m3 b4 b5 : List ℕ) → Event
  judge : (target : ℕ) (m4 m5 : List ℕ) → Event
  call : Call → Event

abbrev pub happens : Machine → Event → Book × Device → Book × Device
happens machine (write o) s = ((written o s.0).book, s.1)
happens machine (deliver target m1 m2 m3 b4 b5) s = (s.0, (machine s.1 (load_key m1 m2 m3 b4 b5)).device)
happens machine (judge target m4 m5) s = ((judging s.0 target m4 m5).book, s.1)
happens machine (call c) s = (s.0, (machine s.1 c).device)

abbrev pub day : Machine → List Event → Book × Device → Book × Device
day machine [] s = s
day machine (event ∷ events) s = day machine events (happens machine event s)

-- what may happen. Anything is written, but no message in place of one that the board has taken already, unless its proof was
-- judged; a message that waits is delivered, also twice, or is lost; a yes is given for nothing but what the board has taken; and
-- any call of the board, a reset or another, but one that loads a slot from 1 to 13: be it that it loads none, or that it is
-- refused
abbrev pub MayHappen : Machine → Event → Book × Device → Type 0
MayHappen machine (write o) s = Ahead s.0 s.1 o.target → ⊥
MayHappen machine (deliver target m1 m2 m3 b4 b5) s = Waiting s.0 s.1 target m1 m2 m3
MayHappen machine (judge target m4 m5) s =
    (judging s.0 target m4 m5).verdict ≡ verdict_yes → target ≤ 13 → Ahead s.0 s.1 target
MayHappen machine (call c) s =
    BringsBytes (account flag_count c)
    × ((slot : ℕ) → 1 ≤ slot → slot ≤ 13 → is_load_of flag_count slot (c, machine s.1 c) ≡ false)

abbrev pub Fair : Machine → List Event → Book × Device → Type 0
Fair machine [] s = Unit {0}
Fair machine (event ∷ events) s = MayHappen machine event s × Fair machine events (happens machine event s)

pub record Day (machine : Machine) : Type 0 where
  -- over any such day each slot is level, or the board is ahead and the proof on its way
  pub stays_on_the_way : (events : List Event) (b : Book) (d : Device) → OnTheWay b d → Fair machine events (b, d)
      → OnTheWay (day machine events (b, d)).0 (day machine events (b, d)).1
  -- and when all proofs were judged, book and board are in step
  pub in_step_again : (b : Book) (d : Device) → OnTheWay b d → ((slot : ℕ) → slot ≤ 13 → Ahead b d slot → ⊥) → InStep b d
  -- where they are in step they agree on every message that the book writes: each round is as above
  pub in_step_agrees : (o : Order) (b : Book) (d : Device) → InStep b d → (written o b).answer ≡ no_error
      → Agree b d o.target o.authority
  -- what was just written may be delivered
  pub may_deliver : (o : Order) (b : Book) (d : Device) → InUse b → Bytes o.key → SameKey b d o.authority
      → (written o b).answer ≡ no_error
      → let messages = (written o b).buffers in
      Waiting (written o b).book d o.target (get_or messages 0 []) (get_or messages 1 []) (get_or messages 2 [])
  -- and if the board takes it, it is ahead; the proof gets a yes whenever it is judged, as long as the message waits
  pub proof_keeps : (b c : Book) (d : Device) (target : ℕ) (m1 m2 m3 b4 b5 : List ℕ) → InUse b → Sound d → b.uid ≡ d.uid
      → Waiting b d target m1 m2 m3 → (machine d (load_key m1 m2 m3 b4 b5)).answer ≡ no_error
      → InUse c → c.uid ≡ b.uid → line_at c target ≡ line_at b target
      → let proof = (machine d (load_key m1 m2 m3 b4 b5)).buffers in
      Ahead b (machine d (load_key m1 m2 m3 b4 b5)).device target
      × ((judging c target (get_or proof 0 []) (get_or proof 1 [])).verdict ≡ verdict_yes)
  -- a message that is never delivered changes nothing: the next for that slot has the same counter
  pub lost_changes_nothing : (o : Order) (b : Book) → InUse b → next_counter (written o b).book o.target ≡ next_counter b o.target

-- ---- where such days begin: a new board, and a book that is opened with its UID and SECRET_KEY and nothing else
abbrev pub secret_alone : List ℕ → List ℕ
secret_alone secret = secret ++ replicate 224 0

abbrev pub first_held : List ℕ
first_held = on ∷ replicate 14 off

pub record Begins : Type 0 where
  pub new_ones : (uid secret seed : List ℕ) → length uid ≡ 15 → (uid ≡ zero_uid → ⊥) → length secret ≡ 16 → Bytes secret → length seed ≡ 16
      → InStep (new_book uid (secret_alone secret) first_held (replicate 13 0)) (fresh uid secret seed)
