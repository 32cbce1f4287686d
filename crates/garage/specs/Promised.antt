-- What the foreman can rely on, of his book alone: opening, one call, and any calls one after another.
-- Assumes nothing.
use Rattle.std.specs.Prelude.{◌≡◌, false, List, [], ◌∷◌, ◌↔◌, ℕ, ◌≤◌, ◌<◌, length, get_or}
use Rattle.laws.specs.Among.{Among}
use Rattle.aes.specs.State.{byte}
use Rattle.basics.specs.Answers.{no_error, key_invalid, key_empty, key_update_error, general_error}
use Rattle.basics.specs.Bytes.{zero_uid}
use Rattle.basics.specs.Marks.{off, on}
use Rattle.message.specs.FirstBlock.{max_counter}
use Rattle.garage.specs.Book.{line_at}
use Rattle.garage.specs.Calls.{writing, judging, verdict_yes, verdict_no}
use Rattle.garage.specs.Open.{is_open, InUse, blank, new_book, opening}
use Rattle.garage.specs.Outcome.{refused, done}
use Rattle.garage.specs.Rules.{next_counter}
use Rattle.garage.specs.Runs.{Call, lent, step, run, after, wrote, said_yes, count}
use Rattle.garage.specs.declared.Book.{Book}
use Rattle.garage.specs.declared.Line.{Line}

-- ---- opening: with right lengths, a UID that isn't zero, marks that are on or off and counters of 28 bits, and then only, there is a
-- book, open, in which nothing waits; otherwise 12 and the blank one
abbrev pub CanOpen : (uid keys held counters : List ℕ) → Type 0
CanOpen uid keys held counters =
    (length uid ≡ 15) × (length keys ≡ 240) × (length held ≡ 15) × (length counters ≡ 13) × (uid ≡ zero_uid → ⊥)
    × ((i : ℕ) → i < 15 → byte held i ≤ on) × ((i : ℕ) → i < 13 → get_or counters i 0 ≤ max_counter)

pub record Opens : Type 0 where
  pub exactly_when : (uid keys held counters : List ℕ)
      → ((opening uid keys held counters).answer ≡ no_error) ↔ CanOpen uid keys held counters
  pub opens : (uid keys held counters : List ℕ) → (opening uid keys held counters).answer ≡ no_error
      → (opening uid keys held counters ≡ done (new_book uid keys held counters) 0 []) × InUse (new_book uid keys held counters)
  pub nothing_waits : (uid keys held counters : List ℕ) (slot : ℕ) → (line_at (new_book uid keys held counters) slot).waits ≡ off
  pub blank_otherwise : (uid keys held counters : List ℕ) → ((opening uid keys held counters).answer ≡ no_error → ⊥)
      → opening uid keys held counters ≡ refused general_error blank []
  pub blank_is_not_open : is_open blank ≡ false

-- ---- one call, on any book
pub record EachCall : Type 0 where
  pub from_the_table : (b : Book) (call : Call)
      → Among (step b call).answer (no_error ∷ key_invalid ∷ key_empty ∷ key_update_error ∷ general_error ∷ [])
  pub not_open : (b : Book) (call : Call) → is_open b ≡ false → step b call ≡ refused general_error b (lent call)
  pub refusal_changes_nothing : (b : Book) (call : Call) → ((step b call).answer ≡ no_error → ⊥)
      → step b call ≡ refused (step b call).answer b (lent call)
  pub no_changes_nothing : (b : Book) (target : ℕ) (m4 m5 : List ℕ) → ((judging b target m4 m5).verdict ≡ verdict_yes → ⊥)
      → judging b target m4 m5 ≡ refused (judging b target m4 m5).answer b []

-- ---- what a slot's line has for good, whatever waits: its key, whether it is held, and its counter
abbrev pub settled_line : Line → List ℕ × ℕ × ℕ
settled_line line = (line.key, line.held, line.counter)

-- ---- over any sequence of calls
pub record OverTime : Type 0 where
  pub stays_open : (b : Book) (calls : List Call) → InUse b → InUse (after b (run b calls))
  pub uid_stays : (b : Book) (calls : List Call) → (after b (run b calls)).uid ≡ b.uid
  pub no_counter_falls : (b : Book) (calls : List Call) (slot : ℕ) → InUse b
      → (line_at b slot).counter ≤ (line_at (after b (run b calls)) slot).counter
  -- key and counter change only by a yes for their slot
  pub only_by_yes : (b : Book) (calls : List Call) (slot : ℕ) → InUse b → count (said_yes slot) (run b calls) ≡ 0
      → settled_line (line_at (after b (run b calls)) slot) ≡ settled_line (line_at b slot)
  -- to what was written last for it: after a message was written for a slot, and calls that neither write for it nor judge it
  -- with a yes, a yes puts that message's key and counter into the book
  pub to_the_last_written : (b : Book) (target authority flags : ℕ) (key b1 b2 b3 m4 m5 : List ℕ) (calls : List Call) → InUse b
      → let written = writing b target authority flags key b1 b2 b3 in
      let day = run written.book calls in
      let judged = judging (after written.book day) target m4 m5 in
      written.answer ≡ no_error → count (wrote target) day ≡ 0 → count (said_yes target) day ≡ 0 → judged.verdict ≡ verdict_yes
      → settled_line (line_at judged.book target) ≡ (key, on, next_counter b target)
  -- after a yes, until a new message is written for the slot, every proof gets a no
  pub once : (b : Book) (target : ℕ) (m4 m5 m4' m5' : List ℕ) (calls : List Call) → InUse b
      → let judged = judging b target m4 m5 in
      let day = run judged.book calls in
      judged.verdict ≡ verdict_yes → count (wrote target) day ≡ 0
      → (judging (after judged.book day) target m4' m5').verdict ≡ verdict_no
