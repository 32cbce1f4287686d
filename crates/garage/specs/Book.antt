-- The foreman's book about one bus: what it holds line by line, a line for each slot, and the same book with a line set anew.
-- Assumes nothing.
use Rattle.std.specs.Prelude.{◌≡◌, Bool, cond, List, ℕ, leb, length, get_or, set}
use Rattle.aes.specs.State.{byte}
use Rattle.basics.specs.Bytes.{block_at, put_block}
use Rattle.basics.specs.Marks.{is_on}
use Rattle.garage.specs.declared.Book.{Book}
use Rattle.garage.specs.declared.Line.{Line}

-- the key, whether it is held, and the last counter; then whether a message waits for its proof, and what is needed of it: its
-- authority, its counter and the new key
abbrev pub line_at : Book → ℕ → Line
line_at b slot =
    record {
      key = block_at b.keys slot;
      held = byte b.held slot;
      counter = get_or b.counters slot 0;
      waits = byte b.waits slot;
      authority = byte b.authorities slot;
      newcounter = get_or b.newcounters slot 0;
      newkey = block_at b.newkeys slot;
    }

abbrev pub is_held : Book → ℕ → Bool
is_held b slot = is_on (line_at b slot).held

abbrev pub with_line : ℕ → Line → Book → Book
with_line slot new b =
    record {
      keys = put_block b.keys slot new.key;
      newkeys = put_block b.newkeys slot new.newkey;
      counters = set b.counters slot new.counter;
      newcounters = set b.newcounters slot new.newcounter;
      held = set b.held slot new.held;
      waits = set b.waits slot new.waits;
      authorities = set b.authorities slot new.authority;
      uid = b.uid;
      marks = b.marks;
    }

-- a number that is no slot changes nothing
unfoldable pub put_line : ℕ → Line → Book → Book
put_line slot new b = cond (leb slot 14) (with_line slot new b) b

-- ---- what the record's type says of it, for theorems: how many numbers there are
pub record Shape (keys newkeys counters newcounters held waits authorities uid : List ℕ) : Type 0 where
  pub all_keys : length keys ≡ 240
  pub all_newkeys : length newkeys ≡ 240
  pub all_counters : length counters ≡ 15
  pub all_newcounters : length newcounters ≡ 15
  pub all_held : length held ≡ 15
  pub all_waits : length waits ≡ 15
  pub all_authorities : length authorities ≡ 15
  pub uid_long : length uid ≡ 15

abbrev pub Shaped : Book → Type 0
Shaped b = Shape b.keys b.newkeys b.counters b.newcounters b.held b.waits b.authorities b.uid
