-- LOAD_KEY, over the number n of flags: the order of its checks, and its account for lent buffers of any lengths.
-- Assumes nothing.
use Rattle.std.specs.Prelude.{Bool, not, ◌&&◌, List, [], ◌∷◌, ◌++◌, ℕ, eqb, length}
use Rattle.laws.specs.Lengths.{right_lengths}
use Rattle.basics.specs.Answers.{key_invalid, first_fault, key_empty, key_not_available, key_write_protected, key_update_error}
use Rattle.message.specs.Building.{uid_of, target_of, authority_of}
use Rattle.message.specs.Flags.{write}
use Rattle.message.specs.Messages.{m4, m5}
use Rattle.message.specs.Opening.{Opened, opened}
use Rattle.message.specs.Slots.{allowed, counter_kept}
use Rattle.device.specs.Account.{Account, unchanged}
use Rattle.device.specs.Outcome.{Outcome, done}
use Rattle.device.specs.Record.{is_empty, flags_at}
use Rattle.device.specs.Rules.{has_flag, locked}
use Rattle.device.specs.declared.Device.{Device}
use Rattle.load.specs.Rules.{authority_key, is_for_us, counter_rises, loaded}

-- M1 16 bytes, M2 32, M3 16, M4 32, M5 16
abbrev pub five_lengths : ℕ → ℕ → ℕ → ℕ → ℕ → List (ℕ × ℕ)
five_lengths m1 m2 m3 m4 m5 = (m1, 16) ∷ (m2, 32) ∷ (m3, 16) ∷ (m4, 32) ∷ (m5, 16) ∷ []

-- pair; target WRITE; authority empty and not the target itself; authority locked
abbrev pub pair_checks : Device → ℕ → ℕ → List (Bool × ℕ)
pair_checks d target authority =
    (not (allowed target authority), key_invalid)
    ∷ (has_flag (flags_at d target) write, key_write_protected)
    ∷ (is_empty d authority && not (eqb authority target), key_empty)
    ∷ (locked d authority, key_not_available)
    ∷ []

-- then M3; identity; the filler bits; counter
abbrev pub opened_checks : Device → ℕ → List ℕ → Opened → List (Bool × ℕ)
opened_checks d target uid new =
    (not new.genuine, key_update_error)
    ∷ (not (is_for_us d target uid), key_update_error)
    ∷ (not new.zerofill, key_update_error)
    ∷ (not (counter_rises d target new.counter), key_update_error)
    ∷ []

unfoldable pub opened_answer : Device → ℕ → List ℕ → Opened → ℕ
opened_answer d target uid new = first_fault (opened_checks d target uid new)

-- after not made and the lengths of all five buffers: these four; these four
abbrev pub load_checks : Device → List ℕ → Opened → List (Bool × ℕ)
load_checks d m1 new = pair_checks d (target_of m1) (authority_of m1) ++ opened_checks d (target_of m1) (uid_of m1) new

-- the message as it opens under the key of the authority that M1 names
abbrev pub opened_by : ℕ → Device → List ℕ → List ℕ → List ℕ → Opened
opened_by n d m1 m2 m3 = opened n (authority_key d (authority_of m1)) m1 m2 m3

-- the proof: the device's own UID, the same slots, the counter as it is stored
abbrev pub proof4 : Device → ℕ → ℕ → ℕ → List ℕ → List ℕ
proof4 d target authority counter key = m4 d.uid target authority (counter_kept target counter) key

-- what a device leaves that takes counter, flags and key by an authority: the target's record, M4 and M5
abbrev pub key_loaded : Device → ℕ → ℕ → ℕ → ℕ → List ℕ → Outcome
key_loaded d target authority counter flags key =
    let fourth = proof4 d target authority counter key in
    done (loaded d target counter flags key) 0 (fourth ∷ m5 key fourth ∷ [])

unfoldable pub load_key : ℕ → List ℕ → List ℕ → List ℕ → List ℕ → List ℕ → Account
load_key n m1 m2 m3 before4 before5 = record {
  lent = before4 ∷ before5 ∷ [];
  brought = m1 ∷ m2 ∷ m3 ∷ [];
  lengths = right_lengths (five_lengths (length m1) (length m2) (length m3) (length before4) (length before5));
  uses = authority_of m1 ∷ [];
  loads = target_of m1 ∷ [];
  fills = [];
  checks = λ d. load_checks d m1 (opened_by n d m1 m2 m3);
  refusal = unchanged;
  does = λ d. let new = opened_by n d m1 m2 m3 in
      let out = key_loaded d (target_of m1) (authority_of m1) new.counter new.flags new.key in
      (out.device, out.value, out.buffers);
}
