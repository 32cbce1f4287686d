-- What must succeed: a message that the writer writes loads where the paper's rules allow it, an exported key loads again, and the
-- status is given.
-- Assumes nothing.
use Rattle.std.specs.Prelude.{◌≡◌, true, List, [], ◌∷◌, ℕ, length}
use Rattle.aes.specs.State.{Bytes}
use Rattle.basics.specs.Answers.{no_error}
use Rattle.basics.specs.Marks.{off}
use Rattle.message.specs.Flags.{flag_count}
use Rattle.message.specs.Writer.{full_form, proof_form}
use Rattle.device.specs.Made.{made, Sound}
use Rattle.device.specs.Outcome.{done}
use Rattle.device.specs.Record.{ram_key, plain_mark, mark_at, key_at, slot_at}
use Rattle.device.specs.Rules.{status}
use Rattle.device.specs.declared.Device.{Device}
use Rattle.load.specs.Load.{key_loaded}
use Rattle.load.specs.Rules.{authority_key, as_kept}
use Rattle.demands.specs.Calls.{Call, Machine, load_key, export_ram_key, get_status}
use Rattle.demands.specs.Demand3.{Rules}
use Rattle.demands.specs.Runs.{run, after, InBytes}

pub record Liveness (machine : Machine) : Type 0 where
  -- what the writer answers 0 for loads, if it was given the authority's key and the rules hold: nothing else is asked
  pub written_loads : (d : Device) (uid key a1 a2 a3 b4 b5 : List ℕ) (target authority counter flags : ℕ) → Sound d → Bytes key
      → length b4 ≡ 32 → length b5 ≡ 16 → Rules d uid target authority counter
      → let written = full_form uid target authority (authority_key d authority) counter flags key a1 a2 a3 in
      written.answer ≡ no_error
      → machine d (load_key written.m1 written.m2 written.m3 b4 b5) ≡ key_loaded d target authority counter flags key
  -- and the M4 and M5 that the sender's side foresees for a device are those that it leaves
  pub proof_foreseen : (d : Device) (key b4 b5 : List ℕ) (target authority counter flags : ℕ)
      → let foreseen = proof_form d.uid target authority counter key b4 b5 in
      foreseen.answer ≡ no_error → (key_loaded d target authority counter flags key).buffers ≡ foreseen.m4 ∷ foreseen.m5 ∷ []
  -- what was exported loads on this device after any calls, resets or others, and gives that key back, not plain
  pub exported_loads : (d : Device) (b1 b2 b3 b4 b5 m1 m2 m3 m4 m5 c4 c5 : List ℕ) (calls : List Call) → Sound d → InBytes flag_count calls
      → length c4 ≡ 32 → length c5 ≡ 16
      → machine d (export_ram_key b1 b2 b3 b4 b5) ≡ done d 0 (m1 ∷ m2 ∷ m3 ∷ m4 ∷ m5 ∷ [])
      → let later = machine (after d (run machine d calls)) (load_key m1 m2 m3 c4 c5) in
      (later.answer ≡ no_error) × (later.buffers ≡ m4 ∷ m5 ∷ [])
      × (slot_at later.device ram_key ≡ as_kept ram_key 0 0 (key_at d ram_key)) × (mark_at later.device plain_mark ≡ off)
  -- on a made device GET_STATUS always succeeds
  pub status_given : (d : Device) → made d ≡ true → machine d get_status ≡ done d (status d) []
