-- What must succeed does: messages that are built under the authority's key load where the rules hold.
-- Assumes nothing.
use mathlib.Core.Path.{◌≡◌, refl, sym, ap, ap₂, ◌∙◌, subst⁻¹}
use mathlib.Core.Bool.{Bool, true, false, cond, ◌&&◌, ◌||◌, and-false, false≢true}
use mathlib.Core.List.{List, [], ◌∷◌}
use Prim.Native.Nat.{ℕ, ◌≤◌, ◌<◌}
use native.Mathlib.Omega.{arith}
use lib.Pow.{pow_pos}
use lib.ListN.{length, get_or, replicate}
use lib.Seq.{get_or-set_same}
use Rattle.laws.specs.Lengths.{right_lengths}
use Rattle.laws.specs.Ranges.{row_of}
use Rattle.laws.proofs.Lengths.{each_right}
use Rattle.laws.proofs.Same.{same_equal}
use Rattle.aes.specs.State.{Bytes, Block}
use Rattle.basics.specs.Answers.{no_error}
use Rattle.basics.specs.Marks.{off}
use Rattle.message.specs.Building.{uid_of, target_of, authority_of, Carried}
use Rattle.message.specs.Flags.{flag_count, write, boot, debugger}
use Rattle.message.specs.Messages.{m1, m4, m5, Sent, build}
use Rattle.message.specs.Slots.{counter_kept}
use Rattle.message.specs.Writer.{Messages, full_form, proof_form}
use Rattle.message.proofs.Building.{m1_long, uid_of_m1, target_of_m1, authority_of_m1, m2_text, m3_block}
use Rattle.message.proofs.Slots.{kept_0, kept_14, pair_slots}
use Rattle.message.proofs.Written.{no_faults, is_written}
use Rattle.device.specs.Made.{made as counts-as-made, Sound}
use Rattle.device.specs.Outcome.{Outcome, done}
use Rattle.device.specs.Account.{success}
use Rattle.device.specs.Record.{secret_key, ram_key, plain_mark, debugger_mark, mark_at, is_marked, key_at, flags_at, slot_at}
use Rattle.device.specs.Rules.{has_flag, boot_failed, locked, status}
use Rattle.device.proofs.Account.{then_own}
use Rattle.device.proofs.Made.{Made, facts, secret_present, flagless}
use Rattle.device.proofs.Record.{key_block}
use Rattle.device.specs.declared.Device.{Device}
use Rattle.device.specs.declared.Slot.{Slot}
use Rattle.commands.specs.Commands as commands
use Rattle.load.specs.Export as exporting
use Rattle.load.specs.Export.{exported}
use Rattle.load.specs.Load.{five_lengths, key_loaded}
use Rattle.load.specs.Rules.{authority_key, is_for_us, plain_after, counter_rises, as_kept}
use Rattle.load.proofs.Exporting.{ram_by_secret}
use Rattle.load.proofs.Effects.{authority_block}
use Rattle.demands.specs.Calls.{Call, load_key, export_ram_key, get_status, account, Machine, step}
use Rattle.demands.specs.Demand3.{Rules, Loads, Demand3}
use Rattle.demands.specs.Liveness.{Liveness}
use Rattle.demands.specs.Runs.{run, after, InBytes}
use Rattle.demands.proofs.Runs.{runs, demand_3}
use Rattle.demands.proofs.Steps.{answer_found, step_done}
use Rattle.demands.proofs.Third.{puts_one}

-- ---- built messages load, on any machine that meets the third demand
module _ (n : ℕ) (machine : Machine) (demand : Demand3 n machine) (d : Device) (sound : Sound d) (uid key : List ℕ) (t a c f : ℕ)
    (long : length uid ≡ 15) (carried : Carried n c f key) (rules : Rules d uid t a c) where
  abbrev made : Sent
  made = build n uid t a (authority_key d a) c f key

  fits : a < 16
  fits = omega (arith, (pair_slots t a rules.pair).2)

  named : (uid_of (m1 uid t a) ≡ uid) × (target_of (m1 uid t a) ≡ t) × (authority_of (m1 uid t a) ≡ a)
  named = (uid_of_m1 uid t a long fits, target_of_m1 uid t a long fits, authority_of_m1 uid t a long fits)

  loads_so : Loads n d made.m1 made.m2 made.m3 c f key
  loads_so = record {
    carried = carried;
    built = rw (named.0, named.1, named.2) refl;
    rules = subst⁻¹ (λ (u : List ℕ). Rules d u (target_of (m1 uid t a)) (authority_of (m1 uid t a)) c) named.0
        (subst⁻¹ (λ (x : ℕ). Rules d uid x (authority_of (m1 uid t a)) c) named.1
        (subst⁻¹ (λ (x : ℕ). Rules d uid t x c) named.2 rules));
  }

  pub built_loads : (b4 b5 : List ℕ) → length b4 ≡ 32 → length b5 ≡ 16
      → machine d (load_key made.m1 made.m2 made.m3 b4 b5) ≡ key_loaded d t a c f key
  unfolding right_lengths
  built_loads b4 b5 h4 h5 =
      let block = authority_block d a sound.0 in
      let second = m2_text (authority_key d a) block n c f key carried.key_fits in
      let long : right_lengths (five_lengths (length made.m1) (length made.m2) (length made.m3) (length b4) (length b5)) ≡ true
      = rw (m1_long uid t a long, second.long, (m3_block (authority_key d a) block made.m1 made.m2).long, h4, h5) refl in
      (demand.loading d made.m1 made.m2 made.m3 b4 b5 sound second.small long).leaves c f key loads_so
      ∙ ap₂ (λ (x y : ℕ). key_loaded d x y c f key) named.1 named.2

-- ---- what the writer writes: where it answers 0, what is built
module _ (d : Device) (sound : Sound d) (uid key a1 a2 a3 : List ℕ) (t a c f : ℕ) (small : Bytes key) (rules : Rules d uid t a c) where
  abbrev sheet : Messages
  sheet = full_form uid t a (authority_key d a) c f key a1 a2 a3

  writer_loads : (b4 b5 : List ℕ) → length b4 ≡ 32 → length b5 ≡ 16 → sheet.answer ≡ no_error
      → step flag_count d (load_key sheet.m1 sheet.m2 sheet.m3 b4 b5) ≡ key_loaded d t a c f key
  unfolding full_form
  writer_loads b4 b5 h4 h5 zero =
      let facts = no_faults _ c f t a zero in
      let long = each_right _ facts.0 in
      let carried : Carried flag_count c f key
      = record { counter_fits = facts.1; flags_fit = facts.2; key_fits = record { long = long 2; small = small } } in
      let good : Sent = build flag_count uid t a (authority_key d a) c f key in
      let call : List ℕ → List ℕ → List ℕ → Outcome = λ x y z. step flag_count d (load_key x y z b4 b5) in
      ap (λ (x : List ℕ). call x sheet.m2 sheet.m3) (sym (is_written sheet.answer good.m1 a1 zero))
      ∙ ap (λ (y : List ℕ). call good.m1 y sheet.m3) (sym (is_written sheet.answer good.m2 a2 zero))
      ∙ ap (λ (z : List ℕ). call good.m1 good.m2 z) (sym (is_written sheet.answer good.m3 a3 zero))
      ∙ built_loads flag_count (step flag_count) (demand_3 flag_count (omega arith)) d sound uid key t a c f
      (long 0) carried rules b4 b5 h4 h5

foreseen : (d : Device) (key b4 b5 : List ℕ) (t a c f : ℕ) → (proof_form d.uid t a c key b4 b5).answer ≡ no_error
    → (key_loaded d t a c f key).buffers ≡ (proof_form d.uid t a c key b4 b5).m4 ∷ (proof_form d.uid t a c key b4 b5).m5 ∷ []
unfolding proof_form
foreseen d key b4 b5 t a c f zero =
    let fourth : List ℕ = m4 d.uid t a (counter_kept t c) key in
    ap₂ (λ (x y : List ℕ). x ∷ y ∷ []) (is_written _ fourth b4 zero) (is_written _ (m5 key fourth) b5 zero)

-- ---- SECRET_KEY has no flags, so is never locked, and RAM_KEY never has WRITE
module _ (d : Device) (m : Made d) where
  secret_unlocked : locked d secret_key ≡ false
  unfolding locked
  secret_unlocked =
      ap (λ (flags : ℕ). is_marked d debugger_mark && has_flag flags debugger || boot_failed d && has_flag flags boot)
      (flagless d m secret_key (omega arith) (sym (kept_0 secret_key (omega arith))))
      ∙ ap₂ (λ (x y : Bool). x || y) (and-false (is_marked d debugger_mark)) (and-false (boot_failed d))

  ram_writable : has_flag (flags_at d ram_key) write ≡ false
  ram_writable = ap (λ (flags : ℕ). has_flag flags write) (flagless d m ram_key (omega arith) (sym (kept_14 ram_key (omega arith))))

  own_secret : authority_key d secret_key ≡ key_at d secret_key
  unfolding authority_key
  own_secret = ap (λ (b : Bool). cond b (replicate 16 0xff) (key_at d secret_key)) (secret_present d m)

-- ---- what was exported, on the device that later calls have left
module _ (n : ℕ) (few : n ≤ 100) (d : Device) (sound : Sound d) (calls : List Call) (bytes : InBytes n calls) where
  abbrev e : Device
  e = after d (run (step n) d calls)

  sound_e : Sound (after d (run (step n) d calls))
  sound_e = (runs n few).stays_made d calls sound bytes

  made_e : Made (after d (run (step n) d calls))
  made_e = facts e sound_e.1

  uid_same : (after d (run (step n) d calls)).uid ≡ d.uid
  uid_same = ((runs n few).identity_stays d calls sound bytes).1

  secret_same : authority_key (after d (run (step n) d calls)) secret_key ≡ key_at d secret_key
  secret_same = own_secret e made_e ∙ ap (λ (x : Slot). x.key) ((runs n few).identity_stays d calls sound bytes).0

  ram_rules : Rules (after d (run (step n) d calls)) d.uid ram_key secret_key 0
  unfolding is_for_us counter_rises
  ram_rules = record {
    pair = ram_by_secret;
    writable = ram_writable e made_e;
    present = λ empty. absurd (false≢true (sym (secret_present e made_e) ∙ empty));
    unlocked = secret_unlocked e made_e;
    for_us = let same = same_equal d.uid e.uid (sym uid_same) in rw same refl;
    rises = refl;
  }

  ram_block : Block (key_at d ram_key)
  ram_block = key_block d ram_key sound.0

  exported_again : (b4 b5 : List ℕ) → length b4 ≡ 32 → length b5 ≡ 16
      → step n e (load_key (exported n d).m1 (exported n d).m2 (exported n d).m3 b4 b5)
      ≡ key_loaded e ram_key secret_key 0 0 (key_at d ram_key)
  exported_again b4 b5 h4 h5 =
      let under : List ℕ → Sent = λ secret. build n d.uid ram_key secret_key secret 0 0 (key_at d ram_key) in
      ap (λ (secret : List ℕ). step n e (load_key (under secret).m1 (under secret).m2 (under secret).m3 b4 b5)) (sym secret_same)
      ∙ built_loads n (step n) (demand_3 n few) e sound_e d.uid (key_at d ram_key) ram_key secret_key 0 0 sound.0.uid_long
      (record { counter_fits = omega arith; flags_fit = pow_pos n; key_fits = ram_block }) ram_rules b4 b5 h4 h5

  -- so whatever an export put out comes back
  module _ (b1 b2 b3 b4 b5 one two three four five c4 c5 : List ℕ) (h4 : length c4 ≡ 32) (h5 : length c5 ≡ 16)
      (out : step n d (export_ram_key b1 b2 b3 b4 b5) ≡ done d 0 (one ∷ two ∷ three ∷ four ∷ five ∷ [])) where
    same_out : done d 0 (one ∷ two ∷ three ∷ four ∷ five ∷ []) ≡ success (account n (export_ram_key b1 b2 b3 b4 b5)) d
    same_out =
        sym out
        ∙ step_done n d (export_ram_key b1 b2 b3 b4 b5) (sym (answer_found n d (export_ram_key b1 b2 b3 b4 b5)) ∙ ap (λ (o : Outcome). o.answer) out)

    part : (k : ℕ) → get_or (one ∷ two ∷ three ∷ four ∷ five ∷ []) k []
        ≡ get_or (success (account n (export_ram_key b1 b2 b3 b4 b5)) d).buffers k []
    part k = ap (λ (o : Outcome). get_or o.buffers k []) same_out

    later : step n e (load_key one two three c4 c5) ≡ key_loaded e ram_key secret_key 0 0 (key_at d ram_key)
    unfolding exporting.export_ram_key
    later =
        let call : List ℕ → List ℕ → List ℕ → Outcome = λ x y z. step n e (load_key x y z c4 c5) in
        ap (λ (x : List ℕ). call x two three) (part 0) ∙ ap (λ (y : List ℕ). call (exported n d).m1 y three) (part 1)
        ∙ ap (λ (z : List ℕ). call (exported n d).m1 (exported n d).m2 z) (part 2) ∙ exported_again c4 c5 h4 h5

    proof : (key_loaded e ram_key secret_key 0 0 (key_at d ram_key)).buffers ≡ four ∷ five ∷ []
    unfolding exporting.export_ram_key counter_kept row_of
    proof =
        ap (λ (u : List ℕ). let fourth = m4 u ram_key secret_key 0 (key_at d ram_key) in fourth ∷ m5 (key_at d ram_key) fourth ∷ []) uid_same
        ∙ ap₂ (λ (x y : List ℕ). x ∷ y ∷ []) (sym (part 3)) (sym (part 4))

    comes_back : ((step n e (load_key one two three c4 c5)).answer ≡ no_error)
        × ((step n e (load_key one two three c4 c5)).buffers ≡ four ∷ five ∷ [])
        × (slot_at (step n e (load_key one two three c4 c5)).device ram_key ≡ as_kept ram_key 0 0 (key_at d ram_key))
        × (mark_at (step n e (load_key one two three c4 c5)).device plain_mark ≡ off)
    unfolding plain_after
    comes_back =
        let put = puts_one e sound_e ram_key 0 0 (key_at d ram_key) (omega arith) ram_block in (
          ap (λ (o : Outcome). o.answer) later,
          ap (λ (o : Outcome). o.buffers) later ∙ proof,
          ap (λ (o : Outcome). slot_at o.device ram_key) later ∙ put.target_is,
          ap (λ (o : Outcome). mark_at o.device plain_mark) later ∙ ap (λ (x : Device). mark_at x plain_mark) put.all_else_stays
              ∙ get_or-set_same e.marks plain_mark off 0 (omega (arith, sound_e.0.all_marks)),
        )

-- ---- the status: no check but the first two
given : (n : ℕ) (d : Device) → counts-as-made d ≡ true → step n d get_status ≡ done d (status d) []
unfolding commands.get_status
given n d is_made = step_done n d get_status (then_own d true [] is_made refl)

pub lives : Liveness (step flag_count)
lives = record {
  written_loads = λ d uid key a1 a2 a3 b4 b5 t a c f sound small h4 h5 rules.
      writer_loads d sound uid key a1 a2 a3 t a c f small rules b4 b5 h4 h5;
  proof_foreseen = foreseen;
  exported_loads = λ d b1 b2 b3 b4 b5 m1 m2 m3 m4 m5 c4 c5 calls sound bytes.
      comes_back flag_count (omega arith) d sound calls bytes b1 b2 b3 b4 b5 m1 m2 m3 m4 m5 c4 c5;
  status_given = given flag_count;
}
