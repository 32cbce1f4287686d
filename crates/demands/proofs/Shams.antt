-- No sham device meets the demands. There is a load on the board that any machine must take if it meets the third demand, and
-- a slot that any must use: each sham does something else there.
-- Assumes nothing.
use mathlib.Core.Path.{◌≡◌, refl, sym, ap, ap₂, ◌∙◌, subst}
use mathlib.Core.Bool.{true, false, false≢true}
use mathlib.Core.List.{List, [], ◌∷◌}
use mathlib.Core.Logic.{inl}
use Prim.Native.Nat.{ℕ}
use native.Mathlib.Omega.{arith}
use lib.ListN.{replicate}
use Rattle.laws.specs.Lengths.{right_lengths}
use Rattle.laws.specs.Ranges.{row_of}
use Rattle.laws.specs.Same.{same}
use Rattle.laws.specs.Tabulate.{tabulate}
use Rattle.laws.specs.Xor.{◌xor◌}
use Rattle.laws.proofs.Same.{equal_same}
use Rattle.field.specs.Field.{reduce, xtime, mul_bits, mul, square, power, inverse}
use Rattle.field.specs.Sbox.{affine, sbox}
use Rattle.aes.specs.Cipher.{round, rounds, cipher_with, cipher}
use Rattle.aes.specs.Schedule.{power_of_x, next_word, more_words, key_expansion}
use Rattle.aes.specs.Steps.{substitute, sub_bytes, shift_rows, move_rows, matrix, columns, mix_columns, add_round_key}
use Rattle.aes.specs.State.{byte, Block}
use Rattle.aes.proofs.Bytes.{tested_bytes, zero_block_lem}
use Rattle.basics.specs.Answers.{no_error, key_not_available}
use Rattle.basics.specs.Bytes.{block_at, put_block}
use Rattle.modes.specs.Answer.{three_blocks, cmac_lengths}
use Rattle.modes.specs.Blocks.{zero_block}
use Rattle.modes.specs.Cmac.{text_mac}
use Rattle.message.specs.Slots.{has_role, flags_kept, counter_kept}
use Rattle.message.specs.declared.Role.TheVariants.{Cipher}
use Rattle.device.specs.Account.{answer_by}
use Rattle.device.specs.Made.{blank}
use Rattle.device.specs.Rules.{kept, locked, usage_fits}
use Rattle.device.specs.Outcome.{Outcome}
use Rattle.device.specs.Record.{master_ecu_key, boot_mac, ram_key, boot_ok_mark, is_marked, key_at, flags_at, empty_at, put_slot}
use Rattle.device.specs.declared.Device.{Device}
use Rattle.boot.specs.Boot as booting
use Rattle.boot.specs.Boot.{measured, measure, checked}
use Rattle.boot.proofs.Effects.{checked_ok}
use Rattle.commands.specs.Commands as commands
use Rattle.load.specs.Rules.{authority_key, counter_rises, loaded}
use Rattle.message.specs.Flags.{flag_count}
use Rattle.message.specs.Messages.{m1, m4}
use Rattle.message.proofs.Building.{parts_unique}
use Rattle.demands.specs.Calls.{Call, enc_ecb, dec_ecb, verify_mac, load_plain_key, secure_boot, Machine}
use Rattle.demands.specs.Demand1.{Demand1}
use Rattle.demands.specs.Demand2.{first, output, Demand2}
use Rattle.demands.specs.Demand3.{Demand3}
use Rattle.demands.specs.Shams.{RefusesEveryLoad, OneBlockForAll, StoresNothing, ProvesNothing, OnlyTheFirst, MasksSlots, TakesAnyLength, ClearsFirst, Copies, SaysYes, TakesReplays, SaysBootOk, LearnsAnew, ForgetsTheLock}
use Rattle.demands.specs.Witness.{master, door, board, keyed, fitted, plain, booting, shut_out, to_key1, key1, load, text, ciphertext}
use Rattle.demands.proofs.Witness.{master_loads, key1_loads, plain_is_sound, plain_usable, master_block, door_block, door_carried, fitted_sound, board_sound, key1_m2, key1_m3, booting_sound, booting_mac, shut_out_sound}
use Rattle.demands.proofs.First.{making}
use Rattle.demands.proofs.Settled.{third_follows}

text_block : Block text
text_block = record { long = refl; small = tested_bytes text refl }

published_block : cipher master text ≡ ciphertext
unfolding reduce xtime mul_bits mul square power inverse affine sbox ◌xor◌ tabulate substitute sub_bytes shift_rows move_rows matrix columns mix_columns add_round_key power_of_x next_word more_words key_expansion round rounds cipher_with cipher
published_block = refl

plain_key : key_at plain ram_key ≡ master
unfolding put_slot put_block block_at tabulate
plain_key = refl

-- ---- the first demand
module _ (machine : Machine) (demand : Demand1 flag_count machine) where
  pub not_masking : MasksSlots machine → ⊥
  unfolding commands.enc_ecb answer_by three_blocks right_lengths has_role row_of usage_fits locked put_slot
  not_masking sham =
      let out : List ℕ = zero_block in
      let none = demand.no_such_slot plain (enc_ecb 0x1e text out) 0x1e plain_is_sound.1 refl (inl refl) (omega arith) in
      let found = demand.by_the_order plain (enc_ecb ram_key text out) in
      let zero : (machine plain (enc_ecb ram_key text out)).answer ≡ no_error = found ∙ rw plain_is_sound.1 refl in
      omega (arith, sym none ∙ ap (λ (o : Outcome). o.answer) (sham plain 0x1e text out) ∙ zero)

  pub not_any_length : TakesAnyLength machine → ⊥
  unfolding commands.load_plain_key
  not_any_length sham = omega (arith, sym (demand.wrong_length board (load_plain_key []) refl) ∙ sham board [] board_sound.1)

  pub not_clearing_first : ClearsFirst machine → ⊥
  unfolding commands.enc_ecb
  not_clearing_first sham =
      let call : Call = enc_ecb ram_key text text in
      let twelve = demand.not_made blank call making.blank_is_not_made in
      let refusal : (machine blank call).answer ≡ no_error → ⊥ = λ zero. omega (arith, sym twelve ∙ zero) in
      let same = ap output (demand.refusal_changes_nothing blank call refusal) in
      omega (arith, ap (λ (out : List ℕ). byte out 1) (sym same ∙ sham blank ram_key text text refusal))

-- ---- the second
module _ (machine : Machine) (demand : Demand2 flag_count machine) where
  pub not_one_block : OneBlockForAll machine → ⊥
  not_one_block sham =
      let one = demand.ecb_redone plain ram_key text zero_block zero_block (plain_usable Cipher) text_block refl refl in
      let other = demand.ecb_redone plain ram_key zero_block zero_block zero_block (plain_usable Cipher) zero_block_lem refl refl in
      let alike = sham plain ram_key _ _ zero_block (ap (λ (o : Outcome). o.answer) one) (ap (λ (o : Outcome). o.answer) other) in
      omega (arith, ap (λ (x : List ℕ). byte x 1) (sym (ap output one) ∙ alike ∙ ap output other))

  pub not_copying : Copies machine → ⊥
  unfolding commands.enc_ecb
  not_copying sham =
      let x : List ℕ = output (machine plain (dec_ecb ram_key text zero_block)) in
      let done = demand.ecb_redone plain ram_key text zero_block zero_block (plain_usable Cipher) text_block refl refl in
      let zero = ap (λ (o : Outcome). o.answer) done in
      let copied : x ≡ text = sym (sham plain ram_key x zero_block zero) ∙ ap output done in
      let exact = demand.exact plain (enc_ecb ram_key x zero_block) zero in
      let same : text ≡ cipher master text = ap output (sym done ∙ exact) ∙ ap₂ cipher plain_key copied in
      omega (arith, ap (λ (l : List ℕ). byte l 0) (same ∙ published_block))

-- and with the first, which says that there is an answer 0
module _ (machine : Machine) (first : Demand1 flag_count machine) (second : Demand2 flag_count machine) where
  pub not_saying_yes : SaysYes machine → ⊥
  unfolding commands.verify_mac answer_by cmac_lengths has_role row_of usage_fits locked put_slot
  not_saying_yes sham =
      let other : List ℕ = 0x80 ∷ replicate 15 0 in
      let call : List ℕ → Call = λ mac. verify_mac ram_key 0 zero_block mac 0 in
      let zero : (machine plain (call zero_block)).answer ≡ no_error
      = first.by_the_order plain (call zero_block) ∙ rw plain_is_sound.1 refl in
      let zero' : (machine plain (call other)).answer ≡ no_error = first.by_the_order plain (call other) ∙ rw plain_is_sound.1 refl in
      let agree = (second.yes_means plain ram_key 0 zero_block zero_block 0 plain_is_sound zero_block_lem.small zero).0
      (sham plain ram_key 0 zero_block zero_block 0 zero) in
      let agree' = (second.yes_means plain ram_key 0 zero_block other 0 plain_is_sound (tested_bytes other refl) zero').0
      (sham plain ram_key 0 zero_block other 0 zero') in
      omega (arith, sym (agree 0 (omega arith)) ∙ agree' 0 (omega arith))

-- ---- loads
module _ (machine : Machine) (demand : Demand3 flag_count machine) where
  pub not_refusing : RefusesEveryLoad machine → ⊥
  not_refusing sham = sham board _ _ _ _ _ (ap (λ (o : Outcome). o.answer) (master_loads machine demand))

  -- slot 1 of the board is empty, and then it isn't
  board_keyed : board ≡ keyed → ⊥
  unfolding loaded put_slot
  board_keyed e = omega (arith, ap (λ (d : Device). empty_at d master_ecu_key) e)

  keyed_fitted : keyed ≡ fitted → ⊥
  unfolding loaded put_slot
  keyed_fitted e = omega (arith, ap (λ (d : Device). empty_at d key1) e)

  pub not_storing_nothing : StoresNothing machine → ⊥
  not_storing_nothing sham = board_keyed (sym (sham board _ _ _ _ _) ∙ ap (λ (o : Outcome). o.device) (master_loads machine demand))

  -- byte 14 of M4 is the last of the UID
  pub not_proving_nothing : ProvesNothing machine → ⊥
  unfolding m1 m4 loaded put_slot
  not_proving_nothing sham =
      let same = sym (ap (λ (o : Outcome). o.buffers) (master_loads machine demand)) ∙ sham board _ _ _ _ _ in
      omega (arith, ap (λ (buffers : List (List ℕ)). byte (first buffers) 14) same)

  pub not_only_the_first : OnlyTheFirst machine → ⊥
  unfolding loaded put_slot
  not_only_the_first sham = keyed_fitted (sym (sham keyed _ _ _ _ _ refl) ∙ ap (λ (o : Outcome). o.device) (key1_loads machine demand))

  -- the counter of the same message cannot rise twice
  stale : counter_rises fitted key1 1 ≡ false
  unfolding counter_rises loaded put_slot counter_kept row_of
  stale = refl

  pub not_taking_replays : TakesReplays machine → ⊥
  unfolding m1 right_lengths loaded put_slot put_block kept authority_key block_at tabulate
  not_taking_replays sham =
      let once = key1_loads machine demand in
      let again = subst (λ (d : Device). (machine d (load to_key1)).answer ≡ no_error) (ap (λ (o : Outcome). o.device) once)
      (sham keyed _ _ _ _ _ (ap (λ (o : Outcome). o.answer) once) (λ same. omega (arith, same))
      (ap (λ (o : Outcome). flags_at o.device key1) once)) in
      let some = (demand.loading fitted to_key1.m1 to_key1.m2 to_key1.m3 (replicate 32 0) (replicate 16 0) fitted_sound
      key1_m2.small (rw (key1_m2.long, key1_m3.long) refl)).exactly_when.0 again in
      let same = (parts_unique flag_count (omega arith) master to_key1.m1 to_key1.m2 to_key1.m3 master_block refl key1_m2
      key1_m3.long some.0 some.1 1 0 some.2 door some.3.carried door_carried some.3.built refl).0 in
      false≢true (sym stale ∙ subst (λ (c : ℕ). counter_rises fitted key1 c ≡ true) same some.3.rules.rises)

-- and by the first two alone, from which the third follows: M4 and M5 are exactly the paper's
pub not_proving_nothing_by_two : (machine : Machine) → Demand1 flag_count machine → Demand2 flag_count machine → ProvesNothing machine → ⊥
not_proving_nothing_by_two machine one two = not_proving_nothing machine (third_follows flag_count (omega arith) machine one two)

-- ---- the boot check. A bootloader has one MAC, so it cannot be the BOOT_MAC of two boards that differ in that alone
module _ (machine : Machine) (one : Demand1 flag_count machine) (two : Demand2 flag_count machine) where
  boots : (mac : List ℕ) → Block mac → (machine (booting mac) (secure_boot text)).answer ≡ no_error
  unfolding booting.secure_boot answer_by locked loaded put_slot kept flags_kept row_of
  boots mac block = one.by_the_order (booting mac) (secure_boot text) ∙ rw (booting_sound mac block).1 refl

  checks : (mac : List ℕ) (block : Block mac)
      → (machine (booting mac) (secure_boot text)).device ≡ checked (same (measure (booting mac) text) (key_at (booting mac) boot_mac)) (booting mac)
  unfolding booting.secure_boot loaded put_slot
  checks mac block =
      ap (λ (o : Outcome). o.device) (two.exact (booting mac) (secure_boot text) (boots mac block))

  measures : (mac : List ℕ) → measure (booting mac) text ≡ text_mac (cipher master) (measured text)
  unfolding measure loaded put_slot put_block block_at tabulate
  measures mac = refl

  not_both : ((mac : List ℕ) → Block mac → measure (booting mac) text ≡ mac) → ⊥
  not_both each =
      let same = sym (each master master_block) ∙ measures master ∙ sym (measures door) ∙ each door door_block in
      omega (arith, ap (λ (l : List ℕ). byte l 0) same)

  pub not_saying_boot_ok : SaysBootOk machine → ⊥
  unfolding loaded put_slot
  not_saying_boot_ok sham = not_both (λ mac block.
      let agrees = same (measure (booting mac) text) (key_at (booting mac) boot_mac) in
      let ok = sym (ap (λ (d : Device). is_marked d boot_ok_mark) (checks mac block) ∙ checked_ok agrees (booting mac) (booting_sound mac block))
      ∙ sham (booting mac) text refl (boots mac block) in
      equal_same (measure (booting mac) text) (key_at (booting mac) boot_mac) ok ∙ booting_mac mac block)

  pub not_learning_anew : LearnsAnew machine → ⊥
  unfolding checked
  not_learning_anew sham = not_both (λ mac block.
      sym (sham (booting mac) text (boots mac block)) ∙ ap (λ (d : Device). key_at d boot_mac) (checks mac block) ∙ booting_mac mac block)

-- a lock is among the checks
pub not_forgetting_the_lock : (machine : Machine) → Demand1 flag_count machine → ForgetsTheLock machine → ⊥
unfolding commands.enc_ecb answer_by three_blocks right_lengths has_role row_of usage_fits locked loaded put_slot kept flags_kept
not_forgetting_the_lock machine demand sham =
    let found : (machine shut_out (enc_ecb key1 text zero_block)).answer ≡ key_not_available
    = demand.by_the_order shut_out (enc_ecb key1 text zero_block) ∙ rw shut_out_sound.1 refl in
    omega (arith, sym found ∙ sham shut_out key1 text zero_block shut_out_sound.1 refl refl refl refl refl refl)
