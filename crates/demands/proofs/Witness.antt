-- The theorems are not vacuous: a made device, loads that succeed, and loads that are refused.
-- Assumes nothing.
use mathlib.Core.Path.{◌≡◌, refl, ap, ◌∙◌}
use mathlib.Core.Bool.{true, false≢true}
use mathlib.Core.List.{List, [], ◌∷◌}
use Prim.Native.Nat.{ℕ}
use native.Mathlib.Omega.{arith}
use lib.ListN.{replicate}
use Rattle.laws.specs.All.{all}
use Rattle.laws.specs.Lengths.{right_lengths}
use Rattle.laws.specs.Ranges.{row_of}
use Rattle.laws.specs.Same.{same}
use Rattle.laws.specs.Tabulate.{tabulate}
use Rattle.aes.specs.State.{Block}
use Rattle.aes.proofs.Bytes.{tested_bytes}
use Rattle.basics.specs.Answers.{key_invalid, key_update_error}
use Rattle.basics.specs.Bytes.{block_at, put_block}
use Rattle.basics.specs.Marks.{on}
use Rattle.modes.specs.Blocks.{Text}
use Rattle.message.specs.Building.{Carried}
use Rattle.message.specs.Messages.{m1}
use Rattle.message.proofs.Building.{m2_text, m3_block, handed_back}
use Rattle.message.specs.Flags.{flag_count, boot}
use Rattle.message.specs.Slots.{has_role, flags_kept, counter_kept, allowed}
use Rattle.message.specs.declared.Role.{Role}
use Rattle.device.specs.Made.{made, slot_fine, slots_fine, marks_fine, Sound}
use Rattle.device.specs.Account.{answer_by, perform}
use Rattle.device.specs.Outcome.{done, refused, by_answer}
use Rattle.device.specs.Record.{master_ecu_key, boot_mac_key, boot_mac, ram_key, secure_boot_mark, key_at, put_slot}
use Rattle.device.specs.Rules.{kept, locked, usage_fits}
use Rattle.device.specs.declared.Slot.{Slot}
use Rattle.device.proofs.Effects.{sets_mark}
use Rattle.device.proofs.Made.{fresh_sound}
use Rattle.commands.specs.Commands.{make_answer, make}
use Rattle.commands.proofs.Effects.{plain_sound}
use Rattle.load.specs.Load as loading
use Rattle.load.specs.Load.{opened_by, key_loaded}
use Rattle.load.specs.Rules.{authority_key, is_for_us, counter_rises, plain_after, loaded}
use Rattle.load.proofs.Effects.{loaded_sound, loaded_there}
use Rattle.demands.specs.Calls.{load_key, Machine, step}
use Rattle.demands.specs.Demand2.{Usable}
use Rattle.demands.specs.Demand3.{Rules, Demand3}
use Rattle.demands.specs.Witness.{uid, secret, seed, master, door, key1, board, keyed, fitted, plain, booting, shut_out, to_master, to_key1, load}
use Rattle.demands.proofs.Lives.{built_loads}
use Rattle.demands.proofs.Steps.{answer_found}

pub master_block : Block master
master_block = record { long = refl; small = tested_bytes master refl }

-- counter 1, no flags, and one of the two keys
carries : (key : List ℕ) → Block key → Carried flag_count 1 0 key
carries key block = record { counter_fits = omega arith; flags_fit = omega arith; key_fits = block }

pub door_block : Block door
door_block = record { long = refl; small = tested_bytes door refl }

pub door_carried : Carried flag_count 1 0 door
door_carried = carries door door_block

-- ---- made
pub board_made : make uid secret seed ≡ done board 0 []
unfolding make make_answer right_lengths same by_answer
board_made = refl

pub board_sound : Sound board
unfolding same
board_sound = fresh_sound uid seed refl secret (record { long = refl; small = tested_bytes secret refl }) refl

-- ---- the master key, by itself, on any machine that meets the third demand
master_rules : Rules board uid master_ecu_key master_ecu_key 1
unfolding allowed row_of put_slot locked is_for_us same counter_rises
master_rules = record { pair = refl; writable = refl; present = λ empty. refl; unlocked = refl; for_us = refl; rises = refl }

pub master_loads : (machine : Machine) → Demand3 flag_count machine
    → machine board (load to_master) ≡ key_loaded board master_ecu_key master_ecu_key 1 0 master
unfolding authority_key put_slot
master_loads machine demand =
    built_loads flag_count machine demand board board_sound uid master master_ecu_key master_ecu_key 1 0 refl
    (carries master master_block) master_rules (replicate 32 0) (replicate 16 0) refl refl

pub keyed_sound : Sound keyed
keyed_sound =
    loaded_sound board board_sound master_ecu_key 1 0 master (omega arith) master_block (omega arith) (omega arith)

-- ---- KEY_1, by the master key
key1_rules : Rules keyed uid key1 master_ecu_key 1
unfolding allowed row_of put_slot locked is_for_us same counter_rises loaded kept flags_kept
key1_rules =
    record { pair = refl; writable = refl; present = λ empty. absurd (false≢true empty); unlocked = refl; for_us = refl; rises = refl }

pub key1_loads : (machine : Machine) → Demand3 flag_count machine → machine keyed (load to_key1) ≡ key_loaded keyed key1 master_ecu_key 1 0 door
unfolding authority_key put_slot put_block loaded block_at tabulate
key1_loads machine demand =
    built_loads flag_count machine demand keyed keyed_sound uid door key1 master_ecu_key 1 0 refl
    door_carried key1_rules (replicate 32 0) (replicate 16 0) refl refl

pub fitted_sound : Sound fitted
fitted_sound =
    loaded_sound keyed keyed_sound key1 1 0 door (omega arith) door_block (omega arith) (omega arith)

-- ---- a pair that is not allowed: the master key by KEY_1. All of it is computed
pub mispaired_refused : step flag_count keyed (load_key (m1 uid master_ecu_key key1) (replicate 32 0) (replicate 16 0)
    (replicate 32 0) (replicate 16 0)) ≡ refused key_invalid keyed (replicate 32 0 ∷ replicate 16 0 ∷ [])
unfolding loading.load_key perform answer_by by_answer right_lengths m1 allowed made slots_fine marks_fine slot_fine same counter_kept kept flags_kept row_of all loaded put_slot put_block block_at tabulate plain_after
mispaired_refused = refl

-- ---- and the same message again
pub key1_m2 : Text 2 to_key1.m2
key1_m2 = m2_text master master_block flag_count 1 0 door door_block

pub key1_m3 : Block to_key1.m3
key1_m3 = m3_block master master_block to_key1.m1 to_key1.m2

opens_again : opened_by flag_count fitted to_key1.m1 to_key1.m2 to_key1.m3
    ≡ record { genuine = true; counter = 1; flags = 0; zerofill = true; key = door }
unfolding m1 authority_key loaded put_slot put_block block_at tabulate
opens_again =
    handed_back flag_count (omega arith) master to_key1.m1 to_key1.m2 to_key1.m3 master_block refl key1_m2 key1_m3.long 1 0 door
    door_carried refl

pub replay_refused : (step flag_count fitted (load to_key1)).answer ≡ key_update_error
unfolding loading.load_key answer_by m1 right_lengths allowed row_of loaded put_slot kept flags_kept counter_kept locked is_for_us same counter_rises
replay_refused = answer_found flag_count fitted (load to_key1) ∙ rw (fitted_sound.1, key1_m2.long, key1_m3.long, opens_again) refl

-- ---- a plain RAM key, which can be used for everything
pub plain_is_sound : Sound plain
plain_is_sound = plain_sound board board_sound master master_block

pub plain_usable : (role : Role) → Usable plain ram_key role
unfolding has_role usage_fits locked row_of put_slot
plain_usable role = record { is_sound = plain_is_sound; has_the_role = refl; holds_key = refl; unlocked = refl; fits = refl }

-- ---- a board that has a BOOT_MAC_KEY and a BOOT_MAC, and one that was shut out
half_booting : Sound (loaded board boot_mac_key 1 0 master)
half_booting = loaded_sound board board_sound boot_mac_key 1 0 master (omega arith) master_block (omega arith) (omega arith)

pub booting_sound : (mac : List ℕ) → Block mac → Sound (booting mac)
booting_sound mac block =
    loaded_sound (loaded board boot_mac_key 1 0 master) half_booting boot_mac 1 0 mac (omega arith) block (omega arith) (omega arith)

pub booting_mac : (mac : List ℕ) → Block mac → key_at (booting mac) boot_mac ≡ mac
booting_mac mac block =
    ap (λ (x : Slot). x.key) (loaded_there (loaded board boot_mac_key 1 0 master) half_booting boot_mac 1 0 mac (omega arith) block)

pub shut_out_sound : Sound shut_out
shut_out_sound =
    let one = loaded_sound board board_sound key1 1 boot door (omega arith) door_block (omega arith) (omega arith) in
    (sets_mark secure_boot_mark on (loaded board key1 1 boot door) one (omega arith) refl (λ z. omega (arith, z)) (λ z. omega (arith, z))
    (λ z. omega (arith, z))).sound
