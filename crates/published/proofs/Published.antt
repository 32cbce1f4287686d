-- The definitions give the published bytes, by computation; and they load on the board, with the published proof.
-- Assumes nothing.
use mathlib.Core.Path.{◌≡◌, refl, sym, ap, ap₂, ◌∙◌}
use mathlib.Core.List.{List, [], ◌∷◌, ◌++◌, flatten}
use Prim.Native.Nat.{ℕ}
use native.Mathlib.Omega.{arith}
use Rattle.laws.specs.Ranges.{row_of}
use Rattle.laws.specs.Tabulate.{tabulate}
use Rattle.laws.specs.Xor.{◌xor◌}
use Rattle.field.specs.Field.{reduce, xtime, mul_bits, mul, square, power, inverse}
use Rattle.field.specs.Sbox.{affine, sbox}
use Rattle.aes.specs.Cipher.{round, rounds, cipher_with, cipher}
use Rattle.aes.specs.Schedule.{power_of_x, next_word, more_words, key_expansion}
use Rattle.aes.specs.Steps.{substitute, sub_bytes, shift_rows, move_rows, matrix, columns, mix_columns, add_round_key}
use Rattle.modes.specs.Blocks.{◌⊕◌, zero_block, parse, blocks, outputs}
use Rattle.modes.specs.Cbc.{cbc_encrypt}
use Rattle.modes.specs.Cmac.{shift_left, double, last_block, cmac}
use Rattle.modes.specs.Cmac as cmacs
use Rattle.modes.specs.Compression.{compress_from, compress, kdf}
use Rattle.message.specs.FirstBlock.{first_block, proof_block}
use Rattle.message.specs.Flags.{flag_count}
use Rattle.message.specs.Messages.{enc_key, mac_key, Sent, sent, build}
use Rattle.message.specs.Messages as messages
use Rattle.message.specs.Slots.{counter_kept}
use Rattle.device.specs.Outcome.{done}
use Rattle.device.specs.Record.{master_ecu_key, put_slot}
use Rattle.load.specs.Rules.{loaded}
use Rattle.demands.specs.Calls.{step}
use Rattle.demands.specs.Witness.{uid, master, door, key1, keyed, fitted, load}
use Rattle.demands.proofs.Runs.{demand_3}
use Rattle.demands.proofs.Witness.{key1_loads}
use Rattle.published.specs.Published.{k1, k2, k3, k4, m1, m2, m3, m4, m5}

-- ---- derived keys
k1_is : enc_key master ≡ k1
unfolding reduce xtime mul_bits mul square power inverse affine sbox ◌xor◌ tabulate substitute sub_bytes shift_rows move_rows matrix columns mix_columns add_round_key power_of_x next_word more_words key_expansion round rounds cipher_with cipher ◌⊕◌ parse blocks compress_from compress kdf
k1_is = refl

k2_is : mac_key master ≡ k2
unfolding reduce xtime mul_bits mul square power inverse affine sbox ◌xor◌ tabulate substitute sub_bytes shift_rows move_rows matrix columns mix_columns add_round_key power_of_x next_word more_words key_expansion round rounds cipher_with cipher ◌⊕◌ parse blocks compress_from compress kdf
k2_is = refl

k3_is : enc_key door ≡ k3
unfolding reduce xtime mul_bits mul square power inverse affine sbox ◌xor◌ tabulate substitute sub_bytes shift_rows move_rows matrix columns mix_columns add_round_key power_of_x next_word more_words key_expansion round rounds cipher_with cipher ◌⊕◌ parse blocks compress_from compress kdf
k3_is = refl

k4_is : mac_key door ≡ k4
unfolding reduce xtime mul_bits mul square power inverse affine sbox ◌xor◌ tabulate substitute sub_bytes shift_rows move_rows matrix columns mix_columns add_round_key power_of_x next_word more_words key_expansion round rounds cipher_with cipher ◌⊕◌ parse blocks compress_from compress kdf
k4_is = refl

-- ---- under them, M2 and M3, and M4's second half and M5
m2_under : cbc_encrypt (cipher k1) zero_block (first_block flag_count 1 0 ++ door) ≡ m2
unfolding reduce xtime mul_bits mul square power inverse affine sbox ◌xor◌ tabulate substitute sub_bytes shift_rows move_rows matrix columns mix_columns add_round_key power_of_x next_word more_words key_expansion round rounds cipher_with cipher ◌⊕◌ parse blocks flatten outputs cbc_encrypt first_block
m2_under = refl

m3_under : cmac (cipher k2) 384 (m1 ++ m2) ≡ m3
unfolding reduce xtime mul_bits mul square power inverse affine sbox ◌xor◌ tabulate substitute sub_bytes shift_rows move_rows matrix columns mix_columns add_round_key power_of_x next_word more_words key_expansion round rounds cipher_with cipher ◌⊕◌ parse blocks shift_left double cmacs.k1 last_block cmac
m3_under = refl

m4_under : m1 ++ cipher k3 (proof_block 1) ≡ m4
unfolding reduce xtime mul_bits mul square power inverse affine sbox ◌xor◌ tabulate substitute sub_bytes shift_rows move_rows matrix columns mix_columns add_round_key power_of_x next_word more_words key_expansion round rounds cipher_with cipher ◌⊕◌ parse blocks first_block
m4_under = refl

m5_under : cmac (cipher k4) 256 m4 ≡ m5
unfolding reduce xtime mul_bits mul square power inverse affine sbox ◌xor◌ tabulate substitute sub_bytes shift_rows move_rows matrix columns mix_columns add_round_key power_of_x next_word more_words key_expansion round rounds cipher_with cipher ◌⊕◌ parse blocks shift_left double cmacs.k1 last_block cmac
m5_under = refl

-- ---- so these are the messages, and the answer
m1_is : messages.m1 uid key1 master_ecu_key ≡ m1
unfolding messages.m1
m1_is = refl

m2_is : messages.m2 flag_count master 1 0 door ≡ m2
unfolding messages.m2
m2_is = ap (λ (key : List ℕ). cbc_encrypt (cipher key) zero_block (first_block flag_count 1 0 ++ door)) k1_is ∙ m2_under

pub built : build flag_count uid key1 master_ecu_key master 1 0 door ≡ sent m1 m2 m3
unfolding messages.m3
built =
    ap₂ (λ (x y : List ℕ). sent x y (messages.m3 master x y)) m1_is m2_is
    ∙ ap (sent m1 m2) (ap (λ (key : List ℕ). cmac (cipher key) 384 (m1 ++ m2)) k2_is ∙ m3_under)

m4_is : messages.m4 uid key1 master_ecu_key 1 door ≡ m4
unfolding messages.m4
m4_is = ap₂ (λ (x y : List ℕ). x ++ cipher y (proof_block 1)) m1_is k3_is ∙ m4_under

pub answered : messages.m5 door (messages.m4 uid key1 master_ecu_key 1 door) ≡ m5
unfolding messages.m5
answered = ap₂ (λ (key text : List ℕ). cmac (cipher key) 256 text) k4_is m4_is ∙ m5_under

-- ---- the board takes them and answers so
pub published_loads : step flag_count keyed (load (sent m1 m2 m3)) ≡ done fitted 0 (m4 ∷ m5 ∷ [])
unfolding counter_kept row_of loaded put_slot
published_loads =
    ap (λ (message : Sent). step flag_count keyed (load message)) (sym built)
    ∙ key1_loads (step flag_count) (demand_3 flag_count (omega arith))
    ∙ ap₂ (λ (x y : List ℕ). done fitted 0 (x ∷ y ∷ [])) m4_is answered
