-- The commands that need no key message, with making, reset and the bench call: the account of each, for any numbers and lent
-- buffers of any lengths.
-- Assumes nothing.
use Rattle.std.specs.Prelude.{Bool, true, not, cond, ◌&&◌, List, [], ◌∷◌, ◌++◌, ℕ, ◌-◌, ◌/◌, ◌%◌, ◌^◌, eqb, leb, length, take}
use mir.Val.{bool_byte}
use Rattle.laws.specs.Lengths.{right_lengths}
use Rattle.laws.specs.Same.{same}
use Rattle.aes.specs.Cipher.{cipher, inv_cipher}
use Rattle.aes.specs.State.{byte}
use Rattle.basics.specs.Answers.{general_error, first_fault, sequence_error, key_not_available, rng_seed}
use Rattle.basics.specs.Bytes.{zero_uid}
use Rattle.basics.specs.Marks.{off, on}
use Rattle.modes.specs.Answer.{three_blocks, cbc_lengths, cmac_lengths}
use Rattle.modes.specs.Blocks.{zero_block}
use Rattle.modes.specs.Cbc.{cbc_encrypt, cbc_decrypt}
use Rattle.modes.specs.Cmac.{cmac}
use Rattle.modes.specs.Compression.{compress, kdf}
use Rattle.modes.specs.Constants.{constant_of}
use Rattle.modes.specs.declared.Constant.TheVariants.{PrngKey, PrngSeedKey, PrngExtension}
use Rattle.message.specs.declared.Role.TheVariants.{Cipher, GenerateMac, VerifyMac}
use Rattle.device.specs.Made.{new_marks, blank, fresh}
use Rattle.device.specs.Account.{Account, unchanged, command}
use Rattle.device.specs.Outcome.{Outcome, refused, done, by_answer}
use Rattle.device.specs.Record.{secret_key, master_ecu_key, ram_key, rng_mark, plain_mark, debugger_mark, is_marked, is_empty, key_at, set_random, set_mark, set_marks, put_slot}
use Rattle.device.specs.Rules.{locked, status}
use Rattle.device.specs.declared.Device.{Device}
use Rattle.commands.specs.Checks.{with_key}

-- ---- making: a UID of 15 bytes, a SECRET_KEY of 16 and a seed of 16. A wrong length or a UID of 15 zero bytes answers 12 with
-- the blank device
unfoldable pub make_answer : List ℕ → ℕ → ℕ → ℕ
make_answer uid secret seed =
    first_fault
    ((not (right_lengths ((length uid, 15) ∷ (secret, 16) ∷ (seed, 16) ∷ [])), general_error)
    ∷ (same uid zero_uid, general_error)
    ∷ [])

unfoldable pub make : List ℕ → List ℕ → List ℕ → Outcome
make uid secret seed =
    let answer = make_answer uid (length secret) (length seed) in
    by_answer answer (done (fresh uid secret seed) 0 []) (refused answer blank [])

-- ---- reset: slot 14 becomes zero, empty, not plain; random state and random key become zero, not initialised; the debugger mark
-- goes off, and all four of the boot check with the mark that it ran. Slots 0 to 13, UID and seed stay. So the marks are those of a
-- new device
abbrev pub after_reset : Device → Device
after_reset d =
    put_slot ram_key (record { key = zero_block; counter = 0; flags = 0; empty = on })
    (set_marks new_marks (set_random d.seed zero_block zero_block d))

unfoldable pub reset : Account
reset = command (record { lent = []; brought = []; lengths = true; checks = λ d. []; does = λ d. (after_reset d, 0, []) })

-- ---- the bench call "debugger attached"
unfoldable pub attach_debugger : Account
attach_debugger =
    command (record { lent = []; brought = []; lengths = true; checks = λ d. []; does = λ d. (set_mark debugger_mark on d, 0, []) })

-- ---- ECB: 16 bytes in and out
unfoldable pub enc_ecb : ℕ → List ℕ → List ℕ → Account
enc_ecb slot input output = with_key slot Cipher (record {
  lent = output ∷ [];
  brought = input ∷ [];
  lengths = three_blocks 16 (length input) (length output);
  gives = λ key. (0, cipher key input ∷ []);
})

unfoldable pub dec_ecb : ℕ → List ℕ → List ℕ → Account
dec_ecb slot input output = with_key slot Cipher (record {
  lent = output ∷ [];
  brought = input ∷ [];
  lengths = three_blocks 16 (length input) (length output);
  gives = λ key. (0, inv_cipher key input ∷ []);
})

-- ---- CBC: 1 to 4,096 blocks, IV of 16 bytes, output as long as input
unfoldable pub enc_cbc : ℕ → List ℕ → List ℕ → List ℕ → Account
enc_cbc slot iv input output = with_key slot Cipher (record {
  lent = output ∷ [];
  brought = iv ∷ input ∷ [];
  lengths = cbc_lengths 16 (length iv) (length input) (length output);
  gives = λ key. (0, cbc_encrypt (cipher key) iv input ∷ []);
})

unfoldable pub dec_cbc : ℕ → List ℕ → List ℕ → List ℕ → Account
dec_cbc slot iv input output = with_key slot Cipher (record {
  lent = output ∷ [];
  brought = iv ∷ input ∷ [];
  lengths = cbc_lengths 16 (length iv) (length input) (length output);
  gives = λ key. (0, cbc_decrypt (inv_cipher key) iv input ∷ []);
})

-- ---- GENERATE_MAC: the length is in bits, 0 to 524,288; output 16 bytes
unfoldable pub generate_mac : ℕ → ℕ → List ℕ → List ℕ → Account
generate_mac slot bits message mac = with_key slot GenerateMac (record {
  lent = mac ∷ [];
  brought = message ∷ [];
  lengths = cmac_lengths 16 bits (length message) (length mac);
  gives = λ key. (0, cmac (cipher key) bits message ∷ []);
})

-- ---- VERIFY_MAC: MAC of 16 bytes and a MAC length 0 to 127; 0 means all 128 bits, n means the first n, most significant first: the
-- whole bytes, and then the first bits of the byte after them. The verdict is 1 for yes and 0 for no
unfoldable pub mac_agrees : ℕ → List ℕ → List ℕ → Bool
mac_agrees bits a b =
    cond (eqb bits 0) (same a b)
    (same (take (bits / 8) a) (take (bits / 8) b)
    && eqb (byte a (bits / 8) / 2 ^ (8 - bits % 8)) (byte b (bits / 8) / 2 ^ (8 - bits % 8)))

-- how many bits are compared
abbrev pub compared : ℕ → ℕ
compared macbits = cond (eqb macbits 0) 128 macbits

unfoldable pub verify_mac : ℕ → ℕ → List ℕ → List ℕ → ℕ → Account
verify_mac slot bits message mac macbits = with_key slot VerifyMac (record {
  lent = [];
  brought = message ∷ mac ∷ [];
  lengths = cmac_lengths 16 bits (length message) (length mac) && leb macbits 127;
  gives = λ key. (bool_byte (mac_agrees macbits (cmac (cipher key) bits message) mac), []);
})

-- ---- LOAD_PLAIN_KEY: 16 bytes into slot 14, not empty, plain
unfoldable pub load_plain_key : List ℕ → Account
load_plain_key key = command (record {
  lent = [];
  brought = key ∷ [];
  lengths = eqb (length key) 16;
  checks = λ d. [];
  does = λ d. (put_slot ram_key (record { key = key; counter = 0; flags = 0; empty = off }) (set_mark plain_mark on d), 0, []);
})

-- ---- INIT_RNG: seed becomes AES of the seed under KDF(SECRET_KEY, PRNG_SEED_KEY_C); state becomes that seed; random key is
-- KDF(SECRET_KEY, PRNG_KEY_C). A second one since reset answers 1
abbrev pub next_seed : Device → List ℕ
next_seed d = cipher (kdf (key_at d secret_key) (constant_of PrngSeedKey)) d.seed

abbrev pub random_key : Device → List ℕ
random_key d = kdf (key_at d secret_key) (constant_of PrngKey)

unfoldable pub init_rng : Account
init_rng = command (record {
  lent = [];
  brought = [];
  lengths = true;
  checks = λ d. (is_marked d rng_mark, sequence_error) ∷ [];
  does = λ d. (set_mark rng_mark on (set_random (next_seed d) (next_seed d) (random_key d) d), 0, []);
})

-- ---- EXTEND_SEED with 16 bytes E: state becomes the compression of state, E, PRNG_EXTENSION_C; seed likewise from the seed
abbrev pub extended : List ℕ → List ℕ → List ℕ
extended from entropy = compress (from ++ (entropy ++ constant_of PrngExtension))

unfoldable pub extend_seed : List ℕ → Account
extend_seed entropy = command (record {
  lent = [];
  brought = entropy ∷ [];
  lengths = eqb (length entropy) 16;
  checks = λ d. (not (is_marked d rng_mark), rng_seed) ∷ [];
  does = λ d. (set_random (extended d.seed entropy) (extended d.state entropy) d.rngkey d, 0, []);
})

-- ---- RND: state becomes AES of state under the random key, and is the output
abbrev pub next_state : Device → List ℕ
next_state d = cipher d.rngkey d.state

unfoldable pub rnd : List ℕ → Account
rnd output = command (record {
  lent = output ∷ [];
  brought = [];
  lengths = eqb (length output) 16;
  checks = λ d. (not (is_marked d rng_mark), rng_seed) ∷ [];
  does = λ d. (set_random d.seed (next_state d) d.rngkey d, 0, next_state d ∷ []);
})

-- ---- GET_STATUS
unfoldable pub get_status : Account
get_status = command (record { lent = []; brought = []; lengths = true; checks = λ d. []; does = λ d. (d, status d, []) })

-- ---- GET_ID: challenge of 16 bytes; gives the 15 UID bytes, the status byte and CMAC under slot 1 of challenge, UID, status. If slot
-- 1 is empty the MAC is 16 zero bytes; if it is locked, 2
unfoldable pub identity : Device → List ℕ
identity d = d.uid ++ (status d ∷ [])

unfoldable pub id_mac : Device → List ℕ → List ℕ
id_mac d text = cond (is_empty d master_ecu_key) zero_block (cmac (cipher (key_at d master_ecu_key)) 256 text)

unfoldable pub get_id : List ℕ → List ℕ → Account
get_id challenge output = record {
  lent = output ∷ [];
  brought = challenge ∷ [];
  lengths = right_lengths ((length challenge, 16) ∷ (length output, 32) ∷ []);
  uses = master_ecu_key ∷ [];
  loads = [];
  fills = [];
  checks = λ d. (locked d master_ecu_key, key_not_available) ∷ [];
  refusal = unchanged;
  does = λ d. (d, 0, (identity d ++ id_mac d (challenge ++ identity d)) ∷ []);
}
