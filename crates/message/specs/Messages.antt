-- The messages of 001, 4.9: M1 to M3 for the device, over the number n of flags, and its proof M4 and M5.
-- Assumes nothing.
use Rattle.std.specs.Prelude.{List, [], ◌∷◌, ◌++◌, ℕ, ◌+◌, ◌*◌, ◌/◌, ◌%◌, replicate}
use Rattle.aes.specs.Cipher.{cipher}
use Rattle.modes.specs.Blocks.{zero_block}
use Rattle.modes.specs.Cbc.{cbc_encrypt}
use Rattle.modes.specs.Cmac.{cmac}
use Rattle.modes.specs.Compression.{kdf}
use Rattle.modes.specs.Constants.{constant_of}
use Rattle.modes.specs.declared.Constant.TheVariants.{KeyUpdateEnc, KeyUpdateMac}
use Rattle.message.specs.FirstBlock.{first_block, proof_block}

-- an empty slot that authorises itself counts as 16 bytes of FF
abbrev pub empty_key : List ℕ
empty_key = replicate 16 0xff

-- KDF(KEY, KEY_UPDATE_ENC_C): K1 of the authority's key, K3 of the new one
abbrev pub enc_key : List ℕ → List ℕ
enc_key key = kdf key (constant_of KeyUpdateEnc)

-- KDF(KEY, KEY_UPDATE_MAC_C): K2 of the authority's key, K4 of the new one
abbrev pub mac_key : List ℕ → List ℕ
mac_key key = kdf key (constant_of KeyUpdateMac)

-- ID | AuthID, four bits each
abbrev pub slot_byte : ℕ → ℕ → ℕ
slot_byte target authority = 16 * target + authority

-- and each of them again
abbrev pub target_in : ℕ → ℕ
target_in slots = slots / 16

abbrev pub authority_in : ℕ → ℕ
authority_in slots = slots % 16

-- UID' | ID | AuthID
unfoldable pub m1 : List ℕ → ℕ → ℕ → List ℕ
m1 uid target authority = uid ++ (slot_byte target authority ∷ [])

-- ENC_CBC under K1, IV = 0, of C_ID' | F_ID' | 0..0 | KEY_ID'
unfoldable pub m2 : ℕ → List ℕ → ℕ → ℕ → List ℕ → List ℕ
m2 n auth_key counter flags key = cbc_encrypt (cipher (enc_key auth_key)) zero_block (first_block n counter flags ++ key)

-- CMAC under K2 of M1 | M2, 384 bits
unfoldable pub m3 : List ℕ → List ℕ → List ℕ → List ℕ
m3 auth_key m1 m2 = cmac (cipher (mac_key auth_key)) 384 (m1 ++ m2)

-- the three together, from UID', target, authority, the authority's key, counter, flags and the new key
pub record Sent : Type 0 where
  pub m1 : List ℕ
  pub m2 : List ℕ
  pub m3 : List ℕ

abbrev pub sent : List ℕ → List ℕ → List ℕ → Sent
sent m1 m2 m3 = record { m1 = m1; m2 = m2; m3 = m3 }

abbrev pub build : ℕ → List ℕ → ℕ → ℕ → List ℕ → ℕ → ℕ → List ℕ → Sent
build n uid target authority auth_key counter flags key =
    let first = m1 uid target authority in
    let second = m2 n auth_key counter flags key in
    sent first second (m3 auth_key first second)

-- ---- the device's proof
-- UID | ID | AuthID | ENC_ECB under K3 of C_ID | 1 | 0..0
unfoldable pub m4 : List ℕ → ℕ → ℕ → ℕ → List ℕ → List ℕ
m4 uid target authority counter key = m1 uid target authority ++ cipher (enc_key key) (proof_block counter)

-- CMAC under K4 of M4, 256 bits
unfoldable pub m5 : List ℕ → List ℕ → List ℕ
m5 key m4 = cmac (cipher (mac_key key)) 256 m4
