-- A board and a day of it, so that the theorems speak of something: UID, keys and the second message are those of 001, 4.13.
-- Assumes nothing.
use Rattle.std.specs.Prelude.{List, [], ◌∷◌, ℕ, replicate}
use Rattle.basics.specs.Marks.{off, on}
use Rattle.message.specs.Flags.{flag_count, boot}
use Rattle.message.specs.Messages.{Sent, build}
use Rattle.device.specs.Made.{fresh}
use Rattle.device.specs.Record.{master_ecu_key, boot_mac_key, boot_mac, ram_key, plain_mark, secure_boot_mark, set_mark, put_slot}
use Rattle.device.specs.declared.Device.{Device}
use Rattle.load.specs.Rules.{loaded}
use Rattle.demands.specs.Calls.{Call, load_key}

-- ---- the board's UID, SECRET_KEY and seed; a key for MASTER_ECU_KEY and one for KEY_1, which is slot 4
abbrev pub uid : List ℕ
uid = 0x00 ∷ 0x00 ∷ 0x00 ∷ 0x00 ∷ 0x00 ∷ 0x00 ∷ 0x00 ∷ 0x00 ∷ 0x00 ∷ 0x00 ∷ 0x00 ∷ 0x00 ∷ 0x00 ∷ 0x00 ∷ 0x01 ∷ []

abbrev pub secret : List ℕ
secret = 0x2b ∷ 0x7e ∷ 0x15 ∷ 0x16 ∷ 0x28 ∷ 0xae ∷ 0xd2 ∷ 0xa6 ∷ 0xab ∷ 0xf7 ∷ 0x15 ∷ 0x88 ∷ 0x09 ∷ 0xcf ∷ 0x4f ∷ 0x3c ∷ []

abbrev pub seed : List ℕ
seed = 0x6b ∷ 0xc1 ∷ 0xbe ∷ 0xe2 ∷ 0x2e ∷ 0x40 ∷ 0x9f ∷ 0x96 ∷ 0xe9 ∷ 0x3d ∷ 0x7e ∷ 0x11 ∷ 0x73 ∷ 0x93 ∷ 0x17 ∷ 0x2a ∷ []

abbrev pub master : List ℕ
master = 0x00 ∷ 0x01 ∷ 0x02 ∷ 0x03 ∷ 0x04 ∷ 0x05 ∷ 0x06 ∷ 0x07 ∷ 0x08 ∷ 0x09 ∷ 0x0a ∷ 0x0b ∷ 0x0c ∷ 0x0d ∷ 0x0e ∷ 0x0f ∷ []

abbrev pub door : List ℕ
door = 0x0f ∷ 0x0e ∷ 0x0d ∷ 0x0c ∷ 0x0b ∷ 0x0a ∷ 0x09 ∷ 0x08 ∷ 0x07 ∷ 0x06 ∷ 0x05 ∷ 0x04 ∷ 0x03 ∷ 0x02 ∷ 0x01 ∷ 0x00 ∷ []

abbrev pub key1 : ℕ
key1 = 4

-- ---- the board as it is made; then with its master key; then with the door's key; or as made, with a plain RAM key
abbrev pub board : Device
board = fresh uid secret seed

abbrev pub keyed : Device
keyed = loaded board master_ecu_key 1 0 master

abbrev pub fitted : Device
fitted = loaded keyed key1 1 0 door

abbrev pub plain : Device
plain = put_slot ram_key (record { key = master; counter = 0; flags = 0; empty = off }) (set_mark plain_mark on board)

-- with a BOOT_MAC_KEY and a BOOT_MAC; and with KEY_1 kept from a bad boot, after one
abbrev pub booting : List ℕ → Device
booting mac = loaded (loaded board boot_mac_key 1 0 master) boot_mac 1 0 mac

abbrev pub shut_out : Device
shut_out = set_mark secure_boot_mark on (loaded board key1 1 boot door)

-- ---- the messages: the master key by itself, an empty slot, which counts as 16 bytes of FF; and the door's key by the master key
abbrev pub to_master : Sent
to_master = build flag_count uid master_ecu_key master_ecu_key (replicate 16 0xff) 1 0 master

abbrev pub to_key1 : Sent
to_key1 = build flag_count uid key1 master_ecu_key master 1 0 door

-- a load with room for M4 and M5
abbrev pub load : Sent → Call
load message = load_key message.m1 message.m2 message.m3 (replicate 32 0) (replicate 16 0)

-- the block of FIPS 197, C.1, whose ciphertext under the key 00 to 0f is published
abbrev pub text : List ℕ
text = 0x00 ∷ 0x11 ∷ 0x22 ∷ 0x33 ∷ 0x44 ∷ 0x55 ∷ 0x66 ∷ 0x77 ∷ 0x88 ∷ 0x99 ∷ 0xaa ∷ 0xbb ∷ 0xcc ∷ 0xdd ∷ 0xee ∷ 0xff ∷ []

abbrev pub ciphertext : List ℕ
ciphertext = 0x69 ∷ 0xc4 ∷ 0xe0 ∷ 0xd8 ∷ 0x6a ∷ 0x7b ∷ 0x04 ∷ 0x30 ∷ 0xd8 ∷ 0xcd ∷ 0xb7 ∷ 0x80 ∷ 0x70 ∷ 0xb4 ∷ 0xc5 ∷ 0x5a ∷ []
