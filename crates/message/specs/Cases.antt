-- Cases that the definitions must meet: what is computed, and what must come of it.
-- Assumes nothing.
use Rattle.std.specs.Prelude.{List, [], ◌∷◌, ℕ, ◌+◌, take}
use Rattle.field.specs.Field.{mul}
use Rattle.field.specs.Sbox.{sbox}
use Rattle.message.specs.Flags.{flag_count, write, boot, debugger, key_usage, wildcard}
use Rattle.message.specs.FirstBlock.{max_counter, first_block, proof_block}
use Rattle.message.specs.Messages.{slot_byte}

abbrev pub all_flags : ℕ
all_flags = write + boot + debugger + key_usage + wildcard

abbrev pub cases : List (List ℕ × List ℕ)
cases =
    -- the first block: counter 1 and no flags; with WILDCARD; counter 5 with WRITE; the largest counter with all flags
    (take 5 (first_block flag_count 1 0), 0x00 ∷ 0x00 ∷ 0x00 ∷ 0x10 ∷ 0x00 ∷ [])
    ∷ (take 5 (first_block flag_count 1 wildcard), 0x00 ∷ 0x00 ∷ 0x00 ∷ 0x10 ∷ 0x80 ∷ [])
    ∷ (take 5 (first_block flag_count 5 write), 0x00 ∷ 0x00 ∷ 0x00 ∷ 0x58 ∷ 0x00 ∷ [])
    ∷ (take 5 (first_block flag_count max_counter all_flags), 0xff ∷ 0xff ∷ 0xff ∷ 0xff ∷ 0x80 ∷ [])
    -- M4's clear block: counter 1, and the largest
    ∷ (take 4 (proof_block 1), 0x00 ∷ 0x00 ∷ 0x00 ∷ 0x18 ∷ [])
    ∷ (take 4 (proof_block max_counter), 0xff ∷ 0xff ∷ 0xff ∷ 0xf8 ∷ [])
    -- the slot byte: KEY_1 by MASTER_ECU_KEY, RAM_KEY by SECRET_KEY, KEY_10 by itself
    ∷ (slot_byte 4 1 ∷ [], 0x41 ∷ [])
    ∷ (slot_byte 14 0 ∷ [], 0xe0 ∷ [])
    ∷ (slot_byte 13 13 ∷ [], 0xdd ∷ [])
    -- the S-box of 00 and of 53; the product of 57 and 83
    ∷ (sbox 0x00 ∷ [], 0x63 ∷ [])
    ∷ (sbox 0x53 ∷ [], 0xed ∷ [])
    ∷ (mul 0x57 0x83 ∷ [], 0xc1 ∷ [])
    ∷ []
