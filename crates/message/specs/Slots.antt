-- The slots by their number, a byte from 0 to 255: which kind each is, what it can be used for, which flags it keeps, and which
-- slot may be loaded by the key of which.
-- Assumes nothing.
use Rattle.std.specs.Prelude.{Bool, true, false, ◌||◌, [], ◌∷◌, ℕ, ◌+◌, eqb}
use Rattle.laws.specs.Ranges.{within, row_of}
use Rattle.message.specs.Flags.{write, boot, debugger, key_usage, wildcard}
use Rattle.message.specs.declared.Kind.{Kind}
use Rattle.message.specs.declared.Kind.TheVariants.{SecretKey, MasterEcuKey, BootMacKey, BootMac, KeyN, RamKey, NoSlot}
use Rattle.message.specs.declared.Role.{Role}
use Rattle.message.specs.declared.Role.TheVariants.{Cipher, GenerateMac, VerifyMac}

-- 0 SECRET_KEY, 1 MASTER_ECU_KEY, 2 BOOT_MAC_KEY, 3 BOOT_MAC, 4 to 13 KEY_1 to KEY_10, 14 RAM_KEY; 15 to 255 are no slot
unfoldable pub kind_of : ℕ → Kind
kind_of slot =
    row_of slot
    ((0, 0, SecretKey)
    ∷ (1, 1, MasterEcuKey)
    ∷ (2, 2, BootMacKey)
    ∷ (3, 3, BootMac)
    ∷ (4, 13, KeyN)
    ∷ (14, 14, RamKey)
    ∷ [])
    NoSlot

-- ECB and CBC: slots 4 to 13, and 14. GENERATE_MAC: slots 4 to 13, and 14. VERIFY_MAC: these and 2. (Which of the first two a
-- slot from 4 to 13 has is said by its KEY_USAGE.)
abbrev pub only_verifies : Role → Bool
only_verifies Cipher = false
only_verifies GenerateMac = false
only_verifies VerifyMac = true

unfoldable pub has_role : ℕ → Role → Bool
has_role slot role =
    row_of slot
    ((2, 2, only_verifies role)
    ∷ (4, 13, true)
    ∷ (14, 14, true)
    ∷ [])
    false

-- slot 1 WRITE, BOOT, DEBUGGER, WILDCARD; slots 2 and 3 WRITE, DEBUGGER, WILDCARD; slots 4 to 13 those of slot 1 and KEY_USAGE
unfoldable pub flags_kept : ℕ → ℕ
flags_kept slot =
    row_of slot
    ((1, 1, write + boot + debugger + wildcard)
    ∷ (2, 3, write + debugger + wildcard)
    ∷ (4, 13, write + boot + debugger + wildcard + key_usage)
    ∷ [])
    0

-- slots 1 to 13 have a counter; any other slot keeps 0 for one
unfoldable pub counter_kept : ℕ → ℕ → ℕ
counter_kept slot counter = row_of slot ((1, 13, counter) ∷ []) 0

-- target 1 by 1; 2 and 3 by 1 or 2; 4 to 13 by 1 or itself; 14 by 4 to 13 or 0. No other
unfoldable pub allowed : ℕ → ℕ → Bool
allowed target authority =
    row_of target
    ((1, 1, eqb authority 1)
    ∷ (2, 3, eqb authority 1 || eqb authority 2)
    ∷ (4, 13, eqb authority 1 || eqb authority target)
    ∷ (14, 14, within 4 13 authority || eqb authority 0)
    ∷ [])
    false
