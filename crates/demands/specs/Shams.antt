-- Sham devices: machines that do one thing wrong, whatever else they do. The theorems are that none of them meets the demands.
-- What is wrong is said of no more calls than the sham would do so in: one that makes all other checks is among them.
-- Assumes nothing.
use Rattle.std.specs.Prelude.{◌≡◌, true, false, List, [], ◌∷◌, ℕ, ◌%◌, length, replicate}
use Rattle.basics.specs.Answers.{no_error}
use Rattle.message.specs.Building.{target_of, authority_of}
use Rattle.message.specs.Slots.{has_role}
use Rattle.message.specs.declared.Role.TheVariants.{Cipher}
use Rattle.device.specs.Made.{made}
use Rattle.device.specs.Record.{master_ecu_key, boot_mac, debugger_mark, boot_ok_mark, is_marked, is_empty, key_at, flags_at}
use Rattle.device.specs.Rules.{usage_fits}
use Rattle.device.specs.declared.Device.{Device}
use Rattle.boot.specs.Boot.{measure}
use Rattle.demands.specs.Calls.{enc_ecb, verify_mac, load_key, load_plain_key, secure_boot, Machine}
use Rattle.demands.specs.Demand2.{output, yes_verdict}

-- ---- the four that the paper asks for
-- it refuses every load
abbrev pub RefusesEveryLoad : Machine → Type 0
RefusesEveryLoad machine = (d : Device) (m1 m2 m3 b4 b5 : List ℕ) → (machine d (load_key m1 m2 m3 b4 b5)).answer ≡ no_error → ⊥

-- it gives the same block for all texts that it enciphers
abbrev pub OneBlockForAll : Machine → Type 0
OneBlockForAll machine = (d : Device) (slot : ℕ) (x y out : List ℕ) → (machine d (enc_ecb slot x out)).answer ≡ no_error
    → (machine d (enc_ecb slot y out)).answer ≡ no_error
    → output (machine d (enc_ecb slot x out)) ≡ output (machine d (enc_ecb slot y out))

-- it answers 0 and stores nothing
abbrev pub StoresNothing : Machine → Type 0
StoresNothing machine = (d : Device) (m1 m2 m3 b4 b5 : List ℕ) → (machine d (load_key m1 m2 m3 b4 b5)).device ≡ d

-- it answers and leaves M4 and M5 as they were
abbrev pub ProvesNothing : Machine → Type 0
ProvesNothing machine = (d : Device) (m1 m2 m3 b4 b5 : List ℕ) → (machine d (load_key m1 m2 m3 b4 b5)).buffers ≡ b4 ∷ b5 ∷ []

-- its first load may be genuine; once MASTER_ECU_KEY is loaded it only answers
abbrev pub OnlyTheFirst : Machine → Type 0
OnlyTheFirst machine = (d : Device) (m1 m2 m3 b4 b5 : List ℕ) → is_empty d master_ecu_key ≡ false
    → (machine d (load_key m1 m2 m3 b4 b5)).device ≡ d

-- ---- others: against the first demand
-- it masks slot numbers to four bits, as the old device did
abbrev pub MasksSlots : Machine → Type 0
MasksSlots machine = (d : Device) (slot : ℕ) (text out : List ℕ)
    → machine d (enc_ecb slot text out) ≡ machine d (enc_ecb (slot % 16) text out)

-- it takes a plain key of any length
abbrev pub TakesAnyLength : Machine → Type 0
TakesAnyLength machine = (d : Device) (key : List ℕ) → made d ≡ true → (machine d (load_plain_key key)).answer ≡ no_error

-- it clears the output before it looks at anything
abbrev pub ClearsFirst : Machine → Type 0
ClearsFirst machine = (d : Device) (slot : ℕ) (text out : List ℕ) → ((machine d (enc_ecb slot text out)).answer ≡ no_error → ⊥)
    → output (machine d (enc_ecb slot text out)) ≡ replicate (length out) 0

-- ---- against the second demand
-- it copies: deciphering undoes enciphering, and nothing is enciphered
abbrev pub Copies : Machine → Type 0
Copies machine = (d : Device) (slot : ℕ) (text out : List ℕ) → (machine d (enc_ecb slot text out)).answer ≡ no_error
    → output (machine d (enc_ecb slot text out)) ≡ text

-- VERIFY_MAC says yes to every MAC
abbrev pub SaysYes : Machine → Type 0
SaysYes machine = (d : Device) (slot bits : ℕ) (message mac : List ℕ) (macbits : ℕ)
    → (machine d (verify_mac slot bits message mac macbits)).answer ≡ no_error
    → (machine d (verify_mac slot bits message mac macbits)).value ≡ yes_verdict

-- ---- against the third demand
-- what it took once it takes again, where its authority is another slot and the target's flags are what they were, so that only
-- the counter could forbid it
abbrev pub TakesReplays : Machine → Type 0
TakesReplays machine = (d : Device) (m1 m2 m3 b4 b5 : List ℕ) → (machine d (load_key m1 m2 m3 b4 b5)).answer ≡ no_error
    → (authority_of m1 ≡ target_of m1 → ⊥)
    → flags_at (machine d (load_key m1 m2 m3 b4 b5)).device (target_of m1) ≡ flags_at d (target_of m1)
    → (machine (machine d (load_key m1 m2 m3 b4 b5)).device (load_key m1 m2 m3 b4 b5)).answer ≡ no_error

-- ---- of the boot check
-- it sets BOOT_OK for every bootloader
abbrev pub SaysBootOk : Machine → Type 0
SaysBootOk machine = (d : Device) (bootloader : List ℕ) → is_empty d boot_mac ≡ false
    → (machine d (secure_boot bootloader)).answer ≡ no_error → is_marked (machine d (secure_boot bootloader)).device boot_ok_mark ≡ true

-- it learns anew on every boot
abbrev pub LearnsAnew : Machine → Type 0
LearnsAnew machine = (d : Device) (bootloader : List ℕ) → (machine d (secure_boot bootloader)).answer ≡ no_error
    → key_at (machine d (secure_boot bootloader)).device boot_mac ≡ measure d bootloader

-- it forgets the lock: while no debugger is attached it uses every key that has the role
abbrev pub ForgetsTheLock : Machine → Type 0
ForgetsTheLock machine = (d : Device) (slot : ℕ) (text out : List ℕ) → made d ≡ true → length text ≡ 16 → length out ≡ 16
    → has_role slot Cipher ≡ true → is_empty d slot ≡ false → is_marked d debugger_mark ≡ false → usage_fits slot (flags_at d slot) Cipher ≡ true
    → (machine d (enc_ecb slot text out)).answer ≡ no_error
