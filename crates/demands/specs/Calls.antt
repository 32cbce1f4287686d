-- The calls of a device: every command, reset and the bench call "debugger attached". All that is said of a call is its account.
-- Assumes nothing.
use Rattle.std.specs.Prelude.{List, ℕ}
use Rattle.device.specs.Account.{Account, perform}
use Rattle.device.specs.Outcome.{Outcome}
use Rattle.device.specs.declared.Device.{Device}
use Rattle.boot.specs.Boot as booting
use Rattle.commands.specs.Commands as commands
use Rattle.load.specs.Export as exporting
use Rattle.load.specs.Load as loading

-- with the numbers and buffers that it is given; b1 to b5 are room for M1 to M5
pub data Call : Type 0 where
  reset : Call
  attach_debugger : Call
  enc_ecb : (slot : ℕ) (input output : List ℕ) → Call
  dec_ecb : (slot : ℕ) (input output : List ℕ) → Call
  enc_cbc : (slot : ℕ) (iv input output : List ℕ) → Call
  dec_cbc : (slot : ℕ) (iv input output : List ℕ) → Call
  generate_mac : (slot bits : ℕ) (message mac : List ℕ) → Call
  verify_mac : (slot bits : ℕ) (message mac : List ℕ) (macbits : ℕ) → Call
  load_key : (m1 m2 m3 b4 b5 : List ℕ) → Call
  load_plain_key : (key : List ℕ) → Call
  export_ram_key : (b1 b2 b3 b4 b5 : List ℕ) → Call
  init_rng : Call
  extend_seed : (entropy : List ℕ) → Call
  rnd : (output : List ℕ) → Call
  get_status : Call
  get_id : (challenge output : List ℕ) → Call
  secure_boot : (bootloader : List ℕ) → Call
  boot_failure : Call
  boot_ok : Call

-- ---- the table of the accounts, over the number n of flags
abbrev pub account : ℕ → Call → Account
account n reset = commands.reset
account n attach_debugger = commands.attach_debugger
account n (enc_ecb slot input output) = commands.enc_ecb slot input output
account n (dec_ecb slot input output) = commands.dec_ecb slot input output
account n (enc_cbc slot iv input output) = commands.enc_cbc slot iv input output
account n (dec_cbc slot iv input output) = commands.dec_cbc slot iv input output
account n (generate_mac slot bits message mac) = commands.generate_mac slot bits message mac
account n (verify_mac slot bits message mac macbits) = commands.verify_mac slot bits message mac macbits
account n (load_key m1 m2 m3 b4 b5) = loading.load_key n m1 m2 m3 b4 b5
account n (load_plain_key key) = commands.load_plain_key key
account n (export_ram_key b1 b2 b3 b4 b5) = exporting.export_ram_key n b1 b2 b3 b4 b5
account n init_rng = commands.init_rng
account n (extend_seed entropy) = commands.extend_seed entropy
account n (rnd output) = commands.rnd output
account n get_status = commands.get_status
account n (get_id challenge output) = commands.get_id challenge output
account n (secure_boot bootloader) = booting.secure_boot bootloader
account n boot_failure = booting.boot_failure
account n boot_ok = booting.boot_ok

-- ---- what may stand in the place of a device: for any record and any call the answer, the record after it, the verdict or
-- status, and the buffers that were lent
abbrev pub Machine : Type 0
Machine = Device → Call → Outcome

-- ours: what the promises of the code say
abbrev pub step : ℕ → Machine
step n d call = perform (account n call) d
