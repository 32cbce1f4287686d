-- `modes::text_mac` meets its contract: the schedule is that of the key.
-- Assumes nothing.
use mathlib.Core.Path.{sym}
use native.Mathlib.Omega.{arith}
use Rattle.aes.proofs.Rounds.{ciphers}
use Rattle.modes.proofs.TextMac.{text_macs}
use Rattle.modes.proofs.text_mac.Goals as goal

pub returns : goal.returns
returns c = rw (sym (ciphers c.args.key _ c.expand_key-w.ensures)) (grind (arith, text_macs))
