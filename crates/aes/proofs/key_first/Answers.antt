-- `aes::key_first` meets its contract: the key is copied to the front.
-- Assumes nothing.
use mathlib.Core.Path.{◌∙◌}
use lib.Seq.{take_at}
use Rattle.aes.proofs.key_first.Goals as goal

pub returns : goal.returns
returns c = let copied = c.copy_from_slice in
    take_at copied.new.self _ 16 copied.ensures.len ∙ copied.ensures.after
