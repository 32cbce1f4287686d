-- A slot's key is a block.
-- Assumes nothing.
use Prim.Native.Nat.{ℕ, ◌+◌, ◌*◌}
use Rattle.aes.specs.State.{byte, Block}
use Rattle.aes.proofs.Bytes.{state_block}
use Rattle.basics.specs.Bytes.{block_at}
use Rattle.device.specs.Record.{key_at, Shaped}
use Rattle.device.specs.declared.Device.{Device}

pub key_block : (d : Device) (slot : ℕ) → Shaped d → Block (key_at d slot)
unfolding block_at
key_block d slot shaped = state_block (λ i. byte d.keys (16 * slot + i)) (λ i. shaped.key_bytes (16 * slot + i))
