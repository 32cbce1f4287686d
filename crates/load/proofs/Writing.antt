-- What a device writes is never refused where the lengths, the numbers and the pair are right, and what is written then.
-- Assumes nothing.
use mathlib.Core.Path.{◌≡◌, refl, sym}
use mathlib.Core.Bool.{true}
use mathlib.Core.List.{List}
use Prim.Native.Nat.{ℕ, ◌≤◌, ◌<◌}
use native.Mathlib.Omega.{arith}
use lib.ListN.{length}
use Rattle.laws.specs.Lengths.{right_lengths}
use Rattle.message.specs.Flags.{flag_count}
use Rattle.message.specs.FirstBlock.{max_counter}
use Rattle.message.specs.Messages.{m1, m2, m3, m4, m5}
use Rattle.message.specs.Slots.{counter_kept, allowed}
use Rattle.message.specs.Writer.{message_lengths, messages, full_form, proof_lengths, proof, proof_form}
use Rattle.message.proofs.Written.{faultless, messages_written, proof_written}

module _ (uid key : List ℕ) (t a c : ℕ) (hu : length uid ≡ 15) (hk : length key ≡ 16) (counter : c ≤ max_counter) (pair : allowed t a ≡ true) where
  pub messages_taken : (auth_key b1 b2 b3 : List ℕ) (f : ℕ) → length auth_key ≡ 16 → length b1 ≡ 16 → length b2 ≡ 32 → length b3 ≡ 16 → f < 32
      → full_form uid t a auth_key c f key b1 b2 b3
      ≡ messages 0 (m1 uid t a) (m2 flag_count auth_key c f key) (m3 auth_key (m1 uid t a) (m2 flag_count auth_key c f key))
  unfolding right_lengths
  messages_taken auth_key b1 b2 b3 f hs h1 h2 h3 flags =
      let lengths : right_lengths (message_lengths (length uid) (length auth_key) (length key) (length b1) (length b2) (length b3)) ≡ true = rw (hu, hs, hk, h1, h2, h3) in
      let zero = faultless _ c f t a lengths counter flags pair in
      sym (messages_written uid auth_key key b1 b2 b3 t a c f 0 zero _ _ _ refl refl refl refl)

  pub proof_taken : (b4 b5 : List ℕ) → length b4 ≡ 32 → length b5 ≡ 16
      → proof_form uid t a c key b4 b5 ≡ proof 0 (m4 uid t a (counter_kept t c) key) (m5 key (m4 uid t a (counter_kept t c) key))
  unfolding right_lengths
  proof_taken b4 b5 h4 h5 =
      let lengths : right_lengths (proof_lengths (length uid) (length key) (length b4) (length b5)) ≡ true = rw (hu, hk, h4, h5) in
      let zero = faultless _ c 0 t a lengths counter (omega arith) pair in
      sym (proof_written uid key b4 b5 t a c 0 zero _ _ refl refl refl)
