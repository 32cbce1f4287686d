-- Cipher and InvCipher of FIPS 197, 5.1 and 5.3, with Nr = 10 rounds.
-- Assumes nothing.
use Rattle.std.specs.Prelude.{List, ℕ, zero, suc}
use Rattle.aes.specs.Schedule.{key_expansion}
use Rattle.aes.specs.Steps.{sub_bytes, shift_rows, mix_columns, add_round_key, inv_sub_bytes, inv_shift_rows, inv_mix_columns}

-- 5.1: round r, and the rounds 1 to n, one after the other
unfoldable pub round : List ℕ → ℕ → List ℕ → List ℕ
round w r s = add_round_key w r (mix_columns (shift_rows (sub_bytes s)))

unfoldable pub rounds : ℕ → List ℕ → List ℕ → List ℕ
rounds zero w s = s
rounds (suc n) w s = round w (suc n) (rounds n w s)

-- with a schedule w; the last round mixes no columns
unfoldable pub cipher_with : List ℕ → List ℕ → List ℕ
cipher_with w s = add_round_key w 10 (shift_rows (sub_bytes (rounds 9 w (add_round_key w 0 s))))

unfoldable pub cipher : List ℕ → List ℕ → List ℕ
cipher key s = cipher_with (key_expansion key) s

-- 5.3: the rounds n down to 1, one after the other
unfoldable pub inv_round : List ℕ → ℕ → List ℕ → List ℕ
inv_round w r s = inv_mix_columns (add_round_key w r (inv_sub_bytes (inv_shift_rows s)))

unfoldable pub inv_rounds : ℕ → List ℕ → List ℕ → List ℕ
inv_rounds zero w s = s
inv_rounds (suc n) w s = inv_rounds n w (inv_round w (suc n) s)

unfoldable pub inv_cipher_with : List ℕ → List ℕ → List ℕ
inv_cipher_with w s = add_round_key w 0 (inv_sub_bytes (inv_shift_rows (inv_rounds 9 w (add_round_key w 10 s))))

unfoldable pub inv_cipher : List ℕ → List ℕ → List ℕ
inv_cipher key s = inv_cipher_with (key_expansion key) s
