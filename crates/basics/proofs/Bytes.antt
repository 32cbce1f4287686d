-- Texts that are a block or a UID, read whole; and a text with a block put anew: that block is what was put, and every other is as
-- it was.
-- Assumes nothing.
use mathlib.Core.Path.{◌≡◌, refl, sym, ap, ap₂, ◌∙◌}
use mathlib.Core.Bool.{Bool, true, false, cond}
use mathlib.Core.List.{List, ◌++◌, append_assoc}
use mathlib.Core.Logic.{◌⊎◌, inl, inr, ⊎_elim}
use Prim.Native.Nat.{ℕ, ◌+◌, ◌-◌, ◌*◌, ◌≤◌, ◌<◌}
use native.Mathlib.Nat.{zero-add, eq-or-lt_of_le}
use native.Mathlib.Omega.{arith}
use borrow.Author.Tests.{le-leb, leb-true, leb-false}
use lib.Dec.{leb}
use lib.ListN.{length, take, drop}
use lib.Seq.{drop-drop, paste, length-paste, get_or-take, length-take-le, take_all}
use Rattle.laws.proofs.Paste.{paste_before, paste_at, paste_after}
use Rattle.laws.proofs.Tabulate.{length_tabulate, tabulate_same, tabulate_own}
use Rattle.aes.specs.State.{byte, Bytes}
use Rattle.aes.proofs.Bytes.{append_bytes, take_bytes, drop_bytes}
use Rattle.basics.specs.Bytes.{block_at, put_block, uid_from}

pub block_long : (text : List ℕ) (n : ℕ) → length (block_at text n) ≡ 16
unfolding block_at
block_long text n = length_tabulate 16 _

pub block_whole : (text : List ℕ) → length text ≡ 16 → block_at text 0 ≡ text
unfolding block_at
block_whole text long = tabulate_same 16 _ _ (λ i h. ap (byte text) (zero-add i)) ∙ tabulate_own 16 text long

pub uid_front : (text : List ℕ) → 15 ≤ length text → uid_from text ≡ take 15 text
unfolding uid_from
uid_front text enough =
    tabulate_same 15 _ _ (λ i h. sym (get_or-take 15 text i 0 h)) ∙ tabulate_own 15 (take 15 text) (length-take-le 15 text enough)

pub uid_whole : (text : List ℕ) → length text ≡ 15 → uid_from text ≡ text
uid_whole text long = uid_front text (omega arith) ∙ take_all 15 text (omega arith)

-- ---- a block put anew: n bytes are copied into their place, from a text that has no others
pub copied : (d new : List ℕ) (at n : ℕ) → length new ≡ n → take at d ++ (new ++ drop (at + n - at) (drop at d)) ≡ paste d at new n
copied d new at n long =
    let rest : drop (at + n - at) (drop at d) ≡ drop (at + n) d = drop-drop (at + n - at) at d ∙ ap (λ (k : ℕ). drop k d) (omega arith) in
    ap₂ (λ (x y : List ℕ). take at d ++ (x ++ y)) (sym (take_all n new (omega (arith, long)))) rest
    ∙ sym (append_assoc (take at d) (take n new) (drop (at + n) d))

less_or_more : (a b : ℕ) → (a ≡ b → ⊥) → (a < b) ⊎ (b < a)
less_or_more a b other = tests (leb b a) refl
  where
    tests : (t : Bool) → leb b a ≡ t → (a < b) ⊎ (b < a)
    tests false e = inl (leb-false b a e)
    tests true e = ⊎_elim (λ same. absurd (other (sym same))) inr (eq-or-lt_of_le (leb-true b a e))

paste_bytes : (l part : List ℕ) (at n : ℕ) → Bytes l → Bytes part → Bytes (paste l at part n)
paste_bytes l part at n hl hp =
    append_bytes (take at l ++ take n part) (drop (at + n) l)
    (append_bytes (take at l) (take n part) (take_bytes at l hl) (take_bytes n part hp)) (drop_bytes (at + n) l hl)

module _ (text block : List ℕ) (n : ℕ) (room : 16 * n + 16 ≤ length text) where
  pub put_fits : put_block text n block ≡ paste text (16 * n) block 16
  unfolding put_block
  put_fits = ap (λ (b : Bool). cond b (paste text (16 * n) block 16) text) (le-leb (16 * n + 16) (length text) room)

  pub put_bytes : Bytes text → Bytes block → Bytes (put_block text n block)
  put_bytes small few k = rw put_fits (paste_bytes text block (16 * n) 16 small few k)

  module _ (long : length block ≡ 16) where
    enough : 16 ≤ length block
    enough = omega (arith, long)

    pub put_here : block_at (put_block text n block) n ≡ block
    unfolding block_at
    put_here =
        ap (λ (l : List ℕ). block_at l n) put_fits
        ∙ tabulate_same 16 _ _ (λ i h. paste_at text block (16 * n) 16 room enough i h)
        ∙ tabulate_own 16 block long

    -- a byte before the block's, or after them
    beside : (j : ℕ) → (j < 16 * n) ⊎ (16 * n + 16 ≤ j) → byte (paste text (16 * n) block 16) j ≡ byte text j
    beside j (inl before) = paste_before text block (16 * n) 16 room enough j before
    beside j (inr after) =
        let place : 16 * n + 16 + (j - (16 * n + 16)) ≡ j = omega arith in
        sym (ap (byte (paste text (16 * n) block 16)) place)
        ∙ paste_after text block (16 * n) 16 room enough (j - (16 * n + 16))
        ∙ ap (byte text) place

    pub put_other : (m : ℕ) → (m ≡ n → ⊥) → block_at (put_block text n block) m ≡ block_at text m
    unfolding block_at
    put_other m other =
        ap (λ (l : List ℕ). block_at l m) put_fits
        ∙ tabulate_same 16 _ _
        (λ i h. beside (16 * m + i) (⊎_elim (λ l. inl (omega arith)) (λ g. inr (omega arith)) (less_or_more m n other)))

    pub put_length : length (put_block text n block) ≡ length text
    put_length = ap length put_fits ∙ length-paste text (16 * n) block 16 room enough
