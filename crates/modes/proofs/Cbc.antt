-- CBC decryption undoes CBC encryption and the reverse; both keep a text's length; and the last state of each. The round trip
-- is an induction over the blocks, from `Inverses` of the cipher.
-- Assumes nothing.
use mathlib.Core.Path.{◌≡◌, refl, sym, ap, ap₂, ◌∙◌, subst}
use mathlib.Core.List.{List, [], ◌∷◌, ◌++◌, append-nil, flatten, foldl}
use Prim.Native.Nat.{ℕ, zero, suc, ◌+◌, ◌*◌}
use native.Mathlib.Omega.{arith}
use lib.ListN.{length, take, drop, length-drop}
use lib.Seq.{drop-append-add, drop-drop}
use Rattle.aes.specs.State.{Block}
use Rattle.aes.specs.Cipher.{cipher, inv_cipher}
use Rattle.aes.proofs.Steps.{Inverses}
use Rattle.aes.proofs.RoundTrip.{inverses}
use Rattle.modes.specs.Blocks.{◌⊕◌, blocks, outputs, Text}
use Rattle.modes.specs.Cbc.{chained, unchained, itself, cbc_encrypt, cbc_decrypt}
use Rattle.modes.proofs.Blocks.{blocks_more, blocks_one}
use Rattle.modes.proofs.Texts.{sum_block, sum_cancels, AllBlocks, rest, first, text_more, text_blocks, text_flatten, flatten_blocks, flatten_text, length_blocks}

-- a step that makes a block of blocks
abbrev Keeps : (List ℕ → List ℕ → List ℕ) → Type 0
Keeps f = (c x : List ℕ) → Block c → Block x → Block (f c x)

-- ---- a mode of such steps makes a text of a text, of as many blocks
module _ (out next : List ℕ → List ℕ → List ℕ) (out-block : Keeps out) (next-block : Keeps next) where
  length_outputs : (c : List ℕ) (xs : List (List ℕ)) → length (outputs out next c xs) ≡ length xs
  unfolding outputs
  length_outputs c [] = refl
  length_outputs c (x ∷ xs) = ap suc (length_outputs (next c x) xs)

  all_outputs : (c : List ℕ) (xs : List (List ℕ)) → Block c → AllBlocks xs → AllBlocks (outputs out next c xs)
  unfolding outputs
  all_outputs c [] hc all = tt
  all_outputs c (x ∷ xs) hc all = (out-block c x hc all.0, all_outputs (next c x) xs (next-block c x hc all.0) all.1)

  outputs_text : (n : ℕ) (iv text : List ℕ) → Block iv → Text n text → Text n (flatten (outputs out next iv (blocks text)))
  outputs_text n iv text hiv t =
      let bs : List (List ℕ) = outputs out next iv (blocks text) in
      subst (λ (k : ℕ). Text k (flatten bs)) (length_outputs iv (blocks text) ∙ length_blocks n text t.long)
      (flatten_text bs (all_outputs iv (blocks text) hiv (text_blocks n text t)))

-- ---- what is carried on at the end is the last block that comes out, where that is what is carried on
module _ (next : List ℕ → List ℕ → List ℕ) (next-block : Keeps next) where
  last_output : (m : ℕ) (c text : List ℕ) → Block c → Text (suc m) text
      → foldl next c (blocks text) ≡ drop (16 * m) (flatten (outputs next next c (blocks text)))
  unfolding flatten outputs
  last_output zero c text hc t =
      let one = blocks_one text t.long in
      ap (foldl next c) one ∙ sym (append-nil (next c text)) ∙ sym (ap (λ (b : List (List ℕ)). flatten (outputs next next c b)) one)
  last_output (suc m) c text hc t =
      let more = text_more (suc m) text t in
      let y : List ℕ = next c (take 16 text) in
      let ys : List ℕ = flatten (outputs next next y (blocks (drop 16 text))) in
      let hy : Block y = next-block c (take 16 text) hc (first (suc m) text t) in
      let past : 16 * suc m ≡ length y + 16 * m = omega (arith, hy.long) in
      ap (foldl next c) more
      ∙ last_output m y (drop 16 text) hy (rest (suc m) text t)
      ∙ sym (drop-append-add y ys (16 * m))
      ∙ sym (ap (λ (k : ℕ). drop k (y ++ ys)) past)
      ∙ sym (ap (λ (b : List (List ℕ)). drop (16 * suc m) (flatten (outputs next next c b))) more)

-- ---- over a cipher and its inverse
module _ (ciph inv : List ℕ → List ℕ) (i : Inverses ciph inv) where
  chained_block : Keeps (chained ciph)
  chained_block c p hc hp = i.there.keeps (p ⊕ c) (sum_block p c hp.small hc.small)

  unchained_block : Keeps (unchained inv)
  unchained_block c x hc hx = sum_block (inv x) c (i.back.keeps x hx).small hc.small

  itself_block : Keeps itself
  itself_block c x hc hx = hx

  undo : (c : List ℕ) (ps : List (List ℕ)) → Block c → AllBlocks ps
      → outputs (unchained inv) itself c (outputs (chained ciph) (chained ciph) c ps) ≡ ps
  unfolding outputs
  undo c [] hc all = refl
  undo c (p ∷ ps) hc all =
      let plain : inv (ciph (p ⊕ c)) ⊕ c ≡ p
      = ap (λ (x : List ℕ). x ⊕ c) (i.there.undo (p ⊕ c) (sum_block p c all.0.small hc.small)) ∙ sum_cancels p c all.0.long in
      ap₂ (λ (x : List ℕ) (xs : List (List ℕ)). x ∷ xs) plain (undo (ciph (p ⊕ c)) ps (chained_block c p hc all.0) all.1)

  redo : (c : List ℕ) (xs : List (List ℕ)) → Block c → AllBlocks xs
      → outputs (chained ciph) (chained ciph) c (outputs (unchained inv) itself c xs) ≡ xs
  unfolding outputs
  redo c [] hc all = refl
  redo c (x ∷ xs) hc all =
      let same : ciph (inv x ⊕ c ⊕ c) ≡ x = ap ciph (sum_cancels (inv x) c (i.back.keeps x all.0).long) ∙ i.back.undo x all.0 in
      ap₂ (λ (y : List ℕ) (ys : List (List ℕ)). y ∷ ys) same
      (ap (λ (y : List ℕ). outputs (chained ciph) (chained ciph) y (outputs (unchained inv) itself x xs)) same ∙ redo x xs all.0 all.1)

  module _ (n : ℕ) (iv text : List ℕ) (hiv : Block iv) (t : Text n text) where
    pub encrypted_text : Text n (cbc_encrypt ciph iv text)
    unfolding cbc_encrypt
    encrypted_text = outputs_text (chained ciph) (chained ciph) chained_block chained_block n iv text hiv t

    pub decrypted_text : Text n (cbc_decrypt inv iv text)
    unfolding cbc_decrypt
    decrypted_text = outputs_text (unchained inv) itself unchained_block itself_block n iv text hiv t

    pub decrypt_encrypt : cbc_decrypt inv iv (cbc_encrypt ciph iv text) ≡ text
    unfolding cbc_encrypt cbc_decrypt
    decrypt_encrypt =
        let cs : List (List ℕ) = outputs (chained ciph) (chained ciph) iv (blocks text) in
        let all = text_blocks n text t in
        ap (λ (b : List (List ℕ)). flatten (outputs (unchained inv) itself iv b))
        (flatten_blocks cs (all_outputs (chained ciph) (chained ciph) chained_block chained_block iv (blocks text) hiv all))
        ∙ ap flatten (undo iv (blocks text) hiv all)
        ∙ text_flatten n text t.long

    pub encrypt_decrypt : cbc_encrypt ciph iv (cbc_decrypt inv iv text) ≡ text
    unfolding cbc_encrypt cbc_decrypt
    encrypt_decrypt =
        let ps : List (List ℕ) = outputs (unchained inv) itself iv (blocks text) in
        let all = text_blocks n text t in
        ap (λ (b : List (List ℕ)). flatten (outputs (chained ciph) (chained ciph) iv b))
        (flatten_blocks ps (all_outputs (unchained inv) itself unchained_block itself_block iv (blocks text) hiv all))
        ∙ ap flatten (redo iv (blocks text) hiv all)
        ∙ text_flatten n text t.long

-- ---- of AES, under every key
module _ (key iv text : List ℕ) (n : ℕ) (hk : Block key) (hiv : Block iv) (t : Text n text) where
  pub cbc_deciphers : cbc_decrypt (inv_cipher key) iv (cbc_encrypt (cipher key) iv text) ≡ text
  cbc_deciphers = decrypt_encrypt (cipher key) (inv_cipher key) (inverses key hk) n iv text hiv t

  pub cbc_enciphers : cbc_encrypt (cipher key) iv (cbc_decrypt (inv_cipher key) iv text) ≡ text
  cbc_enciphers = encrypt_decrypt (cipher key) (inv_cipher key) (inverses key hk) n iv text hiv t

  -- texts of as many blocks, so of equal length
  pub cbc_encrypted : Text n (cbc_encrypt (cipher key) iv text)
  cbc_encrypted = encrypted_text (cipher key) (inv_cipher key) (inverses key hk) n iv text hiv t

  pub cbc_decrypted : Text n (cbc_decrypt (inv_cipher key) iv text)
  cbc_decrypted = decrypted_text (cipher key) (inv_cipher key) (inverses key hk) n iv text hiv t

-- the last state of encryption is the last block of the ciphertext
pub cbc_last : (key iv text : List ℕ) (m : ℕ) → Block key → Block iv → Text (suc m) text
    → foldl (chained (cipher key)) iv (blocks text) ≡ drop (16 * m) (cbc_encrypt (cipher key) iv text)
unfolding cbc_encrypt
cbc_last key iv text m hk hiv t =
    last_output (chained (cipher key)) (chained_block (cipher key) (inv_cipher key) (inverses key hk)) m iv text hiv t

-- and that of decryption is the last block of what is deciphered
pub cbc_last_input : (iv text : List ℕ) (m : ℕ) → length text ≡ 16 * suc m → foldl itself iv (blocks text) ≡ drop (16 * m) text
cbc_last_input iv text zero h = ap (foldl itself iv) (blocks_one text h)
cbc_last_input iv text (suc m) h =
    let past : 16 * suc m ≡ 16 + 16 * m = omega arith in
    ap (foldl itself iv) (blocks_more text (omega arith))
    ∙ cbc_last_input (take 16 text) (drop 16 text) m (length-drop 16 text ∙ omega arith)
    ∙ drop-drop (16 * m) 16 text
    ∙ sym (ap (λ (k : ℕ). drop k text) past)
