-- Building is one-to-one, and opening undoes it: M3 is right and the filler is zero exactly where some counter, flags and key
-- build these very messages, and then they are those handed back. Deciphering undoes enciphering both ways (`cbc_deciphers`,
-- `cbc_enciphers`), so M2 and its clear text determine each other; with the first block's laws that is `opens_exactly`, and
-- that building is one-to-one.
-- Assumes nothing.
use mathlib.Core.Path.{◌≡◌, refl, sym, ap, ap₂, ◌∙◌, subst}
use mathlib.Core.Bool.{Bool, true, false, cond, ◌&&◌, false≢true}
use mathlib.Core.List.{List, [], ◌∷◌, ◌++◌}
use mathlib.Core.Logic.{◌↔◌}
use Prim.Native.Nat.{ℕ, ◌+◌, ◌*◌, ◌/◌, ◌%◌, ◌^◌, ◌≤◌, ◌<◌}
use native.Mathlib.Omega.{arith}
use borrow.Author.Tests.{eqb-true}
use lib.ListN.{length, take, drop, length-append, take-append-drop, drop_of_length-le}
use lib.Seq.{take_at, drop_at, get_or_at, split_at}
use Rattle.laws.specs.Lengths.{right_lengths}
use Rattle.laws.specs.Same.{same}
use Rattle.laws.proofs.Same.{same_equal, equal_same}
use Rattle.laws.proofs.Test.{both}
use Rattle.aes.specs.Cipher.{cipher}
use Rattle.aes.specs.State.{byte, Block}
use Rattle.aes.proofs.Bytes.{append_bytes, zero_block_lem}
use Rattle.aes.proofs.RoundTrip.{cipher_block}
use Rattle.modes.specs.Blocks.{zero_block, Text}
use Rattle.modes.specs.Cbc.{cbc_encrypt}
use Rattle.modes.specs.Constants.{constant_of}
use Rattle.modes.specs.declared.Constant.TheVariants.{KeyUpdateEnc, KeyUpdateMac}
use Rattle.modes.proofs.Cbc.{cbc_deciphers, cbc_enciphers, cbc_encrypted, cbc_decrypted}
use Rattle.modes.proofs.Compression.{kdf_block, constant_block}
use Rattle.modes.proofs.MacSteps.{mac_block}
use Rattle.modes.proofs.Texts.{first, rest}
use Rattle.message.specs.Building.{uid_of, target_of, authority_of, Carried}
use Rattle.message.specs.FirstBlock.{first_block, counter_of, flags_of, filler_of}
use Rattle.message.specs.Messages.{enc_key, mac_key, m1, m2, m3, m4, m5, Sent, sent, build}
use Rattle.message.specs.Opening.{Opened, open_lengths, clear_text, opened_text, unopened, opened}
use Rattle.message.proofs.Opening.{opened_by_m3}
use Rattle.message.proofs.FirstBlock.{first_block_lem, counter_packed, flags_packed, filler_packed, counter_read, flags_read, packs_back}

-- ---- M1 is its parts, and determines them
pub m1_long : (uid : List ℕ) (t a : ℕ) → length uid ≡ 15 → length (m1 uid t a) ≡ 16
unfolding m1
m1_long uid t a long = length-append uid _ ∙ ap (λ (k : ℕ). k + 1) long

pub m1_parts : (first : List ℕ) → length first ≡ 16 → first ≡ m1 (uid_of first) (target_of first) (authority_of first)
unfolding m1
m1_parts first long =
    let whole : byte first 15 ≡ 16 * (byte first 15 / 16) + byte first 15 % 16 = omega arith in
    split_at first 15 0 (omega arith) ∙ ap₂ (λ (b : ℕ) (l : List ℕ). take 15 first ++ (b ∷ l)) whole (none first long)
  where
    none : (first : List ℕ) → length first ≡ 16 → drop 16 first ≡ []
    none first long = let short : length first ≤ 16 = omega arith in drop_of_length-le first short

module _ (uid : List ℕ) (t a : ℕ) (long : length uid ≡ 15) (small : a < 16) where
  pub uid_of_m1 : uid_of (m1 uid t a) ≡ uid
  unfolding m1
  uid_of_m1 = take_at uid _ 15 long

  slots_of_m1 : byte (m1 uid t a) 15 ≡ 16 * t + a
  unfolding m1
  slots_of_m1 = get_or_at uid _ [] 0 15 long

  pub target_of_m1 : target_of (m1 uid t a) ≡ t
  target_of_m1 = ap (λ (b : ℕ). b / 16) slots_of_m1 ∙ omega arith

  pub authority_of_m1 : authority_of (m1 uid t a) ≡ a
  authority_of_m1 = ap (λ (b : ℕ). b % 16) slots_of_m1 ∙ omega arith

-- ---- M2: deciphering undoes building, and building undoes deciphering where the filler is zero
module _ (auth_key : List ℕ) (hs : Block auth_key) where
  k1_block : Block (enc_key auth_key)
  k1_block = kdf_block auth_key (constant_of KeyUpdateEnc) hs (constant_block KeyUpdateEnc)

  built_clear : (n c f : ℕ) (key : List ℕ) → Block key → Text 2 (first_block n c f ++ key)
  built_clear n c f key hk =
      let block = first_block_lem n c f in
      record {
        long = length-append (first_block n c f) key ∙ ap₂ (λ (m k : ℕ). m + k) block.long hk.long;
        small = append_bytes (first_block n c f) key block.small hk.small;
      }

  pub m2_text : (n c f : ℕ) (key : List ℕ) → Block key → Text 2 (m2 n auth_key c f key)
  unfolding m2
  m2_text n c f key hk = cbc_encrypted (enc_key auth_key) zero_block (first_block n c f ++ key) 2 k1_block zero_block_lem (built_clear n c f key hk)

  pub m3_block : (one two : List ℕ) → Block (m3 auth_key one two)
  unfolding m3
  m3_block one two = mac_block (mac_key auth_key) 384 (one ++ two) (kdf_block auth_key (constant_of KeyUpdateMac) hs (constant_block KeyUpdateMac))

  pub clear_of_m2 : (n c f : ℕ) (key : List ℕ) → Block key → clear_text auth_key (m2 n auth_key c f key) ≡ first_block n c f ++ key
  unfolding m2 clear_text
  clear_of_m2 n c f key hk = cbc_deciphers (enc_key auth_key) zero_block (first_block n c f ++ key) 2 k1_block zero_block_lem (built_clear n c f key hk)

  module _ (second : List ℕ) (h2 : Text 2 second) where
    clear_text_lem : Text 2 (clear_text auth_key second)
    unfolding clear_text
    clear_text_lem = cbc_decrypted (enc_key auth_key) zero_block second 2 k1_block zero_block_lem h2

    first_clear : Block (take 16 (clear_text auth_key second))
    first_clear = first 1 (clear_text auth_key second) clear_text_lem

    pub m2_of_clear : (n : ℕ) → n ≤ 100 → filler_of n (take 16 (clear_text auth_key second)) ≡ 0
        → m2 n auth_key (counter_of (take 16 (clear_text auth_key second))) (flags_of n (take 16 (clear_text auth_key second))) (drop 16 (clear_text auth_key second)) ≡ second
    unfolding m2 clear_text
    m2_of_clear n few zeros =
        let clear : List ℕ = clear_text auth_key second in
        ap (cbc_encrypt (cipher (enc_key auth_key)) zero_block)
        (ap (λ (b : List ℕ). b ++ drop 16 clear) (packs_back n few (take 16 clear) first_clear zeros) ∙ take-append-drop 16 clear)
        ∙ cbc_enciphers (enc_key auth_key) zero_block second 2 k1_block zero_block_lem h2

-- ---- opening
opened_only : (passed : Bool) (o : Opened) → (cond passed o unopened).genuine ≡ true → passed ≡ true
opened_only true o e = refl
opened_only false o e = absurd (false≢true e)

read : (n : ℕ) → n ≤ 100 → (c f : ℕ) (key : List ℕ) → c < 2 ^ 28 → f < 2 ^ n
    → opened_text n (first_block n c f ++ key) ≡ record { genuine = true; counter = c; flags = f; zerofill = true; key = key }
unfolding opened_text
read n few c f key hc hf =
    let block = first_block_lem n c f in
    let front = take_at (first_block n c f) key 16 block.long in
    let back = drop_at (first_block n c f) key 16 block.long in
    rw (front, back, counter_packed n few c f hc hf, flags_packed n few c f hc hf, filler_packed n few c f hc hf)

module _ (n : ℕ) (few : n ≤ 100) (auth_key one two three : List ℕ) (hs : Block auth_key) (h1 : length one ≡ 16) (h2 : Text 2 two) (h3 : length three ≡ 16) where
  lengths : right_lengths (open_lengths (length auth_key) (length one) (length two) (length three)) ≡ true
  unfolding right_lengths
  lengths = rw (hs.long, h1, h2.long, h3)

  -- where M3 is the MAC of M1 and M2 it is opened, and nowhere else
  opened_text_lem : three ≡ m3 auth_key one two → opened n auth_key one two three ≡ opened_text n (clear_text auth_key two)
  opened_text_lem e = sym (opened_by_m3 n auth_key one two three lengths (same_equal three (m3 auth_key one two) e))

  genuine_m3 : (opened n auth_key one two three).genuine ≡ true → three ≡ m3 auth_key one two
  unfolding opened
  genuine_m3 e =
      let passed = opened_only (right_lengths (open_lengths (length auth_key) (length one) (length two) (length three)) && same three (m3 auth_key one two)) (opened_text n (clear_text auth_key two)) e in
      equal_same three (m3 auth_key one two) (both (right_lengths (open_lengths (length auth_key) (length one) (length two) (length three))) (same three (m3 auth_key one two)) passed).1

  -- these parts build these very messages, for whom M1 names
  abbrev pub Builds : ℕ → ℕ → List ℕ → Type 0
  Builds c f key = build n (uid_of one) (target_of one) (authority_of one) auth_key c f key ≡ sent one two three

  -- ---- right M3 and zero filler: what is handed back builds these messages
  of_text : three ≡ m3 auth_key one two → (opened_text n (clear_text auth_key two)).zerofill ≡ true
      → Carried n (opened_text n (clear_text auth_key two)).counter (opened_text n (clear_text auth_key two)).flags (opened_text n (clear_text auth_key two)).key
      × Builds (opened_text n (clear_text auth_key two)).counter (opened_text n (clear_text auth_key two)).flags (opened_text n (clear_text auth_key two)).key
  unfolding opened_text
  of_text e3 zeros =
      let clear : List ℕ = clear_text auth_key two in
      let block = first_clear auth_key hs two h2 in
      let last = rest 1 clear (clear_text_lem auth_key hs two h2) in
      let e1 = sym (m1_parts one h1) in
      let e2 = m2_of_clear auth_key hs two h2 n few (eqb-true (filler_of n (take 16 clear)) 0 zeros) in (
        record {
          counter_fits = omega (arith, counter_read n few (take 16 clear) block);
          flags_fit = flags_read n few (take 16 clear) block;
          key_fits = record { long = last.long; small = last.small };
        },
        ap₂ (λ (x y : List ℕ). sent x y (m3 auth_key x y)) e1 e2 ∙ ap (sent one two) (sym e3),
      )

  pub opens : (opened n auth_key one two three).genuine ≡ true → (opened n auth_key one two three).zerofill ≡ true
      → Carried n (opened n auth_key one two three).counter (opened n auth_key one two three).flags (opened n auth_key one two three).key
      × Builds (opened n auth_key one two three).counter (opened n auth_key one two three).flags (opened n auth_key one two three).key
  opens genuine zeros =
      let e3 = genuine_m3 genuine in
      let text = opened_text_lem e3 in
      subst (λ (o : Opened). Carried n o.counter o.flags o.key × Builds o.counter o.flags o.key) (sym text)
      (of_text e3 (sym (ap (λ (o : Opened). o.zerofill) text) ∙ zeros))

  -- ---- messages that some parts build: M3 is right, the filler is zero, and these parts are handed back
  pub handed_back : (c f : ℕ) (key : List ℕ) → Carried n c f key → Builds c f key
      → opened n auth_key one two three ≡ record { genuine = true; counter = c; flags = f; zerofill = true; key = key }
  handed_back c f key carried b =
      let e1 = ap (λ (s : Sent). s.m1) b in
      let e2 = ap (λ (s : Sent). s.m2) b in
      let e3 = sym (ap (λ (s : Sent). s.m3) b) ∙ ap₂ (m3 auth_key) e1 e2 in
      let clear = ap (clear_text auth_key) (sym e2) ∙ clear_of_m2 auth_key hs n c f key carried.key_fits in
      opened_text_lem e3 ∙ ap (opened_text n) clear ∙ read n few c f key (omega (arith, carried.counter_fits)) carried.flags_fit

  pub opens_exactly : (((opened n auth_key one two three).genuine ≡ true) × ((opened n auth_key one two three).zerofill ≡ true))
      ↔ ((c : ℕ) × (f : ℕ) × (key : List ℕ) × Carried n c f key × Builds c f key)
  opens_exactly = (
    λ h. let o = opens h.0 h.1 in
        ((opened n auth_key one two three).counter, (opened n auth_key one two three).flags, (opened n auth_key one two three).key, o.0, o.1),
    λ some. let back = handed_back some.0 some.1 some.2 some.3 some.4 in (ap (λ (o : Opened). o.genuine) back, ap (λ (o : Opened). o.zerofill) back),
  )

  pub parts_unique : (c f c' f' : ℕ) (key key' : List ℕ) → Carried n c f key → Carried n c' f' key' → Builds c f key → Builds c' f' key'
      → (c ≡ c') × (f ≡ f') × (key ≡ key')
  parts_unique c f c' f' key key' h h' b b' =
      let same = sym (handed_back c f key h b) ∙ handed_back c' f' key' h' b' in
      (ap (λ (o : Opened). o.counter) same, ap (λ (o : Opened). o.flags) same, ap (λ (o : Opened). o.key) same)

-- ---- building is one-to-one: M1 determines whom it names, and under one key of the authority M2 determines what it carries
m1_determines : (uid uid' : List ℕ) (t a t' a' : ℕ) → length uid ≡ 15 → length uid' ≡ 15 → a < 16 → a' < 16 → m1 uid t a ≡ m1 uid' t' a'
    → (uid ≡ uid') × (t ≡ t') × (a ≡ a')
m1_determines uid uid' t a t' a' long long' small small' e = (
  sym (uid_of_m1 uid t a long small) ∙ ap uid_of e ∙ uid_of_m1 uid' t' a' long' small',
  sym (target_of_m1 uid t a long small) ∙ ap target_of e ∙ target_of_m1 uid' t' a' long' small',
  sym (authority_of_m1 uid t a long small) ∙ ap authority_of e ∙ authority_of_m1 uid' t' a' long' small',
)

m2_determines : (n : ℕ) → n ≤ 100 → (auth_key key key' : List ℕ) (c f c' f' : ℕ) → Block auth_key → Carried n c f key → Carried n c' f' key'
    → m2 n auth_key c f key ≡ m2 n auth_key c' f' key' → (c ≡ c') × (f ≡ f') × (key ≡ key')
m2_determines n few auth_key key key' c f c' f' hs h h' e =
    let clear = sym (clear_of_m2 auth_key hs n c f key h.key_fits) ∙ ap (clear_text auth_key) e ∙ clear_of_m2 auth_key hs n c' f' key' h'.key_fits in
    let front = read n few c f key (omega (arith, h.counter_fits)) h.flags_fit in
    let back = read n few c' f' key' (omega (arith, h'.counter_fits)) h'.flags_fit in
    let same = sym front ∙ ap (opened_text n) clear ∙ back in
    (ap (λ (o : Opened). o.counter) same, ap (λ (o : Opened). o.flags) same, ap (λ (o : Opened). o.key) same)

pub one_to_one : (n : ℕ) → n ≤ 100 → (auth_key uid uid' key key' : List ℕ) (t a c f t' a' c' f' : ℕ) → Block auth_key → length uid ≡ 15 → length uid' ≡ 15
    → a < 16 → a' < 16 → Carried n c f key → Carried n c' f' key' → build n uid t a auth_key c f key ≡ build n uid' t' a' auth_key c' f' key'
    → (uid ≡ uid') × (t ≡ t') × (a ≡ a') × (c ≡ c') × (f ≡ f') × (key ≡ key')
one_to_one n few auth_key uid uid' key key' t a c f t' a' c' f' hs long long' small small' h h' e =
    let named = m1_determines uid uid' t a t' a' long long' small small' (ap (λ (s : Sent). s.m1) e) in
    let carried = m2_determines n few auth_key key key' c f c' f' hs h h' (ap (λ (s : Sent). s.m2) e) in
    (named.0, named.1, named.2, carried.0, carried.1, carried.2)

-- ---- the device's proof: as many bytes as it must have
pub m4_long : (uid key : List ℕ) (t a c : ℕ) → length uid ≡ 15 → Block key → length (m4 uid t a c key) ≡ 32
unfolding m4
m4_long uid key t a c long hk =
    length-append (m1 uid t a) _ ∙ ap₂ (λ (m k : ℕ). m + k) (m1_long uid t a long) (cipher_block (enc_key key) _ (k1_block key hk)).long

pub m5_long : (key four : List ℕ) → Block key → length (m5 key four) ≡ 16
unfolding m5
m5_long key four hk = (mac_block (mac_key key) 256 four (kdf_block key (constant_of KeyUpdateMac) hk (constant_block KeyUpdateMac))).long
