-- A built message that loads, on any machine that meets the first and the third demand: the rules hold, and the machine leaves what
-- the message carries. The third demand hands back some parts that build it; as building is one-to-one, they are these.
-- Assumes nothing.
use mathlib.Core.Path.{◌≡◌, refl, subst}
use mathlib.Core.Bool.{Bool, true, false}
use mathlib.Core.List.{List}
use Prim.Native.Nat.{ℕ, ◌<◌}
use native.Mathlib.Omega.{arith}
use lib.ListN.{length}
use Rattle.laws.specs.Lengths.{right_lengths}
use Rattle.laws.proofs.Lengths.{each_right}
use Rattle.basics.specs.Answers.{no_error}
use Rattle.message.specs.Building.{uid_of, target_of, authority_of, Carried}
use Rattle.message.specs.Flags.{flag_count}
use Rattle.message.specs.Messages.{m1, Sent, build}
use Rattle.message.specs.Slots.{allowed}
use Rattle.message.proofs.Building.{uid_of_m1, target_of_m1, authority_of_m1, m2_text, one_to_one}
use Rattle.message.proofs.Slots.{pair_slots}
use Rattle.device.specs.Made.{Sound}
use Rattle.device.specs.declared.Device.{Device}
use Rattle.load.specs.Load as loading
use Rattle.load.specs.Load.{five_lengths, key_loaded}
use Rattle.load.specs.Rules.{authority_key}
use Rattle.load.proofs.Effects.{authority_block}
use Rattle.demands.specs.Calls.{Machine, load_key}
use Rattle.demands.specs.Demand1.{Demand1}
use Rattle.demands.specs.Demand3.{Rules, Demand3}
use Rattle.demands.proofs.Lives.{built_loads}

-- what is said of whom M1 names is said of whom it was built for
of_the_same : (P : List ℕ → ℕ → ℕ → Type 0) {u v : List ℕ} {x y i j : ℕ} → u ≡ v → x ≡ y → i ≡ j → P u x i → P v y j
of_the_same P {u = u} {v = v} {x = x} {y = y} {i = i} e f g p =
    subst (λ (k : ℕ). P v y k) g (subst (λ (s : ℕ). P v s i) f (subst (λ (w : List ℕ). P w x i) e p))

module _ (machine : Machine) (first : Demand1 flag_count machine) (third : Demand3 flag_count machine) (d : Device) (sound : Sound d)
    (uid key : List ℕ) (t a c f : ℕ) (long : length uid ≡ 15) (carried : Carried flag_count c f key) (pair : allowed t a ≡ true) where
  abbrev made : Sent
  made = build flag_count uid t a (authority_key d a) c f key

  few : a < 16
  few = omega (arith, (pair_slots t a pair).2)

  named : (uid_of (m1 uid t a) ≡ uid) × (target_of (m1 uid t a) ≡ t) × (authority_of (m1 uid t a) ≡ a)
  named = (uid_of_m1 uid t a long few, target_of_m1 uid t a long few, authority_of_m1 uid t a long few)

  module _ (b4 b5 : List ℕ) (success : (machine d (load_key made.m1 made.m2 made.m3 b4 b5)).answer ≡ no_error) where
    abbrev five : List (ℕ × ℕ)
    five = five_lengths (length made.m1) (length made.m2) (length made.m3) (length b4) (length b5)

    right : right_lengths five ≡ true
    unfolding loading.load_key
    right = tests (right_lengths five) refl
      where
        not_both : (n : ℕ) → n ≡ 0 → n ≡ 12 → ⊥
        not_both n p q = omega (arith, p, q)

        tests : (x : Bool) → right_lengths five ≡ x → x ≡ true
        tests true e = refl
        tests false e = absurd (not_both _ success (first.wrong_length d (load_key made.m1 made.m2 made.m3 b4 b5) e))

    told : Rules d uid t a c
    told =
        let block = authority_block d a sound.0 in
        let second = m2_text (authority_key d a) block flag_count c f key carried.key_fits in
        let found = (third.loading d made.m1 made.m2 made.m3 b4 b5 sound second.small right).exactly_when.0 success in
        let some = found.3 in
        let same = of_the_same (λ (u : List ℕ) (x y : ℕ). build flag_count u x y (authority_key d y) found.0 found.1 found.2 ≡ made)
        named.0 named.1 named.2 some.built in
        let so = of_the_same (λ (u : List ℕ) (x y : ℕ). Rules d u x y found.0) named.0 named.1 named.2 some.rules in
        let unique = one_to_one flag_count (omega arith) (authority_key d a) uid uid found.2 key t a found.0 found.1 t a c f block long long few few
        some.carried carried same in
        subst (λ (n : ℕ). Rules d uid t a n) unique.3 so

    -- the rules held, and the machine leaves what the message carries
    pub built_taken : machine d (load_key made.m1 made.m2 made.m3 b4 b5) ≡ key_loaded d t a c f key
    built_taken =
        let l = each_right five right in
        built_loads flag_count machine third d sound uid key t a c f long carried told b4 b5 (l 3) (l 4)
