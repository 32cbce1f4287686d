-- The third demand's first sentence holds of the device: a load succeeds exactly when there is something that builds its
-- messages and the rules hold, and then it leaves that. From an answer of 0 the two parts of the checks give the rules, and
-- `opens` the parts that build the messages; from such parts `handed_back` says what is opened, and no check finds fault.
-- `puts_one` says what changes.
-- Assumes nothing.
use mathlib.Core.Path.{◌≡◌, refl, sym, ap, ◌∙◌, subst}
use mathlib.Core.Bool.{Bool, true, false, not, ◌&&◌, false≢true}
use mathlib.Core.List.{List}
use Prim.Native.Nat.{ℕ, ◌≤◌}
use borrow.Author.Tests.{eqb-true, eq-eqb, not-false}
use lib.Dec.{eqb}
use lib.ListN.{length}
use Rattle.laws.specs.Lengths.{right_lengths}
use Rattle.laws.proofs.Lengths.{each_right}
use Rattle.aes.specs.State.{Bytes, Block}
use Rattle.basics.specs.Answers.{no_error}
use Rattle.modes.specs.Blocks.{Text}
use Rattle.message.specs.Building.{target_of, authority_of}
use Rattle.message.specs.Opening.{Opened}
use Rattle.message.proofs.Building.{handed_back, parts_unique}
use Rattle.message.proofs.Slots.{pair_slots}
use Rattle.device.specs.Account.{answer_by}
use Rattle.device.specs.Made.{Sound}
use Rattle.device.specs.Outcome.{Outcome}
use Rattle.device.specs.Record.{is_empty}
use Rattle.device.specs.declared.Device.{Device}
use Rattle.load.specs.Load as loading
use Rattle.load.specs.Load.{five_lengths, opened_by, key_loaded}
use Rattle.load.specs.Rules.{authority_key, as_kept, loaded}
use Rattle.load.proofs.Effects.{authority_block, succeeded, loaded_there, loaded_elsewhere, loaded_beside}
use Rattle.demands.specs.Calls.{load_key, step}
use Rattle.demands.specs.Demand3.{Loads, OnlyTarget, LoadsExactly}
use Rattle.demands.proofs.Steps.{found, answer_found, step_done}

-- ---- a load puts one slot and nothing else
pub puts_one : (d : Device) (sound : Sound d) (t c f : ℕ) (key : List ℕ) → t ≤ 14 → Block key → OnlyTarget d t (as_kept t c f key) (loaded d t c f key)
puts_one d sound t c f key high block = record {
  target_is = loaded_there d sound t c f key high block;
  others_stay = loaded_elsewhere d sound t c f key high block;
  all_else_stays = loaded_beside d sound t c f key high block;
}

-- ---- an authority that is not empty, or the target itself
itself : (empty : Bool) (a t : ℕ) → (empty && not (eqb a t)) ≡ false → empty ≡ true → a ≡ t
itself true a t h e = eqb-true a t (not-false (eqb a t) h)
itself false a t h e = absurd (false≢true e)

not_another : (empty : Bool) (a t : ℕ) → (empty ≡ true → a ≡ t) → (empty && not (eqb a t)) ≡ false
not_another true a t h = ap not (eq-eqb a t (h refl))
not_another false a t h = refl

module _ (n : ℕ) (few : n ≤ 100) (d : Device) (m1 m2 m3 b4 b5 : List ℕ) (sound : Sound d) (small : Bytes m2)
    (long : right_lengths (five_lengths (length m1) (length m2) (length m3) (length b4) (length b5)) ≡ true) where
  abbrev t : ℕ
  t = target_of m1

  abbrev a : ℕ
  a = authority_of m1

  abbrev auth_key : List ℕ
  auth_key = authority_key d (authority_of m1)

  abbrev new : Opened
  new = opened_by n d m1 m2 m3

  hs : Block (authority_key d (authority_of m1))
  hs = authority_block d (authority_of m1) sound.0

  h1 : length m1 ≡ 16
  h1 = each_right _ long 0

  h2 : Text 2 m2
  h2 = record { long = each_right _ long 1; small = small }

  h3 : length m3 ≡ 16
  h3 = each_right _ long 2

  -- ---- an answer of 0
  pub succeeds : (step n d (load_key m1 m2 m3 b4 b5)).answer ≡ no_error → Loads n d m1 m2 m3 new.counter new.flags new.key
  unfolding loading.load_key
  succeeds zero =
      let s = succeeded n few d sound.0 m1 m2 m3 b4 b5 small (sym (answer_found n d (load_key m1 m2 m3 b4 b5)) ∙ zero) in
      record {
        carried = s.carried;
        built = s.built;
        rules = record {
          pair = s.guard.pair;
          writable = s.guard.writable;
          present = itself (is_empty d a) a t s.guard.present;
          unlocked = s.guard.unlocked;
          for_us = s.message.for_us;
          rises = s.message.rises;
        };
      }

  -- ---- parts that build the messages, by the rules
  module _ (c f : ℕ) (key : List ℕ) (good : Loads n d m1 m2 m3 c f key) where
    back : new ≡ record { genuine = true; counter = c; flags = f; zerofill = true; key = key }
    back = handed_back n few auth_key m1 m2 m3 hs h1 h2 h3 c f key good.carried good.built

    no_fault_found : found n d (load_key m1 m2 m3 b4 b5) ≡ 0
    unfolding loading.load_key answer_by
    no_fault_found =
        let r = good.rules in
        let here = not_another (is_empty d a) a t r.present in
        rw (back, sound.1, long, r.pair, r.writable, here, r.unlocked, r.for_us, r.rises) refl

    loaded_so : step n d (load_key m1 m2 m3 b4 b5) ≡ key_loaded d t a c f key
    unfolding loading.load_key
    loaded_so = step_done n d (load_key m1 m2 m3 b4 b5) no_fault_found ∙ rw back refl

    only_one : OnlyTarget d t (as_kept t c f key) (step n d (load_key m1 m2 m3 b4 b5)).device
    only_one =
        subst (λ (o : Outcome). OnlyTarget d t (as_kept t c f key) o.device) (sym loaded_so)
        (puts_one d sound t c f key (pair_slots t a good.rules.pair).1 good.carried.key_fits)

  pub loads_exactly : LoadsExactly n (step n) d m1 m2 m3 b4 b5
  loads_exactly = record {
    exactly_when = (
      λ zero. (new.counter, new.flags, new.key, succeeds zero),
      λ some. ap (λ (o : Outcome). o.answer) (loaded_so some.0 some.1 some.2 some.3),
    );
    no_others = λ c f c' f' key key' h h'.
        parts_unique n few auth_key m1 m2 m3 hs h1 h2 h3 c f c' f' key key' h.carried h'.carried h.built h'.built;
    leaves = loaded_so;
    only_target = only_one;
  }
