-- The two outcomes of opening.
-- Assumes nothing.
use mathlib.Core.Path.{◌≡◌, refl, sym, ap₂}
use mathlib.Core.Bool.{Bool, true, false, cond, ◌&&◌}
use mathlib.Core.List.{List}
use Prim.Native.Nat.{ℕ}
use lib.ListN.{length}
use Rattle.laws.specs.Lengths.{right_lengths}
use Rattle.laws.specs.Same.{same}
use Rattle.message.specs.Messages.{m3}
use Rattle.message.specs.Opening.{open_lengths, clear_text, opened_text, unopened, opened}

module _ (n : ℕ) (auth_key one two three : List ℕ) where
  abbrev Lengths : Bool
  Lengths = right_lengths (open_lengths (length auth_key) (length one) (length two) (length three))

  by_tests : (lengths mac : Bool) → Lengths ≡ lengths → same three (m3 auth_key one two) ≡ mac
      → cond (lengths && mac) (opened_text n (clear_text auth_key two)) unopened ≡ opened n auth_key one two three
  unfolding opened
  by_tests lengths mac hl hm = sym (ap₂ (λ (l m : Bool). cond (l && m) (opened_text n (clear_text auth_key two)) unopened) hl hm)

  pub closed_by_lengths : Lengths ≡ false → unopened ≡ opened n auth_key one two three
  closed_by_lengths h = by_tests false (same three (m3 auth_key one two)) h refl

  pub closed_by_m3 : Lengths ≡ true → same three (m3 auth_key one two) ≡ false → unopened ≡ opened n auth_key one two three
  closed_by_m3 h m = by_tests true false h m

  pub opened_by_m3 : Lengths ≡ true → same three (m3 auth_key one two) ≡ true → opened_text n (clear_text auth_key two) ≡ opened n auth_key one two three
  opened_by_m3 h m = by_tests true true h m

pub ruleset stays_closed = (closed_by_lengths, closed_by_m3)
