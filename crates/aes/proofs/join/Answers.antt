-- `aes::join` meets its contract: each column is its four bytes.
-- Assumes nothing.
use mathlib.Core.List.{List, [], ◌∷◌, ◌++◌}
use mathlib.Core.Path.{◌≡◌, sym, ◌∙◌}
use Prim.Native.Nat.{ℕ}
use borrow.Author.Rules.{rules}
use lib.ListN.{length}
use Rattle.laws.specs.Tabulate.{tabulate}
use Rattle.laws.proofs.Tabulate.{tabulate_own}
use Rattle.aes.specs.State.{byte}
use Rattle.aes.proofs.join.Goals as goal

four : (x : List ℕ) → length x ≡ 4 → x ≡ byte x 0 ∷ byte x 1 ∷ byte x 2 ∷ byte x 3 ∷ []
unfolding tabulate
four x long = sym (tabulate_own 4 x long)

pub returns : goal.returns
returns c = let a = c.args in
    let fa = four a.a (search rules) in
    let fb = four a.b (search rules) in
    let fc = four a.c (search rules) in
    let fd = four a.d (search rules) in
    let whole : c.unwrap.result ≡ a.a ++ (a.b ++ (a.c ++ (a.d ++ []))) = search rules in
    whole ∙ (λ i. fa i ++ (fb i ++ (fc i ++ (fd i ++ []))))
