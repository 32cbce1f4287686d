-- A promise by equation settles its outcome: two that meet it are equal. Where a promise has several parts, the crate that it
-- belongs to says so part by part, in its own `Settled.antt`.
-- Assumes nothing.
use mathlib.Core.Path.{◌≡◌, sym, ◌∙◌}

pub settled {ℓ} : {A : Type ℓ} {x y promised : A} → x ≡ promised → y ≡ promised → x ≡ y
settled p q = p ∙ sym q
