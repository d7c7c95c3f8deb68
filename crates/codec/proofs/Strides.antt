-- A loop over pieces of equal length goes by the place of the next one: no place is a product.
use mathlib.Core.Path.{◌≡◌, ap, ◌∙◌}
use Prim.Native.Nat.{ℕ, suc, ◌+◌, ◌-◌, ◌*◌, ◌/◌, ◌≤◌, ◌<◌}
use native.Mathlib.Nat.{suc-mul, div-mul-le_self}
use native.Mathlib.Omega.{arith}
use Rattle.codec.specs.Strides.{Ahead}

-- as many as are whole
pub ahead-whole : (w e : ℕ) → Ahead w (e / w) 0 e
ahead-whole w e = record { inside = omega (arith, div-mul-le_self e w) }

module _ {w n k p e : ℕ} (h : k < n) (a : Ahead w (n - k) p e) where
  one_less : (n - k) * w ≡ (n - (k + 1)) * w + w
  one_less = let q : n - k ≡ suc (n - (k + 1)) = omega arith in ap (λ m. m * w) q ∙ suc-mul (n - (k + 1)) w

  -- the next one
  pub ahead-here : p + w ≤ e
  ahead-here = omega (arith, a.inside, one_less)

  -- those behind it
  pub ahead-next : Ahead w (n - (k + 1)) (p + w) e
  ahead-next = record { inside = omega (arith, a.inside, one_less) }
