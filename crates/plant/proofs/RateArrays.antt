-- Arrays with the rate of each variable.
use mathlib.Core.Path.{◌≡◌, refl, sym, ap, ◌∙◌}
use mathlib.Core.Bool.{Bool, true, false}
use mathlib.Core.List.{List, ◌∷◌}
use Prim.Native.Nat.{ℕ, ◌<◌}
use native.Mathlib.Omega.{arith}
use borrow.Author.Tests.{eqb-true, eqb-false}
use lib.Dec.{eqb}
use lib.IntN.{ℤ, pos}
use lib.ListN.{length, get_or, set, length-set}
use lib.Seq.{get_or-set_same, get_or-set_other}
use Rattle.semantics.specs.Sections.{Rate}
use Rattle.semantics.specs.Plant.{rate_among}
use Rattle.plant.specs.Equations.{rates_from}
use Rattle.plant.proofs.ByVariable.{each-length, each_at, each-is, each_same}

pub rates-length : (rs : List Rate) (v n : ℕ) → length (rates_from rs v n) ≡ n
rates-length rs = each-length (rate_among rs)

pub rate-at : (rs : List Rate) (n v : ℕ) → v < n → get_or (rates_from rs 0 n) v (pos 0) ≡ rate_among rs v
rate-at rs = each_at (rate_among rs) (pos 0)

pub rates-are : (rs : List Rate) (zs : List ℤ) → ((v : ℕ) → v < length zs → get_or zs v (pos 0) ≡ rate_among rs v) → zs ≡ rates_from rs 0 (length zs)
rates-are rs = each-is (rate_among rs) (pos 0)

-- one rate more
pub rate-put : (r : Rate) (rs : List Rate) (n : ℕ) → set (rates_from rs 0 n) r.driven r.rate ≡ rates_from (r ∷ rs) 0 n
unfolding rate_among
rate-put r rs n =
    let k = length-set (rates_from rs 0 n) r.driven r.rate ∙ rates-length rs 0 n in
    rates-are (r ∷ rs) (set (rates_from rs 0 n) r.driven r.rate) (λ v i. go v (omega (arith, k)) (eqb r.driven v) refl) ∙ ap (rates_from (r ∷ rs) 0) k
  where
    go : (v : ℕ) → v < n → (b : Bool) → eqb r.driven v ≡ b → get_or (set (rates_from rs 0 n) r.driven r.rate) v (pos 0) ≡ elim b [ true ↦ r.rate | false ↦ rate_among rs v ]
    go v i true q = ap (λ (j : ℕ). get_or (set (rates_from rs 0 n) j r.rate) v (pos 0)) (eqb-true r.driven v q) ∙ get_or-set_same (rates_from rs 0 n) v r.rate (pos 0) (omega (arith, rates-length rs 0 n))
    go v i false q = get_or-set_other (rates_from rs 0 n) r.driven v r.rate (pos 0) (λ x. eqb-false r.driven v q (sym x)) ∙ rate-at rs n v i

-- lists that give each variable the same rate
pub rates-same : (rs qs : List Rate) → ((v : ℕ) → rate_among rs v ≡ rate_among qs v) → (v n : ℕ) → rates_from rs v n ≡ rates_from qs v n
rates-same rs qs = each_same (rate_among rs) (rate_among qs)
