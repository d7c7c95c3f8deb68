-- What the answer about a variable section says of its variables.
use mathlib.Core.Path.{◌≡◌, ap}
use mathlib.Core.List.{List, map}
use mathlib.Core.Option.{some}
use Prim.Native.Nat.{ℕ, ◌≤◌}
use native.Mathlib.Omega.{arith}
use lib.IntN.{ℤ, pos}
use lib.ListN.{length, get_or, get_elem?, take, length-map}
use Rattle.semantics.specs.Editions.{Edition}
use Rattle.semantics.specs.Sections.{Variable}
use Rattle.semantics.proofs.PlantPassed.{VariablesPassed}
use Rattle.codec.proofs.Padding.{pad-long, take-pad, pad-map-some}
use Rattle.plant.specs.Variables.{column, accepted_variables}
use Rattle.plant.specs.declared.variables.Variables.{Variables}
use Rattle.plant.proofs.VariableSection.{sized_of, length-is}

-- ---- the numbers
pub column-at : (f : Variable → ℤ) (vs : List Variable) (k : ℕ) {x : Variable} → get_elem? vs k ≡ some x → get_or (column f vs) k (pos 0) ≡ f x
unfolding column
column-at f vs k h = pad-map-some 32 (pos 0) f vs k h

pub column-long : (f : Variable → ℤ) (vs : List Variable) → 32 ≤ length (column f vs)
unfolding column
column-long f vs = pad-long 32 (pos 0) (map f vs)

-- the numbers themselves, cut from the array
pub column-front : (f : Variable → ℤ) (vs : List Variable) → take (length vs) (column f vs) ≡ map f vs
unfolding column
column-front f vs = take-pad 32 (pos 0) (map f vs) (length vs) (length-map vs f)

-- ---- how many
module _ (ed : Edition) (s : List ℕ) {vs : List Variable} (a : VariablesPassed ed s vs) where
  pub count_low : 1 ≤ length vs
  count_low = omega (arith, length-is ed s a.is, (sized_of ed s a.is).low)

  pub count-high : length vs ≤ 32
  count-high = omega (arith, length-is ed s a.is, (sized_of ed s a.is).high)

-- ---- the fields
module _ (vs : List Variable) {v : Variables} (e : v ≡ accepted_variables vs) where
  pub count_of : v.count ≡ length vs
  unfolding accepted_variables
  count_of = ap (λ (v : Variables). v.count) e

  pub initials-of : v.initials ≡ column (λ (v : Variable). v.initial) vs
  unfolding accepted_variables
  initials-of = ap (λ (v : Variables). v.initials) e
