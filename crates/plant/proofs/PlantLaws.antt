-- What the answer about both sections says of the plant.
use mathlib.Core.Path.{◌≡◌, ap, ◌∙◌}
use mathlib.Core.List.{List, map}
use mathlib.Core.Option.{some}
use Prim.Native.Nat.{ℕ, ◌≤◌}
use lib.IntN.{pos}
use lib.ListN.{length, get_or, get_elem?}
use Rattle.semantics.specs.Editions.{Edition}
use Rattle.semantics.specs.Refusals.{accepted}
use Rattle.semantics.specs.Sections.{Variable}
use Rattle.semantics.specs.Plant.{Plant, selectors, judge_plant}
use Rattle.semantics.proofs.PlantPassed.{PlantPassed, plant-passed, VariablesPassed}
use Rattle.codec.specs.Padding.{pad}
use Rattle.plant.specs.Variables.{column}
use Rattle.plant.specs.Equations.{mode_count_of, places_of_mode, rates_steady, accepted_equations, SectionStands}
use Rattle.plant.specs.Driven.{driven_marks}
use Rattle.plant.specs.PlantRead.{accepted_plant}
use Rattle.plant.specs.declared.sections.PlantRead.{PlantRead}
use Rattle.plant.proofs.VariableLaws.{column-at, count_low, count-high}

-- ---- a plant that is accepted
module _ (ed : Edition) (vs es : List ℕ) {p : Plant} (h : judge_plant ed vs es ≡ accepted p) where
  pub passed-all : PlantPassed ed vs es p
  passed-all = plant-passed ed vs es h

  variables-passed : VariablesPassed ed vs p.variables
  variables-passed = record { is = passed-all.variables; in_order = passed-all.in_order }

  pub section-stands : SectionStands es
  section-stands = record { equations = p.equations; read = passed-all.equations }

  pub variables-low : 1 ≤ length p.variables
  variables-low = count_low ed vs variables-passed

  pub variables-high : length p.variables ≤ 32
  variables-high = count-high ed vs variables-passed

-- ---- the fields of what the code has of it
module _ (p : Plant) {x : PlantRead} (e : x ≡ accepted_plant p) where
  pub variables-of : x.variables ≡ length p.variables
  unfolding accepted_plant
  variables-of = ap (λ (r : PlantRead). r.variables) e

  pub lows-of : x.lows ≡ column (λ (v : Variable). v.minimum) p.variables
  unfolding accepted_plant
  lows-of = ap (λ (r : PlantRead). r.lows) e

  pub highs-of : x.highs ≡ column (λ (v : Variable). v.maximum) p.variables
  unfolding accepted_plant
  highs-of = ap (λ (r : PlantRead). r.highs) e

  pub low-at : (k : ℕ) {v : Variable} → get_elem? p.variables k ≡ some v → get_or x.lows k (pos 0) ≡ v.minimum
  low-at k i = ap (λ l. get_or l k (pos 0)) lows-of ∙ column-at (λ (v : Variable). v.minimum) p.variables k i

  pub high-at : (k : ℕ) {v : Variable} → get_elem? p.variables k ≡ some v → get_or x.highs k (pos 0) ≡ v.maximum
  high-at k i = ap (λ l. get_or l k (pos 0)) highs-of ∙ column-at (λ (v : Variable). v.maximum) p.variables k i

  pub selectors-of : x.selectors ≡ length (selectors p)
  unfolding accepted_plant
  selectors-of = ap (λ (r : PlantRead). r.selectors) e

  pub modes-of : x.modes ≡ pad 16 0 (map mode_count_of (selectors p))
  unfolding accepted_plant accepted_equations selectors
  modes-of = ap (λ (r : PlantRead). r.modes) e

  pub places_of : x.mode_offsets ≡ pad 128 0 (places_of_mode 1 p.equations)
  unfolding accepted_plant accepted_equations
  places_of = ap (λ (r : PlantRead). r.mode_offsets) e

  pub steady-of : x.steady ≡ rates_steady p.equations
  unfolding accepted_plant accepted_equations
  steady-of = ap (λ (r : PlantRead). r.steady) e

  pub driven-of : x.driven ≡ driven_marks p.equations
  unfolding accepted_plant
  driven-of = ap (λ (r : PlantRead). r.driven) e
