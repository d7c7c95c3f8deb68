-- The answer of plant's reader is what a start is read by.
use mathlib.Core.Path.{◌≡◌, ap}
use mathlib.Core.List.{List}
use Prim.Native.Nat.{ℕ}
use native.Mathlib.Omega.{arith}
use lib.ListN.{length}
use Rattle.semantics.specs.Editions.{Edition}
use Rattle.semantics.specs.Refusals.{accepted}
use Rattle.semantics.specs.Sections.{Variable}
use Rattle.semantics.specs.Plant.{Plant, selectors, judge_plant}
use Rattle.plant.specs.PlantRead.{accepted_plant}
use Rattle.plant.specs.declared.sections.PlantRead.{PlantRead}
use Rattle.plant.proofs.VariableLaws.{column-long}
use Rattle.plant.proofs.EquationLaws.{few_selectors}
use Rattle.plant.proofs.ModeCounts.{modes-held, modes-room}
use Rattle.plant.proofs.PlantLaws.{passed-all, variables-of, variables-high, lows-of, highs-of, low-at, high-at, selectors-of}
use Rattle.start_read.specs.StartRead.{Arrays, Room}

module _ (ed : Edition) (vs es : List ℕ) {p : Plant} (h : judge_plant ed vs es ≡ accepted p) {x : PlantRead} (e : x ≡ accepted_plant p) where
  pub arrays-held : Arrays p x
  arrays-held = record {
    ranges = record { count = variables-of p e; low = low-at p e; high = high-at p e };
    counts = modes-held ed vs es h e;
  }

  pub room-held : Room x
  unfolding selectors
  room-held = record {
    variables_most = omega (arith, variables-of p e, variables-high ed vs es h);
    lows_there = omega (arith, variables-of p e, variables-high ed vs es h, ap length (lows-of p e), column-long (λ (v : Variable). v.minimum) p.variables);
    highs_there = omega (arith, variables-of p e, variables-high ed vs es h, ap length (highs-of p e), column-long (λ (v : Variable). v.maximum) p.variables);
    cases_most = omega (arith, selectors-of p e, few_selectors es (passed-all ed vs es h).equations);
    counts_there = modes-room ed vs es h e;
  }
