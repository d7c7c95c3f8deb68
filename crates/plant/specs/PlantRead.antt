-- Conditions 4 to 8: the two sections as the code answers them.
use Rattle.std.specs.Prelude.{length}
use Rattle.semantics.specs.Sections.{Variable}
use Rattle.semantics.specs.Plant.{Plant, selectors}
use Rattle.plant.specs.Variables.{column}
use Rattle.plant.specs.Equations.{accepted_equations}
use Rattle.plant.specs.Driven.{driven_marks}
use Rattle.plant.specs.declared.sections.PlantRead.{PlantRead}

-- the variables' ranges, of the equations what Equations has, and which variables they drive
unfoldable pub accepted_plant : Plant → PlantRead
accepted_plant p = record {
  variables = length p.variables;
  lows = column (λ (v : Variable). v.minimum) p.variables;
  highs = column (λ (v : Variable). v.maximum) p.variables;
  selectors = length (selectors p);
  modes = (accepted_equations p.equations).modes;
  mode_offsets = (accepted_equations p.equations).mode_offsets;
  steady = (accepted_equations p.equations).steady;
  driven = driven_marks p.equations;
}
