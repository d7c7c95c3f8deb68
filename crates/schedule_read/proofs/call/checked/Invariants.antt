-- The pass over the nodes: 11, 34 and 12 by Telling; 12 starts with the switches' answer.
use mathlib.Core.Bool.{true}
use mathlib.Core.List.{List}
use Rattle.semantics.specs.Editions.{Edition}
use Rattle.semantics.specs.Sections.{Selector, Equation}
use Rattle.schedules.specs.Nodes.{node_named, node_parted, node_reads}
use Rattle.plant.specs.ModeCounts.{ModesAt}
use Rattle.plant.specs.Driven.{DrivenAt}
use Rattle.schedule_read.proofs.Passing.{Telling}
use Rattle.schedule_read.proofs.call.checked.Given as goal

abbrev pub invariant-loop-i : goal.invariant-loop-i
invariant-loop-i l = record {
  named : (ed : Edition) (cs : List Selector) → ModesAt l.plant.modes l.plant.selectors cs → Telling ed (node_named l.plant.variables cs) l.s l.nodes l.i true l.named;
  parted : (ed : Edition) (qs : List Equation) → DrivenAt l.plant.driven qs → Telling ed (node_parted qs) l.s l.nodes l.i true l.parted;
  reads : (ed : Edition) → Telling ed (node_reads ed l.plant.variables) l.s l.nodes l.i l.initial.read l.read;
}
