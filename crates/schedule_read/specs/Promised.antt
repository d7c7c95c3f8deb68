-- What the index of a schedule file promises to those that run or compile it.
use Rattle.std.specs.Prelude.{◌≡◌, List, ℕ, length}
use Rattle.semantics.specs.Editions.{Edition}
use Rattle.semantics.specs.Refusals.{accepted}
use Rattle.semantics.specs.Plant.{judge_plant}
use Rattle.schedules.specs.Laid.{Laid, Lies}
use Rattle.schedules.specs.Files.{Schedule, judge_file}
use Rattle.codec.specs.Part.{part_of, Inside}
use Rattle.codec.specs.declared.part.Part.{Part}
use Rattle.plant.specs.PlantRead.{accepted_plant}
use Rattle.tree_read.specs.Index.{NodesAt}
use Rattle.schedule_read.specs.declared.call.ScheduleIndex.{ScheduleIndex}

-- a section of the file is what stands at a part
pub record Slice (f : List ℕ) (p : Part) (x : List ℕ) : Type 0 where
  pub inside : Inside p f
  pub is : part_of p f ≡ x

-- ix is the index of an accepted file, and s its schedule
pub record Promised (ed : Edition) (f : List ℕ) (ix : ScheduleIndex) (s : Schedule) : Type 0 where
  pub judged : judge_file ed f ≡ accepted s
  pub variables : Slice f ix.parts.variables s.sections.variables
  pub equations : Slice f ix.parts.equations s.sections.equations
  pub schedule : Slice f ix.parts.schedule s.sections.schedule
  pub plant : ix.plant ≡ accepted_plant s.plant
  pub plant_judged : judge_plant ed s.sections.variables s.sections.equations ≡ accepted s.plant
  pub nodes : NodesAt ed s.sections.schedule ix.nodes.kinds ix.nodes.starts ix.nodes.ends ix.nodes.count s.nodes
  pub tree : Lies ix.nodes.kinds ix.subtrees s.root
  pub tree_laid : Laid ix.nodes.kinds ix.subtrees s.root 0 ix.nodes.count
  pub ends_full : length ix.subtrees ≡ 256
