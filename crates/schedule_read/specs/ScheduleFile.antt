-- The call "reading a schedule" (1 to 11, 34, 12), as the code answers it and in the parts that the code has.
use Rattle.std.specs.Prelude.{◌≡◌, List, ℕ, ◌≤◌, length, Result, Ok, Err}
use Rattle.std.proofs.Math.Option.{some}
use Rattle.semantics.specs.Editions.{Edition}
use Rattle.semantics.specs.Refusals.{Judged, refused, accepted}
use Rattle.semantics.specs.Sections.{equations_in}
use Rattle.semantics.specs.Plant.{Plant, selectors}
use Rattle.paper.specs.Refusals.{number_of, judged_of}
use Rattle.paper.specs.declared.refusals.Refusal.{Refusal}
use Rattle.schedules.specs.Nodes.{Node}
use Rattle.schedules.specs.Files.{Schedule, judge_file, judge_nodes}
use Rattle.schedules.specs.Calls.{ScheduleRead}
use Rattle.plant.specs.ModeCounts.{ModesAt}
use Rattle.plant.specs.Driven.{DrivenAt}
use Rattle.plant.specs.PlantRead.{accepted_plant}
use Rattle.plant.specs.declared.sections.PlantRead.{PlantRead}
use Rattle.schedule_read.specs.FileParts.{parts_in}
use Rattle.tree_read.specs.Index.{nodes_of}
use Rattle.tree_read.specs.Ends.{TreeAt}
use Rattle.schedule_read.specs.Indexed.{NodesIn}
use Rattle.tree_read.specs.declared.nodes.Nodes.{Nodes}
use Rattle.schedule_read.specs.declared.call.FileRead.{FileRead}
use Rattle.schedule_read.specs.declared.call.ScheduleIndex.{ScheduleIndex}

-- what the call answers, as document 01 has it: 0 and the counts, or the number of the refusal and 0 for each count
abbrev pub told : Result FileRead Refusal → ScheduleRead
told (Ok r) = record { refusal = 0; variables = r.variables; selectors = r.selectors; nodes = r.nodes }
told (Err why) = record { refusal = number_of why; variables = 0; selectors = 0; nodes = 0 }

-- the index of an accepted file: where its sections stand, its plant, nodes and subtrees
pub record Opened (ed : Edition) (s : Schedule) (ix : ScheduleIndex) : Type 0 where
  pub parts : ix.parts ≡ parts_in s.sections
  pub plant : ix.plant ≡ accepted_plant s.plant
  pub nodes : ix.nodes ≡ nodes_of ed s.sections.schedule
  pub subtrees : TreeAt ix.nodes.kinds ix.nodes.count s.root ix.subtrees

abbrev pub IndexAt : Edition → Judged Schedule → Result ScheduleIndex Refusal → Type 0
IndexAt ed j (Ok ix) = (s : Schedule) × (j ≡ accepted s) × Opened ed s ix
IndexAt ed j (Err why) = j ≡ refused (number_of why)

-- a schedule file: its index, or why it is refused
pub record ScheduleIndexed (ed : Edition) (f : List ℕ) (r : Result ScheduleIndex Refusal) : Type 0 where
  pub at : IndexAt ed (judge_file ed f) r

-- ---- for the code's own contracts
-- x holds of the plant p, with these equations, what the checks of the nodes look up
pub record PlantAt (es : List ℕ) (x : PlantRead) (p : Plant) : Type 0 where
  pub equations : equations_in es ≡ some p.equations
  pub counted : length p.variables ≡ x.variables
  pub few : x.variables ≤ 32
  pub modes_at : ModesAt x.modes x.selectors (selectors p)
  pub driven_at : DrivenAt x.driven p.equations

-- there is one
pub record Planted (es : List ℕ) (x : PlantRead) : Type 0 where
  pub plant : Plant
  pub at : PlantAt es x plant
  pub room : x.selectors ≤ length x.modes

-- 11, 34 and 12, of whatever nodes and plant the code's arrays stand for
abbrev pub NodesJudged : Edition → List ℕ → List ℕ → Nodes → PlantRead → Result (Unit {0}) Refusal → Type 0
NodesJudged ed es s n x r = (ns : List Node) → NodesIn ed s n ns → (p : Plant) → PlantAt es x p → judged_of r ≡ judge_nodes ed p ns
