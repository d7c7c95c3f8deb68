-- What is known of a schedule's table before it is written.
use Rattle.std.specs.Prelude.{◌≡◌, List, ℕ, ◌*◌, ◌≤◌, ◌<◌, length, Result, Ok, Err}
use Rattle.semantics.specs.Editions.{Edition}
use Rattle.semantics.specs.Refusals.{refused, accepted}
use Rattle.semantics.specs.TableFile.{location_limit}
use Rattle.paper.specs.Refusals.{number_of}
use Rattle.paper.specs.declared.refusals.Refusal.{Refusal}
use Rattle.schedules.specs.Nodes.{actions_of}
use Rattle.schedules.specs.Files.{Schedule}
use Rattle.schedules.specs.Compiling.{tests_of, table_of, judge_table_of}
use Rattle.schedules.specs.Sizes.{size_of}
use Rattle.schedule_read.specs.declared.call.ScheduleIndex.{ScheduleIndex}
use Rattle.schedule_read.specs.Promised.{Promised}
use Rattle.sizes.specs.declared.Size.{Size as Held}
use Rattle.numbering.specs.Meeting.{tests_in}
use Rattle.table_write.specs.ActionTable.{actions_to, Operands, Measured}
use Rattle.table_write.specs.LocationTable.{Counts}
use Rattle.compiler.specs.declared.call.Plan.{Plan}

-- f is the file of a schedule that is not refused; ix is its index, and m has the numbers of its locations and entries
pub record Found (ed : Edition) (f : List ℕ) (ix : ScheduleIndex) (m : Held) : Type 0 where
  pub schedule : Schedule
  pub promise : Promised ed f ix schedule
  pub judged : judge_table_of ed f ≡ accepted (table_of ed schedule)
  pub short : length f < 65536
  pub locations : m.locations ≡ (size_of schedule.root).locations
  pub entries : m.entries ≡ (size_of schedule.root).entries
  pub few : m.locations ≤ location_limit
  pub light : m.entries ≤ location_limit * 256

-- of some file
pub record Ready (ed : Edition) (ix : ScheduleIndex) (m : Held) : Type 0 where
  pub file : List ℕ
  pub found : Found ed file ix m

-- the table of a schedule that the file was read as: its parts counted, and its length
pub record Planned (ed : Edition) (f : List ℕ) (p : Plan) : Type 0 where
  pub schedule : Schedule
  pub promise : Promised ed f p.index schedule
  pub judged : judge_table_of ed f ≡ accepted (table_of ed schedule)
  pub short : length f < 65536
  pub full : length p.acts ≡ 256
  pub tests : tests_in p.acts ≡ tests_of schedule.nodes
  pub operands : Operands ed schedule.sections.schedule p.acts p.index.nodes.starts p.index.nodes.ends p.index.nodes.count
  pub actions : actions_to schedule.sections.schedule p.acts p.index.nodes.starts p.index.nodes.ends p.index.nodes.count ≡ actions_of schedule.nodes
  pub list : Measured ed p.acts p.index.nodes.starts p.index.nodes.ends p.index.nodes.count p.list.count p.list.at
  pub rows : Counts ed p.index.nodes.kinds p.index.subtrees p.acts p.rows.count p.rows.at schedule.root
  pub fits : p.length < 4294967296
  pub whole : p.length ≡ length (table_of ed schedule)

-- what is planned of a file, or why it is refused
abbrev pub PlanOf : Edition → List ℕ → Result Plan Refusal → Type 0
PlanOf ed f (Ok p) = Planned ed f p
PlanOf ed f (Err why) = judge_table_of ed f ≡ refused (number_of why)
