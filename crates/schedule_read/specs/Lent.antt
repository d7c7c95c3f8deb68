-- A schedule that is lent to a run: what the reader promises of its file's bytes, index and ranges.
use Rattle.std.specs.Prelude.{◌≡◌, true, List, ℕ, ◌^◌, ◌<◌, ℤ, length, Ok}
use Rattle.semantics.specs.Editions.{Edition}
use Rattle.semantics.specs.Refusals.{accepted}
use Rattle.semantics.specs.Plant.{among}
use Rattle.schedules.specs.Nodes.{node_action}
use Rattle.schedules.specs.Residuals.{Residual, acting}
use Rattle.schedules.specs.Files.{Schedule, judge_file}
use Rattle.schedules.specs.Reached.{Of}
use Rattle.program.specs.Lent.{Lent, lent, PlantLent, NodeLent}
use Rattle.schedule_read.specs.declared.call.ScheduleIndex.{ScheduleIndex}
use Rattle.schedule_read.specs.ScheduleFile.{ScheduleIndexed}

-- the arrays hold the schedule: its plant, and what each node does that acts in a residual of its tree
pub record ScheduleLent (ed : Edition) (s : Schedule) (l : Lent) : Type 0 where
  pub plant : PlantLent s.plant l
  pub nodes : (r : Residual) → Of s.root r → (n : ℕ) → among n (acting r) ≡ true → NodeLent ed s.plant (node_action s.nodes n) l n

-- where x is the index of an accepted file of some edition, of a length that a slice can have, ix and rs lend it together with the file's bytes
abbrev pub SchedulePrograms : ScheduleIndex → List ℕ → List ℤ → Type 0
SchedulePrograms x ix rs =
    (ed : Edition) (f : List ℕ) (s : Schedule) → ScheduleIndexed ed f (Ok x) → length f < 2 ^ 64 → judge_file ed f ≡ accepted s → ScheduleLent ed s (lent f ix rs)
