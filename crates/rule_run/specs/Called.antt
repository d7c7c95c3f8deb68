-- The call "running a schedule by the rules", as the code answers it.
use Rattle.std.specs.Prelude.{◌≡◌, List, ℕ}
use Rattle.semantics.specs.Editions.{Edition}
use Rattle.semantics.specs.Refusals.{accepted}
use Rattle.semantics.specs.Calls.{Outcome}
use Rattle.schedules.specs.Files.{Schedule, judge_file}
use Rattle.schedules.specs.Calls.{program_of}
use Rattle.start_read.specs.declared.admission.Admitted.{Admitted}
use Rattle.start_read.specs.Admission.{values_for, modes_for}
use Rattle.execution.specs.Runs.{MayRun, Whole}
use Rattle.records.specs.declared.Counts.{Counts}

-- the file is that of s, and a run of it may start with the values and modes that are admitted
pub record Admits (ed : Edition) (f : List ℕ) (asked : Admitted) (events d : List ℕ) (s : Schedule) : Type 0 where
  pub judged : judge_file ed f ≡ accepted s
  pub may : MayRun ed s.plant (values_for s.plant asked) (modes_for s.plant asked) events d

-- there is such a schedule
pub record Admitting (ed : Edition) (f : List ℕ) (asked : Admitted) (events d : List ℕ) : Type 0 where
  pub schedule : Schedule
  pub admits : Admits ed f asked events d schedule

-- all events are answered, of every schedule that is admitted
abbrev pub Carried : Edition → List ℕ → Admitted → (events d₀ : List ℕ) → Counts → List ℕ → Type 0
Carried ed f asked events d₀ cs d = (s : Schedule) → Admits ed f asked events d₀ s → Whole ed (program_of s) (values_for s.plant asked) (modes_for s.plant asked) events d₀ cs d

-- whether a run is admitted, of what it gives
abbrev pub passed : Outcome → Unit {0}
passed o = tt
