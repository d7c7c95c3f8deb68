-- A whole run by the rules, as the code's loop has it.
use Rattle.std.specs.Prelude.{List, ℕ, ℤ}
use Rattle.semantics.specs.Editions.{Edition}
use Rattle.schedules.specs.Files.{Schedule}
use Rattle.schedules.specs.Calls.{program_of}
use Rattle.schedules.specs.Laid.{Lies}
use Rattle.program.specs.Lent.{Lent}
use Rattle.schedule_read.specs.Lent.{ScheduleLent}
use Rattle.execution.specs.Runs.{MayRun, Whole}
use Rattle.records.specs.declared.Counts.{Counts}

-- the arrays hold the schedule and its tree, and a run of it may start with these values and modes
pub record Asked (ed : Edition) (s : Schedule) (l : Lent) (ks es : List ℕ) (vs : List ℤ) (ms events d : List ℕ) : Type 0 where
  pub lent : ScheduleLent ed s l
  pub tree : Lies ks es s.root
  pub may : MayRun ed s.plant vs ms events d

-- there is such a schedule
pub record Asking (ed : Edition) (l : Lent) (ks es : List ℕ) (vs : List ℤ) (ms events d : List ℕ) : Type 0 where
  pub schedule : Schedule
  pub asked : Asked ed schedule l ks es vs ms events d

-- all events are answered, of every schedule that is asked for
abbrev pub Completes : Edition → Lent → (ks es : List ℕ) → List ℤ → (ms events d₀ : List ℕ) → Counts → List ℕ → Type 0
Completes ed l ks es vs ms events d₀ cs d = (s : Schedule) → Asked ed s l ks es vs ms events d₀ → Whole ed (program_of s) vs ms events d₀ cs d
