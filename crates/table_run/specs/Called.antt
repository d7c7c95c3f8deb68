-- The call "running a table", as the code answers it.
use Rattle.std.specs.Prelude.{◌≡◌, List, ℕ}
use Rattle.semantics.specs.Editions.{Edition}
use Rattle.semantics.specs.Refusals.{accepted}
use Rattle.semantics.specs.Tables.{Table, judge_table}
use Rattle.semantics.specs.Calls.{program_of_table}
use Rattle.paper.specs.Refusals.{answered}
use Rattle.table_read.specs.TableIndex.{table_index}
use Rattle.table_read.specs.declared.call.TableIndex.{TableIndex}
use Rattle.start_read.specs.declared.admission.Admitted.{Admitted}
use Rattle.start_read.specs.Admission.{values_for, modes_for}
use Rattle.execution.specs.Runs.{MayRun, Whole}
use Rattle.records.specs.declared.Counts.{Counts}

-- x is what the reader gives of the bytes f, those of an accepted table
abbrev pub Read : Edition → List ℕ → TableIndex → Type 0
Read ed f x = accepted x ≡ answered (table_index ed f) (judge_table ed f)

-- the bytes are those of the table t, and a run of it may start with the values and modes that are admitted
pub record Admits (ed : Edition) (f : List ℕ) (asked : Admitted) (events d : List ℕ) (t : Table) : Type 0 where
  pub judged : judge_table ed f ≡ accepted t
  pub may : MayRun ed t.plant (values_for t.plant asked) (modes_for t.plant asked) events d

-- there is such a table
pub record Admitting (ed : Edition) (f : List ℕ) (asked : Admitted) (events d : List ℕ) : Type 0 where
  pub table : Table
  pub admits : Admits ed f asked events d table

-- all events are answered, of every table that is admitted
abbrev pub Carried : Edition → List ℕ → Admitted → (events d₀ : List ℕ) → Counts → List ℕ → Type 0
Carried ed f asked events d₀ cs d = (t : Table) → Admits ed f asked events d₀ t → Whole ed (program_of_table t) (values_for t.plant asked) (modes_for t.plant asked) events d₀ cs d
