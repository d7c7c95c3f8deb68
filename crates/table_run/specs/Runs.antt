-- A whole run of a table, as the code's loop has it.
use Rattle.std.specs.Prelude.{List, ℕ, ℤ}
use Rattle.semantics.specs.Editions.{Edition}
use Rattle.semantics.specs.Tables.{Table}
use Rattle.semantics.specs.Calls.{program_of_table}
use Rattle.program.specs.Lent.{Lent}
use Rattle.table_read.specs.Lent.{TableLent}
use Rattle.execution.specs.Runs.{MayRun, Whole}
use Rattle.records.specs.declared.Counts.{Counts}

-- the arrays hold the table, and a run of it may start with these values and modes
pub record Asked (ed : Edition) (t : Table) (l : Lent) (vs : List ℤ) (ms events d : List ℕ) : Type 0 where
  pub lent : TableLent ed t l
  pub may : MayRun ed t.plant vs ms events d

-- there is such a table
pub record Asking (ed : Edition) (l : Lent) (vs : List ℤ) (ms events d : List ℕ) : Type 0 where
  pub table : Table
  pub asked : Asked ed table l vs ms events d

-- all events are answered, of every table that is asked for
abbrev pub Completes : Edition → Lent → List ℤ → (ms events d₀ : List ℕ) → Counts → List ℕ → Type 0
Completes ed l vs ms events d₀ cs d = (t : Table) → Asked ed t l vs ms events d₀ → Whole ed (program_of_table t) vs ms events d₀ cs d
