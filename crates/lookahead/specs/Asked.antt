-- What the parts of the code ask of each other.
use Rattle.std.specs.Prelude.{◌≡◌, List, ℕ, ◌≤◌, ℤ, length, take}
use Rattle.semantics.specs.Editions.{Edition}
use Rattle.semantics.specs.Refusals.{accepted}
use Rattle.semantics.specs.Starts.{Start}
use Rattle.semantics.specs.Tables.{Table, judge_table}
use Rattle.paper.specs.Refusals.{answered}
use Rattle.program.specs.Lent.{Lent}
use Rattle.event.specs.declared.Event.{Event}
use Rattle.table_read.specs.TableIndex.{table_index}
use Rattle.table_read.specs.Lent.{TableLent}
use Rattle.table_read.specs.declared.call.TableIndex.{TableIndex}
use Rattle.start_read.specs.declared.admission.Admitted.{Admitted}
use Rattle.execution.specs.Ready.{Fits}
use Rattle.lookahead.specs.declared.Answers.{Answers}
use Rattle.lookahead.specs.Ahead.{numbers_of, answers_from}

-- what the reader promises of a table, with values and modes that fit it
pub record Lending (ed : Edition) (l : Lent) (vs : List ℤ) (ms : List ℕ) : Type 0 where
  pub table : Table
  pub lent : TableLent ed table l
  pub fits : Fits table.plant vs ms

-- the answers, of every table that is lent so
abbrev pub AnswersAll : Edition → Lent → List ℤ → List ℕ → Event → Event → Event → Answers → Type 0
AnswersAll ed l vs ms a b c r = (t : Table) → TableLent ed t l → Fits t.plant vs ms → numbers_of r ≡ answers_from ed t (record { values = vs; modes = ms }) a b c

-- the start that the arrays hold
abbrev pub start_in : TableIndex → Admitted → Start
start_in x start = record { values = take x.plant.variables start.values; modes = take x.plant.selectors start.modes }

-- the bytes are those of the table t, and its run may start so
pub record Admits (ed : Edition) (f : List ℕ) (x : TableIndex) (start : Admitted) (t : Table) : Type 0 where
  pub judged : judge_table ed f ≡ accepted t
  pub fits : Fits t.plant (start_in x start).values (start_in x start).modes

-- x is what the reader gives of the bytes; there is such a table, and the arrays are long enough
pub record Admitting (ed : Edition) (f : List ℕ) (x : TableIndex) (start : Admitted) : Type 0 where
  pub is : accepted x ≡ answered (table_index ed f) (judge_table ed f)
  pub values : x.plant.variables ≤ length start.values
  pub modes : x.plant.selectors ≤ length start.modes
  pub table : Table
  pub admits : Admits ed f x start table

abbrev pub AnswersStart : Edition → List ℕ → TableIndex → Admitted → Event → Event → Event → Answers → Type 0
AnswersStart ed f x start a b c r = (t : Table) → Admits ed f x start t → numbers_of r ≡ answers_from ed t (start_in x start) a b c
