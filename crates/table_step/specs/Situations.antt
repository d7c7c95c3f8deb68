-- Where a run of a table stands, as the code has it, and what one event makes of it.
use Rattle.std.specs.Prelude.{◌≡◌, Bool, List, ℕ, ◌<◌, ℤ, length, Some, None}
use Rattle.std.specs.Prelude as code
use Rattle.std.proofs.Math.Option.{Option, none, some}
use Rattle.semantics.specs.Editions.{Edition}
use Rattle.semantics.specs.Run.{judge}
use Rattle.semantics.specs.Tables.{Table, entry_nodes, entry_target, entries_at, table_control}
use Rattle.semantics.specs.Calls.{program_of_table}
use Rattle.paper.specs.Answers.{answer_number}
use Rattle.paper.specs.declared.answers.Answer.{Answer}
use Rattle.nodeset.specs.Sets.{members}
use Rattle.program.specs.Lent.{Lent}
use Rattle.table_read.specs.Promised.{Leads}
use Rattle.table_read.specs.Lent.{TableLent}
use Rattle.event.specs.Decoded.{event_of}
use Rattle.event.specs.declared.Event.{Event}
use Rattle.effects.specs.PaperNumbers.{Verdict, Move}
use Rattle.effects.specs.Verdicts.{Left}
use Rattle.execution.specs.Ready.{Fits}
use Rattle.execution.specs.Runs.{Shows, Arrives, Steps}
use Rattle.table_step.specs.declared.steps.Standing.{Standing}

-- ---- where a run stands
-- the location, none once the run is over
abbrev pub place_of : Option ℕ → code.Option ℕ
place_of none = None
place_of (some y) = Some y

pub record StandsFor (t : Table) (at : Standing) (o : Option ℕ) : Type 0 where
  pub place : at.place ≡ place_of o
  pub shows : Shows (table_control t) (λ y. y < length t.locations) at.acting.words o

-- the nodes of location x are these
pub record Here (ed : Edition) (t : Table) (l : Lent) (x : ℕ) (ws : List ℕ) : Type 0 where
  pub lent : TableLent ed t l
  pub below : x < length t.locations
  pub stands : members ws ≡ entry_nodes (entries_at t x)

-- ---- the start
-- there is such a table
pub record Startable (ed : Edition) (l : Lent) : Type 0 where
  pub table : Table
  pub lent : TableLent ed table l

-- the start of a run of every table that the arrays hold
abbrev pub Started : Edition → Lent → Standing → Type 0
Started ed l at = (t : Table) → TableLent ed t l → StandsFor t at (some (table_control t).start)

-- ---- one event, part by part
-- a move from location x leads to a location or to an end
pub record Movable (ed : Edition) (t : Table) (l : Lent) (x : ℕ) (v : Verdict) : Type 0 where
  pub lent : TableLent ed t l
  pub below : x < length t.locations
  pub leads : (n : ℕ) (b : Bool) → v ≡ Move n b → Leads (length t.locations) (entry_target (entries_at t x) n b)

-- there is such a table
pub record Moving (ed : Edition) (l : Lent) (x : ℕ) (v : Verdict) : Type 0 where
  pub table : Table
  pub movable : Movable ed table l x v

-- what the move of node n makes of location x: for every table that the arrays hold
abbrev pub Moved : Edition → Lent → ℕ → ℕ → Bool → Answer → Standing → Type 0
Moved ed l x n b a at' = (t : Table) → Movable ed t l x (Move n b) → Arrives (StandsFor t at') ((table_control t).next x n b) (answer_number a)

-- what is made of a judged event: for every table and location that the arrays and the set are of
abbrev pub Settled : Edition → Lent → ℕ → Standing → Verdict → Answer → Standing → Type 0
Settled ed l x at v a at' =
    (t : Table) → Movable ed t l x v → Here ed t l x at.acting.words → at.place ≡ Some x → (vs : List ℤ) (ms : List ℕ) (e : Event) (vs' : List ℤ) (ms' : List ℕ)
    → Left (judge ed t.plant (table_control t).action (members at.acting.words) vs ms (event_of e)) vs ms v vs' ms'
    → Steps ed (program_of_table t) (StandsFor t at') (some x) vs ms e (answer_number a) vs' ms'

-- ---- the whole event
-- what the reader promises of a table, with a place, values and modes that fit it: all that a step asks
pub record Promised (ed : Edition) (l : Lent) (at : Standing) (vs : List ℤ) (ms : List ℕ) : Type 0 where
  pub table : Table
  pub lent : TableLent ed table l
  pub place : Option ℕ
  pub stands : StandsFor table at place
  pub fits : Fits table.plant vs ms

-- what a step gives, from where the run stands, values and modes to the same: for every table that the arrays hold and every place that the run stands at
abbrev pub StepsOn : Edition → Lent → Standing → List ℤ → List ℕ → Event → Answer → Standing → List ℤ → List ℕ → Type 0
StepsOn ed l at vs ms e a at' vs' ms' =
    (t : Table) (o : Option ℕ) → TableLent ed t l → StandsFor t at o → Fits t.plant vs ms
    → Steps ed (program_of_table t) (StandsFor t at') o vs ms e (answer_number a) vs' ms' × Fits t.plant vs' ms'
