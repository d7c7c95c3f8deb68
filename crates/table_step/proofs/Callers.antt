-- For callers: what the first step asks comes from what the reader promises, and what the next one asks from what the step before gave.
use mathlib.Core.List.{List}
use mathlib.Core.Option.{some}
use Prim.Native.Nat.{ℕ}
use lib.IntN.{ℤ}
use Rattle.semantics.specs.Editions.{Edition}
use Rattle.semantics.specs.Tables.{Table, table_control}
use Rattle.paper.specs.declared.answers.Answer.{Answer}
use Rattle.program.specs.Lent.{Lent}
use Rattle.table_read.specs.Lent.{TableLent}
use Rattle.event.specs.declared.Event.{Event}
use Rattle.execution.specs.Ready.{Fits}
use Rattle.table_step.specs.Situations.{Started, Promised, StepsOn}
use Rattle.table_step.specs.declared.steps.Standing.{Standing}

pub first-promised : (ed : Edition) {l : Lent} {t : Table} {at : Standing} {vs : List ℤ} {ms : List ℕ} → TableLent ed t l → Started ed l at → Fits t.plant vs ms → Promised ed l at vs ms
first-promised ed {t = t} d s f = record { table = t; lent = d; place = some (table_control t).start; stands = s t d; fits = f }

-- a step made
pub next-promised : (ed : Edition) {l : Lent} {at at' : Standing} {vs vs' : List ℤ} {ms ms' : List ℕ} {e : Event} (a : Answer) → Promised ed l at vs ms → StepsOn ed l at vs ms e a at' vs' ms' → Promised ed l at' vs' ms'
next-promised ed a p k =
    let s = k p.table p.place p.lent p.stands p.fits in
    record { table = p.table; lent = p.lent; place = s.0.place; stands = s.0.stands; fits = s.1 }
