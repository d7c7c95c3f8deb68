-- The call of a run of a table: what the index, the admission and the events make of it.
use mathlib.Core.Path.{◌≡◌, refl, ap, ◌∙◌}
use mathlib.Core.List.{List}
use Prim.Native.Nat.{ℕ, ◌^◌, ◌≤◌, ◌<◌}
use lib.IntN.{ℤ}
use lib.ListN.{length, take}
use Rattle.std.specs.Prelude.{Result, Ok, Err}
use Rattle.std.specs.Result.{IsErrAnd}
use Rattle.semantics.specs.Editions.{Edition}
use Rattle.semantics.specs.Refusals.{refused, accepted, ◌>>=◌}
use Rattle.semantics.specs.Plant.{Plant, selectors}
use Rattle.semantics.specs.Tables.{Table, judge_table}
use Rattle.semantics.specs.Calls.{judge_admission, report, program_of_table, table_program, table_run_of}
use Rattle.semantics.proofs.Judging.{accepted-is}
use Rattle.paper.specs.Refusals.{number_of, answered}
use Rattle.paper.specs.declared.refusals.Refusal.{Refusal}
use Rattle.paper.proofs.Answered.{Accepted, was-refused, was-accepted}
use Rattle.plant.proofs.PlantLaws.{variables-of, selectors-of}
use Rattle.program.specs.Lent.{lent}
use Rattle.table_read.specs.TableIndex.{table_index}
use Rattle.table_read.specs.Lent.{TablePrograms}
use Rattle.table_read.specs.declared.call.TableIndex.{TableIndex}
use Rattle.table_read.proofs.Promises.{opened, plant-read}
use Rattle.start_read.specs.StartRead.{Arrays, Room}
use Rattle.start_read.specs.Admission.{admitted, values_for, modes_for}
use Rattle.start_read.specs.declared.admission.Admitted.{Admitted}
use Rattle.start_read.proofs.PlantStart.{arrays-held, room-held}
use Rattle.start_read.proofs.RunCalls as Calls
use Rattle.records.specs.Reported.{ran_with}
use Rattle.records.specs.declared.Counts.{Counts}
use Rattle.execution.specs.Runs.{Whole}
use Rattle.execution.proofs.Starts.{may-run, take-full}
use Rattle.table_run.specs.Runs.{Asked, Asking}
use Rattle.table_run.specs.Called.{Read, Admits, Admitting, Carried}

-- ---- what is lent
module _ (ed : Edition) (f : List ℕ) {ix : TableIndex} (h : Read ed f ix) {asked : Admitted} {events d : List ℕ} where
  module _ {t : Table} (a : Admits ed f asked events d t) where
    index_is : ix ≡ table_index ed f t
    index_is = accepted-is (h ∙ ap (answered (table_index ed f)) a.judged)

    variables-are : ix.plant.variables ≡ length t.plant.variables
    variables-are = variables-of t.plant (plant-read ed f t index_is)

    selectors_are : ix.plant.selectors ≡ length (selectors t.plant)
    selectors_are = selectors-of t.plant (plant-read ed f t index_is)

    pub asked_of : {is : List ℕ} {rs : List ℤ} → length f < 2 ^ 64 → TablePrograms ix is rs →
        Asked ed t (lent f is rs) (take ix.plant.variables asked.values) (take ix.plant.selectors asked.modes) events d
    asked_of small p = record { lent = p ed f t index_is small a.judged; may = rw (variables-are, selectors_are) a.may }

    -- by the table's counts
    pub whole_of : {cs : Counts} {d' : List ℕ} → Whole ed (program_of_table t) (take ix.plant.variables asked.values) (take ix.plant.selectors asked.modes) events d cs d'
        → Whole ed (program_of_table t) (values_for t.plant asked) (modes_for t.plant asked) events d cs d'
    whole_of w = rw (← variables-are, ← selectors_are) w

    -- there is an entry for each variable and each selector
    pub values-there : ix.plant.variables ≤ length asked.values
    values-there = rw variables-are (take-full _ asked.values a.may.fits.values)

    pub modes-there : ix.plant.selectors ≤ length asked.modes
    modes-there = rw selectors_are (take-full _ asked.modes a.may.fits.modes)

  pub asking-of : {is : List ℕ} {rs : List ℤ} → length f < 2 ^ 64 → TablePrograms ix is rs → Admitting ed f asked events d →
      Asking ed (lent f is rs) (take ix.plant.variables asked.values) (take ix.plant.selectors asked.modes) events d
  asking-of small p a = record { table = a.table; asked = asked_of a.admits small p }

-- ---- the call
program-refused : (ed : Edition) (f : List ℕ) {n : ℕ} → judge_table ed f ≡ refused n → table_program ed f ≡ refused n
unfolding table_program ◌>>=◌
program-refused ed f e = rw e refl

program-accepted : (ed : Edition) (f : List ℕ) {t : Table} → judge_table ed f ≡ accepted t → table_program ed f ≡ accepted (program_of_table t)
unfolding table_program ◌>>=◌
program-accepted ed f e = rw e refl

-- what a refused call gives
refused-with : (r : Result Counts Refusal) (why : Refusal) (d : List ℕ) → IsErrAnd r (λ w. w ≡ why) → ran_with r d ≡ report d (refused (number_of why))
unfolding ran_with report
refused-with (Ok c) why d is = absurd is
refused-with (Err w) why d is = rw is refl

module _ (ed : Edition) (f start events d : List ℕ) where
  pub by_table : (r : Result Counts Refusal) (why : Refusal) → IsErrAnd r (λ w. w ≡ why) → refused (number_of why) ≡ answered (table_index ed f) (judge_table ed f) → ran_with r d ≡ table_run_of ed f start events d
  unfolding table_run_of
  by_table r why is h = refused-with r why d is ∙ Calls.by-program ed start events d (program-refused ed f (was-refused (table_index ed f) _ h))

  module _ {ix : TableIndex} (h : Read ed f ix) where
    read : Accepted (table_index ed f) (judge_table ed f) ix
    read = was-accepted (table_index ed f) _ h

    -- what admission asks
    pub room_of : Room ix.plant
    room_of = room-held ed _ _ (opened ed f read.judged).plant (plant-read ed f read.value read.is)

    arrays_of : Arrays read.value.plant ix.plant
    arrays_of = arrays-held ed _ _ (opened ed f read.judged).plant (plant-read ed f read.value read.is)

    pub by-admission : (r : Result Counts Refusal) (why : Refusal) → IsErrAnd r (λ w. w ≡ why) → ((p : Plant) → Arrays p ix.plant → refused (number_of why) ≡ answered admitted (judge_admission ed p start events d))
        → ran_with r d ≡ table_run_of ed f start events d
    unfolding table_run_of
    by-admission r why is g = refused-with r why d is ∙ Calls.by-admission ed start events d (program-accepted ed f read.judged) (g read.value.plant arrays_of)

    module _ {asked : Admitted} (g : (p : Plant) → Arrays p ix.plant → accepted asked ≡ answered admitted (judge_admission ed p start events d)) where
      admits : Admits ed f asked events d read.value
      admits =
          let a = Calls.run-started ed start events d (program-accepted ed f read.judged) (g read.value.plant arrays_of) in
          record { judged = read.judged; may = may-run ed read.value.plant _ events d a.values a.modes a.fits a.room }

      pub admitting : Admitting ed f asked events d
      admitting = record { table = read.value; admits = admits }

      pub by-events : {cs : Counts} {d' : List ℕ} → Carried ed f asked events d cs d' → ran_with (Ok cs) d' ≡ table_run_of ed f start events d
      unfolding table_run_of
      by-events w = Calls.by-events ed start events d (program-accepted ed f read.judged) (g read.value.plant arrays_of) (w read.value admits).is
