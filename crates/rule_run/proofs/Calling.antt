-- The call of a run by the rules: what the index, the admission and the events make of it.
use mathlib.Core.Path.{◌≡◌, refl, ◌∙◌}
use mathlib.Core.List.{List}
use Prim.Native.Nat.{ℕ, ◌^◌, ◌≤◌, ◌<◌}
use lib.IntN.{ℤ}
use lib.ListN.{length, take}
use Rattle.std.specs.Prelude.{Result, Ok, Err}
use Rattle.std.specs.Result.{IsErrAnd}
use Rattle.semantics.specs.Editions.{Edition}
use Rattle.semantics.specs.Refusals.{refused, accepted, ◌>>=◌}
use Rattle.semantics.specs.Plant.{Plant, selectors}
use Rattle.semantics.specs.Calls.{judge_admission, judge_run, report}
use Rattle.paper.specs.Refusals.{number_of, judged_of, answered}
use Rattle.paper.specs.declared.refusals.Refusal.{Refusal}
use Rattle.paper.proofs.Answered.{refuses-with, accepts-with}
use Rattle.schedules.specs.Files.{Schedule, judge_file}
use Rattle.schedules.specs.Calls.{program_of, rule_program, rule_run_of}
use Rattle.plant.proofs.PlantLaws.{variables-of, selectors-of}
use Rattle.program.specs.Lent.{lent}
use Rattle.schedule_read.specs.ScheduleFile.{ScheduleIndexed}
use Rattle.schedule_read.specs.Lent.{SchedulePrograms}
use Rattle.schedule_read.specs.declared.call.ScheduleIndex.{ScheduleIndex}
use Rattle.schedule_read.proofs.Promises.{Promised, index-refused, index-schedule, promised}
use Rattle.start_read.specs.StartRead.{Arrays, Room}
use Rattle.start_read.specs.Admission.{admitted, values_for, modes_for}
use Rattle.start_read.specs.declared.admission.Admitted.{Admitted}
use Rattle.start_read.proofs.PlantStart.{arrays-held, room-held}
use Rattle.start_read.proofs.RunCalls as Calls
use Rattle.records.specs.Reported.{ran_with}
use Rattle.records.specs.declared.Counts.{Counts}
use Rattle.execution.specs.Runs.{Whole}
use Rattle.execution.proofs.Starts.{may-run, take-full}
use Rattle.rule_run.specs.Runs.{Asked, Asking}
use Rattle.rule_run.specs.Called.{Admits, Admitting, Carried, passed}

-- ---- what is lent
module _ (ed : Edition) (f : List ℕ) {ix : ScheduleIndex} (h : ScheduleIndexed ed f (Ok ix)) {asked : Admitted} {events d : List ℕ} where
  module _ {s : Schedule} (a : Admits ed f asked events d s) where
    vow : Promised ed f ix s
    vow = promised ed f h a.judged

    variables-are : ix.plant.variables ≡ length s.plant.variables
    variables-are = variables-of s.plant vow.plant

    selectors_are : ix.plant.selectors ≡ length (selectors s.plant)
    selectors_are = selectors-of s.plant vow.plant

    pub asked_of : {is : List ℕ} {rs : List ℤ} → length f < 2 ^ 64 → SchedulePrograms ix is rs →
        Asked ed s (lent f is rs) ix.nodes.kinds ix.subtrees (take ix.plant.variables asked.values) (take ix.plant.selectors asked.modes) events d
    asked_of small p = record { lent = p ed f s h small a.judged; tree = vow.tree; may = rw (variables-are, selectors_are) a.may }

    -- by the schedule's counts
    pub whole_of : {cs : Counts} {d' : List ℕ} → Whole ed (program_of s) (take ix.plant.variables asked.values) (take ix.plant.selectors asked.modes) events d cs d'
        → Whole ed (program_of s) (values_for s.plant asked) (modes_for s.plant asked) events d cs d'
    whole_of w = rw (← variables-are, ← selectors_are) w

    -- the arrays of the tree are as long as they are said to be
    pub kinds_full : length ix.nodes.kinds ≡ 256
    kinds_full = vow.nodes.kinds_full

    pub subtrees-full : length ix.subtrees ≡ 256
    subtrees-full = vow.ends_full

    -- there is an entry for each variable and each selector
    pub values-there : ix.plant.variables ≤ length asked.values
    values-there = rw variables-are (take-full _ asked.values a.may.fits.values)

    pub modes-there : ix.plant.selectors ≤ length asked.modes
    modes-there = rw selectors_are (take-full _ asked.modes a.may.fits.modes)

  pub asking-of : {is : List ℕ} {rs : List ℤ} → length f < 2 ^ 64 → SchedulePrograms ix is rs → Admitting ed f asked events d →
      Asking ed (lent f is rs) ix.nodes.kinds ix.subtrees (take ix.plant.variables asked.values) (take ix.plant.selectors asked.modes) events d
  asking-of small p a = record { schedule = a.schedule; asked = asked_of a.admits small p }

-- ---- the call
program-refused : (ed : Edition) (f : List ℕ) {n : ℕ} → judge_file ed f ≡ refused n → rule_program ed f ≡ refused n
unfolding rule_program ◌>>=◌
program-refused ed f e = rw e refl

program-accepted : (ed : Edition) (f : List ℕ) {s : Schedule} → judge_file ed f ≡ accepted s → rule_program ed f ≡ accepted (program_of s)
unfolding rule_program ◌>>=◌
program-accepted ed f e = rw e refl

-- what a refused call gives
refused-with : (r : Result Counts Refusal) (why : Refusal) (d : List ℕ) → IsErrAnd r (λ w. w ≡ why) → ran_with r d ≡ report d (refused (number_of why))
unfolding ran_with report
refused-with (Ok c) why d is = absurd is
refused-with (Err w) why d is = rw is refl

checked-with : (r : Result (Unit {0}) Refusal) (why : Refusal) → IsErrAnd r (λ w. w ≡ why) → judged_of r ≡ refused (number_of why)
checked-with (Ok c) why is = absurd is
checked-with (Err w) why is = rw is refl

module _ (ed : Edition) (f start events d : List ℕ) where
  pub by-file : (r : Result Counts Refusal) {why : Refusal} → IsErrAnd r (λ w. w ≡ why) → ScheduleIndexed ed f (Err why) → ran_with r d ≡ rule_run_of ed f start events d
  unfolding rule_run_of
  by-file r {why} is h = refused-with r why d is ∙ Calls.by-program ed start events d (program-refused ed f (index-refused ed f h))

  pub check-file : (r : Result (Unit {0}) Refusal) {why : Refusal} → IsErrAnd r (λ w. w ≡ why) → ScheduleIndexed ed f (Err why) → judged_of r ≡ answered passed (judge_run ed (rule_program ed f) start events d)
  check-file r {why} is h = checked-with r why is ∙ refuses-with passed (Calls.program-refuses ed start events d (program-refused ed f (index-refused ed f h)))

  module _ {ix : ScheduleIndex} (h : ScheduleIndexed ed f (Ok ix)) where
    schedule : Schedule
    schedule = (index-schedule ed f h).0

    judged : judge_file ed f ≡ accepted schedule
    unfolding schedule
    judged = (index-schedule ed f h).1

    vows : Promised ed f ix schedule
    vows = promised ed f h judged

    -- what admission asks
    pub room_of : Room ix.plant
    room_of = room-held ed _ _ vows.plant_judged vows.plant

    arrays_of : Arrays schedule.plant ix.plant
    arrays_of = arrays-held ed _ _ vows.plant_judged vows.plant

    module _ (why : Refusal) (g : (p : Plant) → Arrays p ix.plant → refused (number_of why) ≡ answered admitted (judge_admission ed p start events d)) where
      pub by-admission : (r : Result Counts Refusal) → IsErrAnd r (λ w. w ≡ why) → ran_with r d ≡ rule_run_of ed f start events d
      unfolding rule_run_of
      by-admission r is = refused-with r why d is ∙ Calls.by-admission ed start events d (program-accepted ed f judged) (g schedule.plant arrays_of)

      pub check-admission : (r : Result (Unit {0}) Refusal) → IsErrAnd r (λ w. w ≡ why) → judged_of r ≡ answered passed (judge_run ed (rule_program ed f) start events d)
      check-admission r is = checked-with r why is ∙ refuses-with passed (Calls.admission-refuses ed start events d (program-accepted ed f judged) (g schedule.plant arrays_of))

    module _ {asked : Admitted} (g : (p : Plant) → Arrays p ix.plant → accepted asked ≡ answered admitted (judge_admission ed p start events d)) where
      admits : Admits ed f asked events d schedule
      admits =
          let a = Calls.run-started ed start events d (program-accepted ed f judged) (g schedule.plant arrays_of) in
          record { judged = judged; may = may-run ed schedule.plant _ events d a.values a.modes a.fits a.room }

      pub admitting : Admitting ed f asked events d
      admitting = record { schedule = schedule; admits = admits }

      pub by-events : {cs : Counts} {d' : List ℕ} → Carried ed f asked events d cs d' → ran_with (Ok cs) d' ≡ rule_run_of ed f start events d
      unfolding rule_run_of
      by-events w = Calls.by-events ed start events d (program-accepted ed f judged) (g schedule.plant arrays_of) (w schedule admits).is

      pub check-passed : accepted tt ≡ answered passed (judge_run ed (rule_program ed f) start events d)
      check-passed = accepts-with passed (Calls.run-accepts ed start events d (program-accepted ed f judged) (g schedule.plant arrays_of)) refl
