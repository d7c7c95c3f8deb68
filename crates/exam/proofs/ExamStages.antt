-- Examining judged in order: what each answer makes of the whole.
use mathlib.Core.Path.{◌≡◌, refl, sym, ap, ◌∙◌}
use mathlib.Core.Bool.{Bool, true, false}
use mathlib.Core.List.{List}
use mathlib.Core.Option.{some}
use Prim.Native.Nat.{ℕ, ◌*◌, ◌<◌, ◌≤◌}
use native.Mathlib.Omega.{arith}
use Rattle.std.proofs.Common.{Ok, Err}
use borrow.Author.Tests.{le-leb}
use lib.ListN.{length, take, drop, length-append}
use Rattle.semantics.specs.Bytes.{overwrite}
use Rattle.semantics.specs.Editions.{Edition}
use Rattle.semantics.specs.Refusals.{Judged, refused, accepted, ◌>>=◌, ◌>>◌, ensure, refusal_of}
use Rattle.semantics.specs.Plant.{Plant}
use Rattle.semantics.specs.Starts.{Start}
use Rattle.semantics.specs.Calls.{Ran, judge_admission, judge_run, table_run_of, event_count, record_size, room_for_records}
use Rattle.semantics.proofs.Judging as Judging
use Rattle.semantics.proofs.Admission.{Admits, start-judged, admission-passed}
use Rattle.semantics.proofs.FirstNumber.{admission-first}
use Rattle.semantics.proofs.CallsHold.{accepted-of}
use Rattle.schedules.specs.Files.{Schedule, judge_file}
use Rattle.schedules.specs.Compiling.{judge_table_of, judge_compile}
use Rattle.schedules.specs.Calls as S
use Rattle.schedules.specs.Calls.{rule_program, rule_run_of, compile, compiled_into}
use Rattle.schedules.proofs.Agreement.{Taken, compile-taken}
use Rattle.schedules.specs.Exam as Exam
use Rattle.schedules.specs.Exam.{ExamHolds, judge_exam, agreed, reported, refused_exam, exam_table, examined, exam_of}
use Rattle.exam.specs.Examining.{examined_with, Room}
use Rattle.records.specs.Reported.{ran_with}
use Rattle.records.specs.declared.Counts.{Counts}
use Rattle.compiler.specs.Answers.{told}
use Rattle.compiler.specs.declared.call.Compiled.{Compiled}
use Rattle.paper.specs.Refusals.{number_of}
use Rattle.paper.specs.declared.refusals.Refusal.{Refusal}
use Rattle.exam.proofs.Numbers.{listed}
use Rattle.compiler.proofs.CallStages.{refused-too, too_short, long-enough}
use Rattle.schedules.proofs.ExamHolds.{run-numbers, rule-program, exam-judged, exam-numbers, exam-length, exam-refusal, exam-agrees}

-- a refusal is the whole call's
refused-first : {A B : Type 0} (j : Judged A) (f : A → Judged B) → (refusal_of j ≡ 0 → ⊥) → refusal_of (j >>= f) ≡ refusal_of j
unfolding refusal_of ◌>>=◌
refused-first (refused n) f z = refl
refused-first (accepted a) f z = absurd (z refl)

refused-at : {A B : Type 0} {j : Judged A} {n : ℕ} (f : A → Judged B) → j ≡ refused n → refusal_of (j >>= f) ≡ n
unfolding refusal_of ◌>>=◌
refused-at f e = rw e refl

-- a number does not depend on what is made of what is accepted
run-number : {A B : Type 0} (j : Judged A) (f : A → B) → refusal_of (j >>= λ a. accepted (f a)) ≡ refusal_of j
unfolding refusal_of ◌>>=◌
run-number (refused n) f = refl
run-number (accepted a) f = refl

tested-last : {A B : Type 0} (n : ℕ) (t : Bool) (a : A) (b : B) → refusal_of (ensure n t >> accepted a) ≡ refusal_of (ensure n t >> accepted b)
unfolding refusal_of ◌>>◌ ensure
tested-last n true a b = refl
tested-last n false a b = refl

-- a run into another buffer: only 22 is left to judge
another-buffer : (ed : Edition) (p : Plant) (start events buffer other : List ℕ) {st : Start} → Admits ed p start events buffer st → judge_admission ed p start events other ≡ (ensure 22 (room_for_records ed p events other) >> accepted st)
unfolding judge_admission
another-buffer ed p start events buffer other b = Judging.go-then _ (start-judged p start b.starts) ∙ Judging.go-ensure 21 _ b.whole

module _ (ed : Edition) (file start events table records others : List ℕ) where
  -- 1 to 13
  pub by-measure : {n : ℕ} → judge_table_of ed file ≡ refused n → n ≡ refusal_of (judge_exam ed file start events table records others)
  unfolding judge_exam
  by-measure h = sym (refused-at _ (refused-too ed file table h))

  module _ {t : List ℕ} (h : judge_table_of ed file ≡ accepted t) where
    -- 14
    pub by_table : length table < length t → 14 ≡ refusal_of (judge_exam ed file start events table records others)
    unfolding judge_exam
    by_table l = sym (refused-at _ (too_short ed file table h l))

    module _ (l : length t ≤ length table) where
      taken : Taken ed file table t
      taken = compile-taken ed file table (long-enough ed file table h l)

      abbrev plant : Plant
      plant = taken.of.plant

      compiled : judge_exam ed file start events table records others ≡
          (judge_admission ed plant start events records >>= λ st. ensure 22 (room_for_records ed plant events others) >> accepted (event_count ed events * record_size ed plant))
      unfolding judge_exam
      compiled = Judging.go-then _ (long-enough ed file table h l) ∙ Judging.go-then _ (rule-program ed file taken.of_file)

      run_of : (buffer : List ℕ) → refusal_of (judge_run ed (rule_program ed file) start events buffer) ≡ refusal_of (judge_admission ed plant start events buffer)
      unfolding judge_run
      run_of buffer = ap refusal_of (Judging.go-then _ (rule-program ed file taken.of_file)) ∙ run-number (judge_admission ed plant start events buffer) _

      -- 20 to 22
      pub by-records : {n : ℕ} → n ≡ refusal_of (judge_run ed (rule_program ed file) start events records) → (n ≡ 0 → ⊥) → n ≡ refusal_of (judge_exam ed file start events table records others)
      by-records e y =
          let f = e ∙ run_of records in
          sym (ap refusal_of compiled ∙ refused-first (judge_admission ed plant start events records) _ (λ i. y (f ∙ i)) ∙ sym f)

      -- 22 of the second buffer
      pub by-others : {k : ℕ} → 0 ≡ refusal_of (judge_run ed (rule_program ed file) start events records) → k ≡ refusal_of (judge_run ed (rule_program ed file) start events others) →
          k ≡ refusal_of (judge_exam ed file start events table records others)
      by-others e f =
          let a = accepted-of (admission-first ed start events records refl) (run-numbers ed (some plant) start events records) (sym (e ∙ run_of records)) in
          let b = another-buffer ed plant start events records others (admission-passed ed plant start events records a.1) in
          f ∙ run_of others ∙ ap refusal_of b ∙ tested-last 22 (room_for_records ed plant events others) a.0 _ ∙ sym (ap refusal_of (compiled ∙ Judging.go-then _ a.1))

-- ---- a call that is not refused
-- its schedule, and room for its table
pub record Admitted (ed : Edition) (file start events table records others : List ℕ) : Type 0 where
  pub schedule : Schedule
  pub schedule_read : judge_file ed file ≡ accepted schedule
  pub judged : judge_exam ed file start events table records others ≡ accepted (event_count ed events * record_size ed schedule.plant)
  pub compiled : (compile ed file table).written ≤ length (compile ed file table).table

table-long : (ed : Edition) (file table : List ℕ) {t : List ℕ} → judge_compile ed file table ≡ accepted t → (compile ed file table).written ≤ length (compile ed file table).table
unfolding compile compiled_into overwrite
table-long ed file table {t} e = rw e (simp length-append (omega arith))

pub admitted : (ed : Edition) (file start events table records others : List ℕ) → refusal_of (judge_exam ed file start events table records others) ≡ 0 → Admitted ed file start events table records others
unfolding judge_exam
admitted ed file start events table records others z =
    let x = accepted-of (exam-judged ed file start events table records others) (exam-numbers ed file start events table records others) z in
    let a = Judging.passed_then (judge_compile ed file table) _ x.1 in
    let k = compile-taken ed file table a.1 in
    record {
      schedule = k.of;
      schedule_read = k.of_file;
      judged = x.1 ∙ ap accepted (sym (exam-length ed file start events table records others k.of_file x.1));
      compiled = table-long ed file table a.1;
    }

-- ---- what the code makes of the answers of its calls
abbrev told_of : ℕ → List ℕ → Ran → Ran → Bool → Exam.Examined
told_of n table r t q = record { refusal = 0; written = n; counts = r.counts; table_counts = t.counts; agree = q; table = table; records = r.records; others = t.records }

-- what is written stands in the buffer
room_after : (ed : Edition) (p : Plant) (events w b : List ℕ) {l : List ℕ} → l ≡ overwrite w b → length w ≡ event_count ed events * record_size ed p → room_for_records ed p events l ≡ true
unfolding overwrite room_for_records
room_after ed p events w b {l} e f =
    let g = ap length e ∙ length-append w (drop (length w) b) in
    le-leb _ (length l) (omega arith)

module _ (ed : Edition) (file start events table records others : List ℕ) where
  abbrev C : S.Compiled
  C = compile ed file table

  abbrev X : Ran
  X = exam_table ed file start events table records others

  abbrev Y : Ran
  Y = rule_run_of ed file start events records

  -- the call was accepted
  module _ (z : refusal_of (judge_exam ed file start events table records others) ≡ 0) where
    holds : ExamHolds ed file start events table records others
    unfolding exam_of
    holds = exam-agrees ed file start events table records others (exam-refusal ed file start events table records others (judge_exam ed file start events table records others) ∙ z)

    -- then no call that it makes refuses
    pub compiles : (why : Refusal) {tb : List ℕ} → told (Err why) tb ≡ C → ⊥
    compiles why h = listed why (ap (λ (x : S.Compiled). x.refusal) h ∙ holds.compiled)

    pub runs-by_rules : (why : Refusal) (d : List ℕ) → ran_with (Err why) d ≡ Y → ⊥
    unfolding ran_with
    runs-by_rules why d h = listed why (ap (λ (x : Ran). x.refusal) h ∙ holds.runs.rules_taken_on)

    -- compiling wrote what the code says, and left tb
    module _ {c : Compiled} {tb : List ℕ} (h : told (Ok c) tb ≡ C) where
      abbrev Z : Ran
      Z = table_run_of ed (take c.length tb) start events others

      -- the run of the table that the code made
      ran-table : Z ≡ X
      unfolding exam_table
      ran-table = ap (λ (x : S.Compiled). table_run_of ed (take x.written x.table) start events others) h

      pub runs-by_table : (why : Refusal) (d : List ℕ) → ran_with (Err why) d ≡ Z → ⊥
      unfolding ran_with
      runs-by_table why d j = listed why (ap (λ (x : Ran). x.refusal) (j ∙ ran-table) ∙ holds.runs.table_taken_on)

      -- the room for the table holds what is read back from it
      pub table_fits : c.length ≤ length tb
      table_fits =
          let a = (admitted ed file start events table records others z).compiled in
          let e = ap (λ (x : S.Compiled). x.written) h in
          let f = ap (λ (x : S.Compiled). length x.table) h in
          omega arith

      module _ (r t : Counts) (rs os : List ℕ) (i : ran_with (Ok r) rs ≡ Y) (j : ran_with (Ok t) os ≡ Z) where
        records-are : rs ≡ Y.records
        unfolding ran_with
        records-are = ap (λ (x : Ran). x.records) i

        others-are : os ≡ X.records
        unfolding ran_with
        others-are = ap (λ (x : Ran). x.records) (j ∙ ran-table)

        -- the record buffers hold the records that are compared
        pub rooms : Room ed file events rs × Room ed file events os
        rooms =
            let k = holds in
            let p = k.schedule.plant in
            let a = room_after ed p events _ records (records-are ∙ k.runs.rules_records) k.runs.records_length in
            let b = room_after ed p events _ others (others-are ∙ k.runs.table_records) k.runs.records_length in
            (record { schedule = k.schedule; schedule_read = k.schedule_read; enough = a }, record { schedule = k.schedule; schedule_read = k.schedule_read; enough = b })

        pub all_told : {q : Bool} → ((s : Schedule) → judge_file ed file ≡ accepted s → q ≡ agreed (event_count ed events * record_size ed s.plant) (ran_with (Ok r) rs) (ran_with (Ok t) os)) →
            examined_with (Ok (record { length = c.length; counts = r; table_counts = t; agree = q })) tb rs os ≡ exam_of ed file start events table records others
        unfolding exam_of examined reported examined_with ran_with
        all_told {q} g =
            let a = admitted ed file start events table records others z in
            let n = event_count ed events * record_size ed a.schedule.plant in
            let k = j ∙ ran-table in
            let l = c.length in
            let y = ran_with (Ok r) rs in
            let x = ran_with (Ok t) os in
            let w : q ≡ agreed n Y X = g a.schedule a.schedule_read ∙ ap (λ u. agreed n u x) i ∙ ap (agreed n Y) k in
            let v : exam_of ed file start events table records others ≡ reported n C.written C.table Y X = ap (examined ed file start events table records others) a.judged in
            ap (λ q. told_of l tb y x q) w ∙ ap (λ (c : S.Compiled). told_of c.written c.table y x (agreed n Y X)) h
            ∙ ap (λ u. told_of C.written C.table u x (agreed n Y X)) i ∙ ap (λ u. told_of C.written C.table Y u (agreed n Y X)) k ∙ sym v

  -- a refusal, with the buffers as they were
  pub none_told : (why : Refusal) → number_of why ≡ refusal_of (judge_exam ed file start events table records others) →
      examined_with (Err why) table records others ≡ exam_of ed file start events table records others
  unfolding exam_of refusal_of examined examined_with
  none_told why e = go (judge_exam ed file start events table records others) e
    where
      go : (j : Judged ℕ) → number_of why ≡ refusal_of j → refused_exam (number_of why) table records others ≡ examined ed file start events table records others j
      go (refused m) e = ap (λ n. refused_exam n table records others) e
      go (accepted m) e = absurd (listed why e)
