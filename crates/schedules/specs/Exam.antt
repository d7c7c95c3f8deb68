-- The call "examining": a schedule is compiled, run by the rules and run by its table, and the two runs are compared.
-- All that it returns, and what the three lent buffers hold afterwards, for all inputs.
use Rattle.std.specs.Prelude.{◌≡◌, Bool, true, false, ◌&&◌, List, [], ◌∷◌, ◌++◌, ℕ, take, eqb}
use Rattle.std.proofs.Math.Option.{some}
use Rattle.semantics.specs.Editions.{Edition}
use Rattle.semantics.specs.Refusals.{Judged, refused, accepted, ◌>>=◌, ◌>>◌, ensure}
use Rattle.semantics.specs.Starts.{Start, start_in}
use Rattle.semantics.specs.Run.{Counts, no_counts}
use Rattle.semantics.specs.Calls.{Ran, judge_admission, table_run_of, records_size, room_for_records}
use Rattle.semantics.specs.Sentences.{Clause, ◌when◌, Sentence22, run_clauses}
use Rattle.schedules.specs.Files.{Schedule, judge_file}
use Rattle.schedules.specs.Compiling.{judge_compile}
use Rattle.schedules.specs.Calls.{rule_program, rule_run_of, compile}
use Rattle.schedules.specs.Sentences.{FilePlant, compile_clauses}
use Rattle.schedules.specs.Agreement.{RunsAgree}

-- "A call returns the first that applies": 1 to 11, 34, 12 to 14 of the file and the room for its table, 20 to 22 of the start, the events and the room for the first
-- records, then 22 of the room for the others. All are judged before anything is written. What it accepts: the length of the records of such a run.
unfoldable pub judge_exam : Edition → (file start events table records others : List ℕ) → Judged ℕ
judge_exam ed file start events table records others = do
  t ← judge_compile ed file table
  g ← rule_program ed file
  st ← judge_admission ed g.plant start events records
  ensure 22 (room_for_records ed g.plant events others)
  accepted (records_size ed g.plant events)

-- the same bytes
unfoldable pub equal_bytes : List ℕ → List ℕ → Bool
equal_bytes [] [] = true
equal_bytes [] (y ∷ ys) = false
equal_bytes (x ∷ xs) [] = false
equal_bytes (x ∷ xs) (y ∷ ys) = eqb x y && equal_bytes xs ys

unfoldable pub equal_counts : Counts → Counts → Bool
equal_counts a b = eqb a.taken b.taken && (eqb a.turned_away b.turned_away && eqb a.faulted b.faulted)

-- two runs compared: refusals and counts
unfoldable pub same_numbers : Ran → Ran → Bool
same_numbers r t = eqb r.refusal t.refusal && equal_counts r.counts t.counts

-- and the first n bytes of their record buffers
unfoldable pub agreed : ℕ → Ran → Ran → Bool
agreed n r t = same_numbers r t && equal_bytes (take n r.records) (take n t.records)

-- what the call returns
pub record Examined : Type 0 where
  pub refusal : ℕ
  -- the table's length
  pub written : ℕ
  -- the counts of the run by the rules
  pub counts : Counts
  -- the counts of the run of the table
  pub table_counts : Counts
  -- whether the two runs agree
  pub agree : Bool
  -- the three lent buffers afterwards: table, records by the rules, records by the table
  pub table : List ℕ
  pub records : List ℕ
  pub others : List ℕ

-- a refused call: its number, no length, no counts, the three buffers as they were
unfoldable pub refused_exam : ℕ → (table records others : List ℕ) → Examined
refused_exam n table records others = record {
  refusal = n;
  written = 0;
  counts = no_counts;
  table_counts = no_counts;
  agree = false;
  table = table;
  records = records;
  others = others;
}

-- what is reported of the written length, the table's room afterwards and the two runs, whose records are n bytes long
unfoldable pub reported : ℕ → ℕ → List ℕ → Ran → Ran → Examined
reported n written table r t = record {
  refusal = 0;
  written = written;
  counts = r.counts;
  table_counts = t.counts;
  agree = agreed n r t;
  table = table;
  records = r.records;
  others = t.records;
}

module _ (ed : Edition) (file start events table records others : List ℕ) where
  -- the run of the table: of the bytes that compiling wrote, at their written length
  unfoldable pub exam_table : Ran
  exam_table = table_run_of ed (take (compile ed file table).written (compile ed file table).table) start events others

  unfoldable pub examined : Judged ℕ → Examined
  examined (refused n) = refused_exam n table records others
  examined (accepted n) = reported n (compile ed file table).written (compile ed file table).table (rule_run_of ed file start events records) exam_table

  unfoldable pub exam_of : Examined
  exam_of = examined (judge_exam ed file start events table records others)

  -- the call's numbers in their order: those of compiling, those of a run into the first buffer, and 22 of the second; 15 to 19 are not among them
  abbrev pub exam_clauses : List Clause
  exam_clauses =
      compile_clauses ed file table ++ (run_clauses ed (FilePlant ed file) start events records ++ ((22 when Sentence22 ed (FilePlant ed file) start events others) ∷ []))

  -- what holds of a call that is not refused: demand 3, of this schedule, start and list of events
  pub record ExamHolds : Type 0 where
    pub agree-told : exam_of.agree ≡ true
    -- compiling is not refused, and neither is a run
    pub compiled : (compile ed file table).refusal ≡ 0
    pub schedule : Schedule
    pub schedule_read : judge_file ed file ≡ accepted schedule
    pub st : Start
    pub start_read : start_in schedule.plant start ≡ some st
    -- both runs come to what the rules derive
    pub runs : RunsAgree ed schedule st events records others (rule_run_of ed file start events records) exam_table
    -- and that is what is returned
    pub result : exam_of ≡ reported (records_size ed schedule.plant events) (compile ed file table).written (compile ed file table).table
        (rule_run_of ed file start events records) exam_table
