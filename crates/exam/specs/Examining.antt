-- What the contracts of the code cite.
use Rattle.std.specs.Prelude.{◌≡◌, true, List, ℕ, Result, Ok, Err}
use Rattle.semantics.specs.Editions.{Edition}
use Rattle.semantics.specs.Refusals.{accepted}
use Rattle.semantics.specs.Calls.{room_for_records}
use Rattle.paper.specs.Refusals.{number_of}
use Rattle.paper.specs.declared.refusals.Refusal.{Refusal}
use Rattle.schedules.specs.Files.{Schedule, judge_file}
use Rattle.schedules.specs.Exam as Exam
use Rattle.records.specs.Reported.{told}
use Rattle.exam.specs.declared.Examined.{Examined}

-- all that the call gives: its numbers, of a refusal all others 0, and the three lent buffers afterwards
unfoldable pub examined_with : Result Examined Refusal → (table records others : List ℕ) → Exam.Examined
examined_with (Err why) table records others = Exam.refused_exam (number_of why) table records others
examined_with (Ok r) table records others = record {
  refusal = 0;
  written = r.length;
  counts = told r.counts;
  table_counts = told r.table_counts;
  agree = r.agree;
  table = table;
  records = records;
  others = others;
}

-- the file is a schedule, and there is room for the records of its run
pub record Room (ed : Edition) (file events records : List ℕ) : Type 0 where
  pub schedule : Schedule
  pub schedule_read : judge_file ed file ≡ accepted schedule
  pub enough : room_for_records ed schedule.plant events records ≡ true
