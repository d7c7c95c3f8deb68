-- The calls over a schedule file: all that each returns, and what a lent buffer holds afterwards, for all inputs.
use Rattle.std.specs.Prelude.{Bool, cond, List, ℕ, suc, leb, length}
use Rattle.semantics.specs.Bytes.{overwrite}
use Rattle.semantics.specs.Editions.{Edition}
use Rattle.semantics.specs.Refusals.{Judged, refused, accepted, ◌>>=◌}
use Rattle.semantics.specs.Plant.{selectors}
use Rattle.semantics.specs.TableFile.{location_limit}
use Rattle.semantics.specs.Calls.{Program, judge_run, Ran, report}
use Rattle.schedules.specs.Residuals.{Residual}
use Rattle.schedules.specs.Files.{Schedule, judge_file, rule_control}
use Rattle.schedules.specs.Compiling.{schedule_comparisons, judge_compile}
use Rattle.schedules.specs.Sizes.{Size, size_of}

-- ---- the call "reading a schedule": 1 to 11, 34 and 12
pub record ScheduleRead : Type 0 where
  pub refusal : ℕ
  pub variables : ℕ
  pub selectors : ℕ
  pub nodes : ℕ

unfoldable pub schedule_counts : Judged Schedule → ScheduleRead
schedule_counts (refused n) = record { refusal = n; variables = 0; selectors = 0; nodes = 0 }
schedule_counts (accepted s) = record {
  refusal = 0;
  variables = length s.plant.variables;
  selectors = length (selectors s.plant);
  nodes = length s.nodes;
}

unfoldable pub read_schedule : Edition → List ℕ → ScheduleRead
read_schedule ed f = schedule_counts (judge_file ed f)

-- ---- the call "size of a schedule": the numbers of reading; how many locations and entries its table has
pub record Sized : Type 0 where
  pub refusal : ℕ
  pub locations : ℕ
  pub entries : ℕ

-- 1,025 locations stand for any number above 1,024 (13), and their entries are then not counted; f: can it finish, which is not told
unfoldable pub too_many_for : Bool → Size
too_many_for f = record { locations = suc location_limit; entries = 0; finishes = f }

unfoldable pub cap : Size → Size
cap a = cond (leb a.locations location_limit) a (too_many_for a.finishes)

-- the exact numbers, or 1,025 and 0 where there are over 1,024 locations
unfoldable pub size_told : Size → Sized
size_told a = let b = cap a in record { refusal = 0; locations = b.locations; entries = b.entries }

unfoldable pub size_counts : Judged Schedule → Sized
size_counts (refused n) = record { refusal = n; locations = 0; entries = 0 }
size_counts (accepted s) = size_told (size_of s.root)

unfoldable pub size : Edition → List ℕ → Sized
size ed f = size_counts (judge_file ed f)

-- ---- the call "running a schedule by the rules": the numbers of reading, and 20 to 22
abbrev pub program_of : Schedule → Program Residual
program_of s = record { plant = s.plant; control = rule_control s }

unfoldable pub rule_program : Edition → List ℕ → Judged (Program Residual)
rule_program ed f = do
  s ← judge_file ed f
  accepted (program_of s)

unfoldable pub rule_run_of : Edition → List ℕ → List ℕ → List ℕ → List ℕ → Ran
rule_run_of ed f start events buffer = report buffer (judge_run ed (rule_program ed f) start events buffer)

-- ---- the call "compiling": the numbers of reading, then 13 and 14
pub record Compiled : Type 0 where
  pub refusal : ℕ
  pub written : ℕ
  -- document 02, item 4: "Compiling also returns how many comparisons it made"
  pub comparisons : ℕ
  -- the lent buffer afterwards
  pub table : List ℕ

-- n: the comparisons of numbering; on any refusal, 13 and 14 too, the count is 0
unfoldable pub compiled_into : ℕ → List ℕ → Judged (List ℕ) → Compiled
compiled_into n buffer (refused k) = record { refusal = k; written = 0; comparisons = 0; table = buffer }
compiled_into n buffer (accepted t) = record { refusal = 0; written = length t; comparisons = n; table = overwrite t buffer }

-- a file that is refused has no schedule to number
unfoldable pub file_comparisons : Judged Schedule → ℕ
file_comparisons (refused n) = 0
file_comparisons (accepted s) = schedule_comparisons s

unfoldable pub compile : Edition → List ℕ → List ℕ → Compiled
compile ed f buffer = compiled_into (file_comparisons (judge_file ed f)) buffer (judge_compile ed f buffer)
