-- What the programs that run take from their arguments and give out.
use Rattle.std.specs.Prelude.{◌≡◌, Bool, ◌||◌, Option, Some, IfSome, Result, Ok, Err, ℕ, ◌≤◌, ◌<◌, eqb, length}
use Rattle.records.specs.declared.Counts.{Counts}
use Rattle.initial_start.specs.declared.Start.{Start}

-- the program's name and two or three files
unfoldable pub asked : ℕ → Bool
asked words = eqb words 3 || eqb words 4

-- the initial start where no third file is named; else what stands in a file, no more than its room
pub data Chooses (words : ℕ) (initial : Start) (r : Option Start) : Type 0 where
  its_own : words < 4 → r ≡ Some initial → Chooses words initial r
  from_file : 4 ≤ words → IfSome r (λ s. s.length ≤ length s.bytes) → Chooses words initial r

-- a run that is not refused has records of so many bytes
abbrev pub size_of : Result Counts ℕ → ℕ → Result ℕ ℕ
size_of (Ok counts) n = Ok n
size_of (Err number) n = Err number
