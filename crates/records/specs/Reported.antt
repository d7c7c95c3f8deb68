-- What a run gives, as the code has it.
use Rattle.std.specs.Prelude.{List, ℕ, Result, Ok, Err}
use Rattle.semantics.specs.Run as Run
use Rattle.semantics.specs.Calls as Calls
use Rattle.paper.specs.Refusals.{number_of}
use Rattle.paper.specs.declared.refusals.Refusal.{Refusal}
use Rattle.records.specs.declared.Counts.{Counts}

-- the counts of the definition
abbrev pub told : Counts → Run.Counts
told c = record { taken = c.taken; turned_away = c.turned_away; faulted = c.faulted }

-- all that a call gives: its number, 0 where nothing is refused, its counts, and the lent record buffer afterwards
unfoldable pub ran_with : Result Counts Refusal → List ℕ → Calls.Ran
ran_with (Ok c) d = record { refusal = 0; counts = told c; records = d }
ran_with (Err why) d = record { refusal = number_of why; counts = Run.no_counts; records = d }
