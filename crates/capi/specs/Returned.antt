-- What a run called from C gives: the returned number, the numbers behind its pointers, and the lent buffer afterwards.
use Rattle.std.specs.Prelude.{List, ℕ}
use Rattle.semantics.specs.Calls.{Ran}
use Rattle.semantics.specs.Practice.{Practised}

-- a run: the number, the three counts, the records' buffer
abbrev pub ran : ℕ → ℕ → ℕ → ℕ → List ℕ → Ran
ran refusal taken away faulted records = record { refusal = refusal; counts = record { taken = taken; turned_away = away; faulted = faulted }; records = records }

-- practice events: the number, their length, the events' buffer
abbrev pub practised : ℕ → ℕ → List ℕ → Practised
practised refusal written events = record { refusal = refusal; written = written; events = events }
