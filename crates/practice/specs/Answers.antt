-- What the call returns in code, as the definition has it.
use Rattle.std.specs.Prelude.{ℕ, List, Result, Ok, Err}
use Rattle.semantics.specs.Practice.{Practised}
use Rattle.paper.specs.Refusals.{number_of}
use Rattle.paper.specs.declared.refusals.Refusal.{Refusal}

-- all that it returns and leaves: 0 and the length, or the refusal's number and length 0
abbrev pub practised : Result ℕ Refusal → List ℕ → Practised
practised (Ok n) events = record { refusal = 0; written = n; events = events }
practised (Err why) events = record { refusal = number_of why; written = 0; events = events }
