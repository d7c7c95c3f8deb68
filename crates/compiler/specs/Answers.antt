-- What the calls return in code, as the definitions have it.
use Rattle.std.specs.Prelude.{List, ℕ, Result, Ok, Err}
use Rattle.schedules.specs.Calls as calls
use Rattle.paper.specs.Refusals.{number_of}
use Rattle.paper.specs.declared.refusals.Refusal.{Refusal}
use Rattle.compiler.specs.declared.call.Compiled.{Compiled}
use Rattle.compiler.specs.declared.size.TableSize.{TableSize}

-- all that compiling returns and leaves, by its numbers
abbrev pub returned : ℕ → ℕ → ℕ → List ℕ → calls.Compiled
returned refusal written comparisons table = record { refusal = refusal; written = written; comparisons = comparisons; table = table }

abbrev pub sized : ℕ → ℕ → ℕ → calls.Sized
sized refusal locations entries = record { refusal = refusal; locations = locations; entries = entries }

-- the same of what the code answers; of a refusal all other numbers are 0
abbrev pub told : Result Compiled Refusal → List ℕ → calls.Compiled
told (Ok c) table = returned 0 c.length c.comparisons table
told (Err why) table = returned (number_of why) 0 0 table

abbrev pub told_size : Result TableSize Refusal → calls.Sized
told_size (Ok s) = sized 0 s.locations s.entries
told_size (Err why) = sized (number_of why) 0 0
