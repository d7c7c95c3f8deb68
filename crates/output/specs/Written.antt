-- How many bytes the programs write.
use Rattle.std.specs.Prelude.{◌≡◌, Bool, true, false, ◌&&◌, cond, List, ℕ, ◌*◌, leb, length, Option, Some, None, Result, Ok, Err}
use Rattle.semantics.specs.Editions.{Edition}
use Rattle.semantics.specs.Sections.{variable_limit, equation_limit}
use Rattle.semantics.specs.Plant.{Plant, selectors}
use Rattle.semantics.specs.Calls.{records_size}

-- the programs have room for 10,000 events: so many bytes
abbrev pub event_room : Edition → ℕ
event_room ed = 10000 * ed.event_bytes

-- a program has room for so many event bytes, and a plant can be so large
unfoldable pub in_room : Edition → (events variables selectors : ℕ) → Bool
in_room ed e v s = leb e (event_room ed) && (leb v variable_limit && leb s equation_limit)

-- the records of so many event bytes, of every plant with so many variables and selectors, take so many bytes; none where there is no such room
pub record RecordsTake (ed : Edition) (e v s : ℕ) (r : Option ℕ) : Type 0 where
  pub all : in_room ed e v s ≡ true → (p : Plant) (events : List ℕ) → length events ≡ e → length p.variables ≡ v → length (selectors p) ≡ s → r ≡ Some (records_size ed p events)
  pub none : in_room ed e v s ≡ false → r ≡ None

-- how many bytes a program gives of what a call answered: so many of a buffer, none where it has fewer; of a refusal one
abbrev pub given : {A : Type 0} → Result ℕ A → List ℕ → ℕ
given (Ok n) bytes = cond (leb n (length bytes)) n 0
given (Err why) bytes = 1
