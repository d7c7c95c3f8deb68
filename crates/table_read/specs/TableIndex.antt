-- The call "reading a table" (15 to 19), as the code answers it, and the index that a run of the table looks into.
use Rattle.std.specs.Prelude.{List, ℕ, Result, Ok, Err}
use Rattle.semantics.specs.Editions.{Edition}
use Rattle.semantics.specs.TableFile.{TableSections}
use Rattle.semantics.specs.Tables.{Table}
use Rattle.semantics.specs.Calls as Calls
use Rattle.paper.specs.Refusals.{number_of}
use Rattle.paper.specs.declared.refusals.Refusal.{Refusal}
use Rattle.plant.specs.PlantRead.{accepted_plant}
use Rattle.table_read.specs.declared.parts.Parts.{Parts}
use Rattle.table_read.specs.declared.call.TableIndex.{TableIndex}
use Rattle.table_read.specs.declared.call.TableRead.{TableRead}
use Rattle.table_read.specs.TableParts.{parts_in, sections_of}
use Rattle.table_read.specs.ActionIndex.{action_index}
use Rattle.table_read.specs.LocationIndex.{location_index}

-- the five numbers that the call gives: 0 or why it refuses, and the counts, all 0 then
unfoldable pub told : Result TableRead Refusal → Calls.TableRead
told (Ok r) = record { refusal = 0; variables = r.variables; selectors = r.selectors; actions = r.actions; locations = r.locations }
told (Err why) = record { refusal = number_of why; variables = 0; selectors = 0; actions = 0; locations = 0 }

-- what the code has of the table t with the sections s, themselves at the places p
unfoldable pub index_of : Edition → Parts → TableSections → Table → TableIndex
index_of ed p s t = record {
  parts = p;
  plant = accepted_plant t.plant;
  actions = action_index ed s.actions t.actions;
  locations = location_index ed s.locations t.locations;
}

-- of the table t in the bytes f
unfoldable pub table_index : Edition → List ℕ → Table → TableIndex
table_index ed f t = index_of ed (parts_in (sections_of f)) (sections_of f) t
