-- A table that is lent to a run: what the reader promises of its bytes, index and ranges.
use Rattle.std.specs.Prelude.{◌≡◌, List, ℕ, ◌^◌, ◌≤◌, ◌<◌, ℤ, length, get_or}
use Rattle.std.proofs.Math.Option.{some}
use Rattle.semantics.specs.Editions.{Edition}
use Rattle.semantics.specs.Refusals.{accepted}
use Rattle.semantics.specs.Run.{Action}
use Rattle.semantics.specs.TableFile.{location_limit}
use Rattle.semantics.specs.Tables.{Table, action_at, entries_at, judge_table}
use Rattle.program.specs.Lent.{Lent, lent, PlantLent, NodeLent}
use Rattle.table_read.specs.declared.call.TableIndex.{TableIndex}
use Rattle.table_read.specs.Promised.{LocationPromised}
use Rattle.table_read.specs.TableIndex.{table_index}

-- location x stands at its place
pub record LocationLent (ed : Edition) (t : Table) (l : Lent) (x : ℕ) : Type 0 where
  pub row : x < location_limit
  pub promised : LocationPromised ed l.bytes (get_or l.locations x 0) (length t.locations) t.actions (entries_at t x)

pub record LocationsLent (ed : Edition) (t : Table) (l : Lent) : Type 0 where
  pub few : length t.locations ≤ location_limit
  pub at : (x : ℕ) → x < length t.locations → LocationLent ed t l x

-- the arrays hold the table: its plant, what each node with an action does, and its locations
pub record TableLent (ed : Edition) (t : Table) (l : Lent) : Type 0 where
  pub plant : PlantLent t.plant l
  pub nodes : (n : ℕ) (a : Action) → action_at t.actions n ≡ some a → NodeLent ed t.plant a l n
  pub locations : LocationsLent ed t l
  pub some_location : 1 ≤ length t.locations

-- where x is the index of an accepted table, of a length that a slice can have, ix and rs lend it together with the table's bytes
abbrev pub TablePrograms : TableIndex → List ℕ → List ℤ → Type 0
TablePrograms x ix rs = (ed : Edition) (f : List ℕ) (t : Table) → x ≡ table_index ed f t → length f < 2 ^ 64 → judge_table ed f ≡ accepted t → TableLent ed t (lent f ix rs)
