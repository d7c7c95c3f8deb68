-- The locations of a table: whether they fit the kinds of the actions, and where each stands.
use Rattle.std.specs.Prelude.{◌≡◌, Bool, false, List, ℕ, length, drop}
use Rattle.semantics.specs.Editions.{Edition}
use Rattle.semantics.specs.Run.{Action}
use Rattle.semantics.specs.TableFile.{Entry, kind_number, location_limit, read_location}
use Rattle.semantics.specs.Tables.{targets_fit}
use Rattle.codec.specs.Places.{places_from}
use Rattle.codec.specs.Padding.{pad}
use Rattle.table_read.specs.declared.locations.Locations.{Locations}

abbrev pub entry_node : Entry → ℕ
entry_node e = e.node

-- r is whether targets fit an action of kind k; false where k is no kind
pub record FitsKind (n k t u : ℕ) (r : Bool) : Type 0 where
  pub of_kind : (a : Action) → kind_number a ≡ k → r ≡ targets_fit n a t u
  pub of_none : ((a : Action) → kind_number a ≡ k → ⊥) → r ≡ false

-- where each of the accepted locations of the section s stands
unfoldable pub location_index : Edition → List ℕ → List (List Entry) → Locations
location_index ed s ls = record { count = length ls; places = pad location_limit 0 (places_from (length s) (read_location ed) (length ls) (drop 2 s)) }
