-- What stands where the locations of an accepted table do.
use Rattle.std.specs.Prelude.{◌≡◌, true, List, ℕ, drop}
use Rattle.semantics.specs.Bytes.{read}
use Rattle.semantics.specs.Editions.{Edition}
use Rattle.semantics.specs.Run.{Next}
use Rattle.semantics.specs.TableFile.{NodeAction, Entry, read_location}
use Rattle.semantics.specs.Tables.{location_fits}
use Rattle.semantics.specs.TableRuns.{Coded}

-- the location of the entries es is read at place p of the bytes s; they fit n locations and these actions
pub record LocationPromised (ed : Edition) (s : List ℕ) (p : ℕ) (n : ℕ) (acts : List NodeAction) (es : List Entry) : Type 0 where
  pub rest : List ℕ
  pub reads : read_location ed (drop p s) ≡ read es rest
  pub fits : location_fits n acts es ≡ true

-- a target that leads somewhere: to one of n locations or to an end
abbrev pub Leads : ℕ → ℕ → Type 0
Leads n t = (x : Next ℕ) × Coded n x t
