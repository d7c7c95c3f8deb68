-- The location section of a table, from the arrays of the tree.
use Rattle.std.specs.Prelude.{◌≡◌, List, ℕ, ◌+◌, ◌*◌, ◌≤◌, length, get_or}
use Rattle.semantics.specs.Editions.{Edition}
use Rattle.semantics.specs.TableFile.{location_limit, location_section, write_locations}
use Rattle.schedules.specs.Trees.{Tree}
use Rattle.schedules.specs.Numbering.{locations}
use Rattle.schedules.specs.Compiling.{rows_of}
use Rattle.schedules.specs.Laid.{Lies}
use Rattle.numbering.specs.Meeting.{tests_in}
use Rattle.numbering.specs.Located.{all_rows}
use Rattle.table_write.specs.Pieces.{Put}

-- the section of the tree's locations
abbrev pub section_of : Edition → List ℕ → Tree → List ℕ
section_of ed acts t = location_section (write_locations ed (rows_of (tests_in acts) (locations (tests_in acts) t)))

-- the tree that lies in the arrays, of no more nodes than the edition has, has n locations, no more than a table may hold, whose rows take so many bytes;
-- a row has a count and at most 256 entries of at most 6 bytes
pub record Counts (ed : Edition) (ks es acts : List ℕ) (n size : ℕ) (t : Tree) : Type 0 where
  pub lies : Lies ks es t
  pub counts : length (locations (tests_in acts) t) ≡ n
  pub sizes : length (all_rows ed (tests_in acts) t) ≡ size
  pub small : get_or es 0 0 ≤ ed.nodes
  pub few : n ≤ location_limit
  pub short : size ≤ location_limit * 1537

-- some tree does, and there is room for its section at a place
pub record Counted (ed : Edition) (ks es acts : List ℕ) (n size : ℕ) (d : List ℕ) (i : ℕ) : Type 0 where
  pub tree : Tree
  pub has : Counts ed ks es acts n size tree
  pub room : i + length (section_of ed acts tree) ≤ length d

-- its section is written at a place
pub record LocationsPut (ed : Edition) (ks es acts : List ℕ) (n size : ℕ) (d : List ℕ) (i : ℕ) (d' : List ℕ) (r : ℕ) : Type 0 where
  pub of : (t : Tree) → Counts ed ks es acts n size t → Put d i (section_of ed acts t) d' r
