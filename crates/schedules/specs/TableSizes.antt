-- What the size of a schedule's tree says of its table: as many locations and entries, and how long it is.
use Rattle.std.specs.Prelude.{◌≡◌, ℕ, ◌+◌, ◌*◌, length}
use mathlib.Core.List.{List, flat_map}
use Rattle.semantics.specs.Bytes.{width_of}
use Rattle.semantics.specs.Editions.{Edition}
use Rattle.semantics.specs.Refusals.{accepted}
use Rattle.semantics.specs.TableFile.{Entry, write_actions}
use Rattle.semantics.specs.Tables.{Table, judge_table}
use Rattle.schedules.specs.Nodes.{actions_of}
use Rattle.schedules.specs.Files.{Schedule, judge_file}
use Rattle.schedules.specs.Compiling.{schedule_locations}
use Rattle.schedules.specs.Sizes.{size_of}

-- for each location its entry count; for each entry its node, "target and target on false (2 bytes each)"
abbrev pub rows_length : Edition → ℕ → ℕ → ℕ
rows_length ed locations entries = locations + entries * (width_of ed.width + 4)

-- "Version 1, whole length (4 bytes)", four lengths of sections (2, 2, 2 and 4 bytes) and the number of locations (2 bytes);
-- with them the whole length, from those of the variables and equations, which are copied, of the actions and of the locations' rows
abbrev pub length_of_parts : ℕ → ℕ → ℕ → ℕ → ℕ
length_of_parts variables equations actions rows = 17 + (variables + (equations + (actions + rows)))

unfoldable pub table_length_of : Edition → Schedule → ℕ
table_length_of ed s =
    let z = size_of s.root in
    length_of_parts (length s.sections.variables) (length s.sections.equations) (length (write_actions ed (actions_of s.nodes))) (rows_length ed z.locations z.entries)

-- the table of this file has the size of its tree
pub record TableSized (ed : Edition) (file table : List ℕ) : Type 0 where
  pub schedule : Schedule
  pub schedule_read : judge_file ed file ≡ accepted schedule
  -- the locations that were numbered
  pub numbered : length (schedule_locations schedule) ≡ (size_of schedule.root).locations
  -- the table's bytes, read back
  pub back : Table
  pub table_read : judge_table ed table ≡ accepted back
  pub locations : length back.locations ≡ (size_of schedule.root).locations
  pub entries : length (flat_map (λ (row : List Entry). row) back.locations) ≡ (size_of schedule.root).entries
  pub bytes : length table ≡ table_length_of ed schedule
