-- Document 01, "Schedule file": how nodes and the whole file are written, and the limits that it prints for them.
-- What is read is shown to be read just where it is such a written form within its limits.
use Rattle.std.specs.Prelude.{◌≡◌, true, ℕ, ◌+◌, ◌≤◌, ◌<◌, length, drop}
use mathlib.Core.List.{List, [], ◌∷◌, ◌++◌, flat_map}
use Rattle.std.proofs.Math.Option.{some}
use Rattle.semantics.specs.Bytes.{All, out, out2}
use Rattle.semantics.specs.Editions.{Edition}
use Rattle.semantics.specs.Sections.{variables_in, equations_in}
use Rattle.semantics.specs.Plant.{Plant}
use Rattle.semantics.specs.TableFile.{in_section2}
use Rattle.semantics.specs.Writing.{AllBytes, SectionLimits, write_variables, write_equations, PlantLimits}
use Rattle.schedules.specs.FileSections.{FileSections, file_sections_in}
use Rattle.schedules.specs.Nodes.{Node, sequence, parallel, while_do, if_else, continue_until, reset, reinitial, switch_to, stop_all, nodes_in}
use Rattle.schedules.specs.Files.{file_header, file_length}

-- ---- nodes
-- "Kinds: 1 SEQUENCE and 2 PARALLEL (child count ..), 3 WHILE (truth ..), 4 IF (truth ..), 5 CONTINUE UNTIL (truth),
-- 6 RESET and 7 REINITIAL (variable, number), 8 SWITCH (selector, mode), 9 STOP."
unfoldable pub node_bytes : Node → List ℕ
node_bytes (sequence k) = 1 ∷ k ∷ []
node_bytes (parallel k) = 2 ∷ k ∷ []
node_bytes (while_do t) = 3 ∷ t
node_bytes (if_else t) = 4 ∷ t
node_bytes (continue_until t) = 5 ∷ t
node_bytes (reset v e) = 6 ∷ v ∷ e
node_bytes (reinitial v e) = 7 ∷ v ∷ e
node_bytes (switch_to s m) = 8 ∷ s ∷ m ∷ []
node_bytes stop_all = 9 ∷ []

-- "child count, at least 1"; numbers of one byte each
pub data PayloadLimits : Node → Type 0 where
  sequence_within : {k : ℕ} → 1 ≤ k → k < 256 → PayloadLimits (sequence k)
  parallel_within : {k : ℕ} → 1 ≤ k → k < 256 → PayloadLimits (parallel k)
  while_within : {t : List ℕ} → AllBytes t → PayloadLimits (while_do t)
  if_within : {t : List ℕ} → AllBytes t → PayloadLimits (if_else t)
  continue_within : {t : List ℕ} → AllBytes t → PayloadLimits (continue_until t)
  reset_within : {v : ℕ} {e : List ℕ} → v < 256 → AllBytes e → PayloadLimits (reset v e)
  reinitial_within : {v : ℕ} {e : List ℕ} → v < 256 → AllBytes e → PayloadLimits (reinitial v e)
  switch_within : {s m : ℕ} → s < 256 → m < 256 → PayloadLimits (switch_to s m)
  stop_within : PayloadLimits stop_all

-- "each with a length byte first (1..200), then kind and payload": a kind is one byte
pub record NodeLimits (x : Node) : Type 0 where
  pub payload : PayloadLimits x
  pub at_most : length (node_bytes x) ≤ 200

-- ---- sections
-- "three sections, each with its 2-byte length first (bytes after it)"
unfoldable pub write_sections : FileSections → List ℕ
write_sections x = in_section2 x.variables ++ (in_section2 x.equations ++ in_section2 x.schedule)

pub record SectionsLimits (x : FileSections) : Type 0 where
  pub variables : SectionLimits 65536 x.variables
  pub equations : SectionLimits 65536 x.equations
  pub schedule : SectionLimits 65536 x.schedule

module _ (ed : Edition) where
  unfoldable pub write_node : Node → List ℕ
  write_node x = out ed.width (length (node_bytes x)) ++ node_bytes x

  -- "Schedule: node count .., then nodes"
  unfoldable pub write_nodes : List Node → List ℕ
  write_nodes ns = out ed.width (length ns) ++ flat_map write_node ns

  -- "node count 1..64"
  pub record NodesLimits (ns : List Node) : Type 0 where
    pub at_least : 1 ≤ length ns
    pub at_most : length ns ≤ ed.nodes
    pub each : All NodeLimits ns

  -- ---- the file
  abbrev pub sections_of : Plant → List Node → FileSections
  sections_of p ns = record { variables = write_variables p.variables; equations = write_equations p.equations; schedule = write_nodes ns }

  -- "Byte 0 is version 1, then the whole file's length (2 bytes), then three sections"
  unfoldable pub write_file : Plant → List Node → List ℕ
  write_file p ns =
      let body = write_sections (sections_of p ns) in
      ed.version ∷ (out2 (3 + length body) ++ body)

  pub record FileLimits (p : Plant) (ns : List Node) : Type 0 where
    pub plant : PlantLimits p
    pub nodes : NodesLimits ns
    pub nodes-length : length (write_nodes ns) < 65536
    pub whole_length : length (write_file p ns) < 65536

  -- 1, 2, 3 and the layouts of 4, 6 and 9: what a file is read as
  pub record FileReadAs (file : List ℕ) (p : Plant) (ns : List Node) : Type 0 where
    pub header : file_header ed file ≡ true
    pub own_length : file_length file ≡ true
    pub sections : FileSections
    pub sections_read : file_sections_in (drop 3 file) ≡ some sections
    pub variables_read : variables_in ed sections.variables ≡ some p.variables
    pub equations_read : equations_in sections.equations ≡ some p.equations
    pub nodes_read : nodes_in ed sections.schedule ≡ some ns
