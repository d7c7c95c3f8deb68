-- Document 01, "When a file, table or event is turned away": 1 to 14 in their order, with 34 of document 02, item 3, each as a test of the file alone. They serve proofs.
-- What a number says as a proposition is in Sentences.
use Rattle.std.specs.Prelude.{Bool, not, ◌&&◌, List, [], ◌∷◌, ◌++◌, ℕ, length, drop, leb}
use Rattle.std.proofs.Math.Option.{Option, some, bind}
use Rattle.semantics.specs.Bytes.{every, is_some}
use Rattle.semantics.specs.Editions.{Edition}
use Rattle.semantics.specs.Plant.{Plant, selectors, switches_read}
use Rattle.semantics.specs.TableFile.{location_limit}
use Rattle.semantics.specs.Conditions.{Condition, ◌if◌, given, is4, is5, is6, is7, is8, plant_in, run_conditions}
use Rattle.schedules.specs.FileSections.{FileSections, file_sections_in}
use Rattle.schedules.specs.Nodes.{Node, nodes_in, node_named, node_parted, node_reads}
use Rattle.schedules.specs.Trees.{Tree, tree_of}
use Rattle.schedules.specs.Files.{Schedule, file_header, file_length}
use Rattle.schedules.specs.Compiling.{schedule_locations, table_of}

module _ (ed : Edition) (file : List ℕ) where
  -- the parts of the file, where they can be read
  unfoldable pub file_parts : Option FileSections
  file_parts = file_sections_in (drop 3 file)

  unfoldable pub file_plant : Option Plant
  file_plant = bind file_parts (λ parts. plant_in ed parts.variables parts.equations)

  unfoldable pub file_nodes : Option (List Node)
  file_nodes = bind file_parts (λ parts. nodes_in ed parts.schedule)

  unfoldable pub file_tree : Option Tree
  file_tree = bind file_nodes tree_of

  unfoldable pub file_schedule : Option Schedule
  file_schedule =
      bind file_parts (λ parts. bind file_plant (λ p. bind file_nodes (λ ns. bind file_tree (λ t.
      some (record { sections = parts; plant = p; nodes = ns; root = t })))))

  -- 1: "The file has under 3 bytes or byte 0 is not 1."
  unfoldable pub is1 : Bool
  is1 = not (file_header ed file)

  -- 2: "Its length field is not its length."
  unfoldable pub is2 : Bool
  is2 = not (file_length file)

  -- 3: "The three sections do not fill it just so."
  unfoldable pub is3 : Bool
  is3 = not (is_some file_parts)

  -- 4 to 8, of the first two sections
  unfoldable pub of_plant : (Edition → List ℕ → List ℕ → Bool) → Bool
  of_plant is = given file_parts (λ parts. is ed parts.variables parts.equations)

  -- 9: "The schedule section, its node count, a length, kind, payload or child count breaks its layout."
  unfoldable pub is9 : Bool
  is9 = given file_parts (λ parts. not (is_some (nodes_in ed parts.schedule)))

  -- 10: "The nodes do not make just one tree."
  unfoldable pub is10 : Bool
  is10 = given file_nodes (λ ns. not (is_some (tree_of ns)))

  -- 11: "A node names a missing variable, selector or mode, its truth or number left aside."
  unfoldable pub is11 : Bool
  is11 = given file_plant (λ p. given file_nodes (λ ns. not (every (node_named (length p.variables) (selectors p)) ns)))

  -- 34: "RESET belongs to variables that no equation drives, REINITIAL to driven ones. .. a node that breaks it"
  unfoldable pub is34 : Bool
  is34 = given file_plant (λ p. given file_nodes (λ ns. not (every (node_parted p.equations) ns)))

  -- 12: "A truth or number is cut, overlong, too deep, of the wrong sort, has an unknown code or names a missing variable."
  unfoldable pub is12 : Bool
  is12 = given file_plant (λ p. given file_nodes (λ ns. not (every (node_reads ed (length p.variables)) ns && switches_read ed p)))

  -- 13: "There are over 1,024 locations."
  unfoldable pub is13 : Bool
  is13 = given file_schedule (λ s. not (leb (length (schedule_locations s)) location_limit))

  -- 14: "The lent buffer is shorter than the table."
  unfoldable pub is14 : List ℕ → Bool
  is14 buffer = given file_schedule (λ s. not (leb (length (table_of ed s)) (length buffer)))

  -- reading a schedule
  unfoldable pub file_conditions : List Condition
  file_conditions =
      (1 if is1) ∷ (2 if is2) ∷ (3 if is3) ∷ (4 if of_plant is4) ∷ (5 if of_plant is5) ∷ (6 if of_plant is6) ∷ (7 if of_plant is7) ∷ (8 if of_plant is8) ∷
      (9 if is9) ∷ (10 if is10) ∷ (11 if is11) ∷ (34 if is34) ∷ (12 if is12) ∷ []

  -- "Compiling checks 1..14", and 34 with 11
  unfoldable pub compile_conditions : List ℕ → List Condition
  compile_conditions buffer = file_conditions ++ ((13 if is13) ∷ (14 if is14 buffer) ∷ [])

  -- "the rule run 1..12 and 20..22", and 34 with 11
  unfoldable pub rule_run_conditions : List ℕ → List ℕ → List ℕ → List Condition
  rule_run_conditions start events buffer = file_conditions ++ run_conditions ed file_plant start events buffer
