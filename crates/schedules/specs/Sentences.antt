-- Document 01, "When a file, table or event is turned away": 1 to 14 in their order, with 34 of document 02, item 3, each with its sentence as a proposition
-- about the file, as in semantics' Sentences.
use Rattle.std.specs.Prelude.{◌≡◌, List, [], ◌∷◌, ◌++◌, ℕ, ◌≤◌, length}
use Rattle.semantics.specs.Bytes.{All, be2}
use Rattle.semantics.specs.Editions.{Edition}
use Rattle.semantics.specs.Plant.{Plant}
use Rattle.semantics.specs.Writing.{write_variables, VariablesLimits, write_equations, EquationsLimits}
use Rattle.semantics.specs.Proper.{Truths}
use Rattle.semantics.specs.Sentences.{Clause, ◌when◌, Fails, WrittenAs, PlantSections, plant_clauses, run_clauses}
use Rattle.schedules.specs.FileSections.{FileSections}
use Rattle.schedules.specs.Nodes.{Node}
use Rattle.schedules.specs.Trees.{Tree}
use Rattle.schedules.specs.Preorder.{Written}
use Rattle.schedules.specs.Files.{Schedule}
use Rattle.schedules.specs.Writing.{write_sections, SectionsLimits, write_nodes, NodesLimits}
use Rattle.schedules.specs.Proper.{NamedNode, PartedNode, ReadNode, ScheduleWritten}
use Rattle.schedules.specs.Agreement.{TooMany}
use Rattle.schedules.specs.TableSizes.{table_length_of}

-- "Byte 0 is version 1, then the whole file's length (2 bytes)", and the bytes after them
pub record FileHead : Type 0 where
  pub version : ℕ
  pub length_field : ℕ
  pub rest : List ℕ

pub data HeadOfFile : List ℕ → FileHead → Type 0 where
  three_bytes : {v a b : ℕ} {s : List ℕ} → HeadOfFile (v ∷ a ∷ b ∷ s) (record { version = v; length_field = be2 a b; rest = s })

-- what 11, 34 and 12 speak of
pub record FileSource : Type 0 where
  pub plant : Plant
  pub nodes : List Node

-- every truth and number of the nodes and of the switches can be read
pub record AllRead (ed : Edition) (x : FileSource) : Type 0 where
  pub nodes : All (ReadNode ed x.plant) x.nodes
  pub switches : All (Truths ed (length x.plant.variables)) x.plant.equations

module _ (file : List ℕ) where
  pub record FileSectionsThere (x : FileSections) : Type 0 where
    pub head : FileHead
    pub is-head : HeadOfFile file head
    pub sections : WrittenAs write_sections SectionsLimits head.rest x

  -- its first two sections
  pub data PlantSectionsOfFile : PlantSections → Type 0 where
    of_file : {x : FileSections} → FileSectionsThere x → PlantSectionsOfFile (record { variables = x.variables; equations = x.equations })

module _ (ed : Edition) (file : List ℕ) where
  pub record NodesThere (ns : List Node) : Type 0 where
    pub parts : FileSections
    pub there : FileSectionsThere file parts
    pub nodes : WrittenAs (write_nodes ed) (NodesLimits ed) parts.schedule ns

  pub record FileSourceThere (x : FileSource) : Type 0 where
    pub parts : FileSections
    pub there : FileSectionsThere file parts
    pub variables : WrittenAs write_variables VariablesLimits parts.variables x.plant.variables
    pub equations : WrittenAs write_equations EquationsLimits parts.equations x.plant.equations
    pub nodes : WrittenAs (write_nodes ed) (NodesLimits ed) parts.schedule x.nodes

  -- 1: "The file has under 3 bytes or byte 0 is not 1."
  abbrev pub Sentence1 : Type 0
  Sentence1 = (h : FileHead) → HeadOfFile file h → h.version ≡ ed.version → ⊥

  -- 2: "Its length field is not its length."
  abbrev pub Sentence2 : Type 0
  Sentence2 = Fails (HeadOfFile file) (λ h. h.length_field ≡ length file)

  -- 3: "The three sections do not fill it just so."
  abbrev pub Sentence3 : Type 0
  Sentence3 = Fails (HeadOfFile file) (λ h. (x : FileSections) × WrittenAs write_sections SectionsLimits h.rest x)

  -- 9: "The schedule section, its node count, a length, kind, payload or child count breaks its layout."
  abbrev pub Sentence9 : Type 0
  Sentence9 = Fails (FileSectionsThere file) (λ x. (ns : List Node) × WrittenAs (write_nodes ed) (NodesLimits ed) x.schedule ns)

  -- 10: "The nodes do not make just one tree."
  abbrev pub Sentence10 : Type 0
  Sentence10 = Fails NodesThere (λ ns. (t : Tree) × Written t 0 ns)

  -- 11: "A node names a missing variable, selector or mode, its truth or number left aside."
  abbrev pub Sentence11 : Type 0
  Sentence11 = Fails FileSourceThere (λ x. All (NamedNode x.plant) x.nodes)

  -- 34: "RESET belongs to variables that no equation drives, REINITIAL to driven ones. .. a node that breaks it"
  abbrev pub Sentence34 : Type 0
  Sentence34 = Fails FileSourceThere (λ x. All (PartedNode x.plant) x.nodes)

  -- 12: "A truth or number is cut, overlong, too deep, of the wrong sort, has an unknown code or names a missing variable."
  abbrev pub Sentence12 : Type 0
  Sentence12 = Fails FileSourceThere (AllRead ed)

  -- reading a schedule; 4 to 8 are those of its first two sections; "34, directly after 11"
  abbrev pub file_clauses : List Clause
  file_clauses =
      (1 when Sentence1) ∷ (2 when Sentence2) ∷ (3 when Sentence3) ∷ (plant_clauses (PlantSectionsOfFile file) ++
      ((9 when Sentence9) ∷ (10 when Sentence10) ∷ (11 when Sentence11) ∷ (34 when Sentence34) ∷ (12 when Sentence12) ∷ []))

  -- 13: "There are over 1,024 locations."
  abbrev pub Sentence13 : Type 0
  Sentence13 = (s : Schedule) × ScheduleWritten ed file s × TooMany s

  -- 14: "The lent buffer is shorter than the table.", whose length is told by the sections, the actions and the size of the tree
  abbrev pub Sentence14 : List ℕ → Type 0
  Sentence14 buffer = Fails (ScheduleWritten ed file) (λ s. table_length_of ed s ≤ length buffer)

  -- "Compiling checks 1..14", and 34 with 11
  abbrev pub compile_clauses : List ℕ → List Clause
  compile_clauses buffer = file_clauses ++ ((13 when Sentence13) ∷ (14 when Sentence14 buffer) ∷ [])

  -- the plant of an accepted file
  pub data FilePlant : Plant → Type 0 where
    file-plant : {s : Schedule} → ScheduleWritten ed file s → FilePlant s.plant

  -- "the rule run 1..12 and 20..22", and 34 with 11
  abbrev pub rule_run_clauses : List ℕ → List ℕ → List ℕ → List Clause
  rule_run_clauses start events buffer = file_clauses ++ run_clauses ed FilePlant start events buffer
