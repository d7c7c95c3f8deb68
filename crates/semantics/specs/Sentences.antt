-- Document 01, "When a file, table or event is turned away": the numbers of a call in their order, each with its sentence as a proposition about the input.
-- No reader and no test of a call stands in a sentence: bytes are told by the written forms of what they stand for.
-- A sentence speaks of parts that are there; where they are not, an earlier number applies and the sentence says nothing, for all numbers alike.
use Rattle.std.specs.Prelude.{◌≡◌, List, [], ◌∷◌, ◌++◌, ◌⊎◌, ℕ, ◌*◌, ◌≤◌, length}
use Rattle.semantics.specs.Bytes.{All, be4}
use Rattle.semantics.specs.Editions.{Edition}
use Rattle.semantics.specs.Sections.{Variable, Equation}
use Rattle.semantics.specs.Plant.{Plant}
use Rattle.semantics.specs.TableFile.{NodeAction, Entry, TableSections, write_actions, write_locations, write_table_sections}
use Rattle.semantics.specs.Tables.{Table}
use Rattle.semantics.specs.Starts.{Start}
use Rattle.semantics.specs.Writing.{write_variables, VariablesLimits, write_equations, EquationsLimits, TableSectionsLimits, ActionsLimits, LocationsLimits}
use Rattle.semantics.specs.Rules.{InRange}
use Rattle.semantics.specs.Writing.{start_bytes, StartLimits}
use Rattle.semantics.specs.Proper.{Named, DrivenOnce, Truths, ProperActions, ProperLocations, TableWritten}
use Rattle.semantics.specs.Calls.{record_size}

-- a number and its sentence
pub record Clause : Type 1 where
  pub number : ℕ
  pub holds : Type 0

infix 2 ◌when◌
abbrev pub ◌when◌ : ℕ → Type 0 → Clause
◌when◌ n P = record { number = n; holds = P }

-- ---- "A call returns the first that applies"
-- n is the number of the first sentence that holds
pub data FirstHolds (n : ℕ) : List Clause → Type 1 where
  holds_here : {c : Clause} {l : List Clause} → c.number ≡ n → c.holds → FirstHolds n (c ∷ l)
  holds_further : {c : Clause} {l : List Clause} → (c.holds → ⊥) → FirstHolds n l → FirstHolds n (c ∷ l)

-- some sentence holds
abbrev pub AnyHolds : List Clause → Type 0
AnyHolds [] = ⊥
AnyHolds (c ∷ l) = c.holds ⊎ AnyHolds l

-- the parts that a sentence speaks of are there, and what is asked of them fails
pub record Fails {A : Type 0} (There Asked : A → Type 0) : Type 0 where
  pub part : A
  pub there : There part
  pub broken : Asked part → ⊥

-- these bytes are the written form of a, which lies within its limits
pub record WrittenAs {A : Type 0} (write : A → List ℕ) (Limits : A → Type 0) (s : List ℕ) (a : A) : Type 0 where
  pub bytes : s ≡ write a
  pub limits : Limits a

-- ---- 4 to 8 and 12, of a variable and an equation section
pub record PlantSections : Type 0 where
  pub variables : List ℕ
  pub equations : List ℕ

module _ (There : PlantSections → Type 0) where
  pub record VariablesThere (xs : List Variable) : Type 0 where
    pub sections : PlantSections
    pub there : There sections
    pub variables : WrittenAs write_variables VariablesLimits sections.variables xs

  pub record PlantThere (p : Plant) : Type 0 where
    pub sections : PlantSections
    pub there : There sections
    pub variables : WrittenAs write_variables VariablesLimits sections.variables p.variables
    pub equations : WrittenAs write_equations EquationsLimits sections.equations p.equations

  -- 4: "The variable count or section length is wrong."
  abbrev pub Sentence4 : Type 0
  Sentence4 = Fails There (λ s. (xs : List Variable) × WrittenAs write_variables VariablesLimits s.variables xs)

  -- 5: "Minimum ≤ initial ≤ maximum fails."
  abbrev pub Sentence5 : Type 0
  Sentence5 = Fails VariablesThere (All (λ (x : Variable). InRange x x.initial))

  -- 6: "The equation section breaks its layout or a count."
  abbrev pub Sentence6 : Type 0
  Sentence6 = Fails There (λ s. (es : List Equation) × WrittenAs write_equations EquationsLimits s.equations es)

  -- 7: "An equation names a missing variable or mode, truths left aside."
  abbrev pub Sentence7 : Type 0
  Sentence7 = Fails PlantThere (λ p. All (Named (length p.variables)) p.equations)

  -- 8: "A variable is in two equations or twice in one mode."
  abbrev pub Sentence8 : Type 0
  Sentence8 = Fails PlantThere (λ p. DrivenOnce p.equations)

  -- 12, of the switches: "A truth or number is cut, overlong, too deep, of the wrong sort, has an unknown code or names a missing variable."
  abbrev pub SwitchSentence12 : Edition → Type 0
  SwitchSentence12 ed = Fails PlantThere (λ p. All (Truths ed (length p.variables)) p.equations)

  abbrev pub plant_clauses : List Clause
  plant_clauses = (4 when Sentence4) ∷ (5 when Sentence5) ∷ (6 when Sentence6) ∷ (7 when Sentence7) ∷ (8 when Sentence8) ∷ []

-- ---- tables
-- "Version 1, whole length (4 bytes)", and the bytes after them
pub record TableHead : Type 0 where
  pub version : ℕ
  pub length_field : ℕ
  pub rest : List ℕ

pub data HeadOfTable : List ℕ → TableHead → Type 0 where
  five_bytes : {v a b c d : ℕ} {s : List ℕ} → HeadOfTable (v ∷ a ∷ b ∷ c ∷ d ∷ s) (record { version = v; length_field = be4 a b c d; rest = s })

-- what 18 speaks of: the sections and the plant
pub record TableSource : Type 0 where
  pub sections : TableSections
  pub plant : Plant

-- what 19 speaks of: the sections and the actions that 18 lets pass
pub record TableActions : Type 0 where
  pub sections : TableSections
  pub actions : List NodeAction

module _ (ed : Edition) where
  pub record ActionsOf (x : TableSource) (l : List NodeAction) : Type 0 where
    pub written : WrittenAs (write_actions ed) (ActionsLimits ed) x.sections.actions l
    pub proper : ProperActions ed x.plant l

  pub record LocationsOf (x : TableActions) (l : List (List Entry)) : Type 0 where
    pub written : WrittenAs (write_locations ed) (LocationsLimits ed) x.sections.locations l
    pub proper : ProperLocations x.actions l

module _ (table : List ℕ) where
  pub record TableSectionsThere (x : TableSections) : Type 0 where
    pub head : TableHead
    pub is-head : HeadOfTable table head
    pub sections : WrittenAs write_table_sections TableSectionsLimits head.rest x

  -- its first two sections
  pub data PlantSectionsOfTable : PlantSections → Type 0 where
    of-table : {x : TableSections} → TableSectionsThere x → PlantSectionsOfTable (record { variables = x.variables; equations = x.equations })

  pub record SourceThere (x : TableSource) : Type 0 where
    pub sections : TableSectionsThere x.sections
    pub variables : WrittenAs write_variables VariablesLimits x.sections.variables x.plant.variables
    pub equations : WrittenAs write_equations EquationsLimits x.sections.equations x.plant.equations

module _ (ed : Edition) (table : List ℕ) where
  pub record ProperHead (h : TableHead) : Type 0 where
    pub is-head : HeadOfTable table h
    pub version : h.version ≡ ed.version
    pub own_length : h.length_field ≡ length table

  pub record ActionsThere (x : TableActions) : Type 0 where
    pub plant : Plant
    pub source : SourceThere table (record { sections = x.sections; plant = plant })
    pub actions : ActionsOf ed (record { sections = x.sections; plant = plant }) x.actions

  -- 15: "The table has under 5 bytes, or a wrong version or length."
  abbrev pub Sentence15 : Type 0
  Sentence15 = (h : TableHead) → ProperHead h → ⊥

  -- 16: "Its four sections do not fill it."
  abbrev pub Sentence16 : Type 0
  Sentence16 = Fails (HeadOfTable table) (λ h. (x : TableSections) × WrittenAs write_table_sections TableSectionsLimits h.rest x)

  -- 17: "Its first two sections break 4..8 or 12."
  abbrev pub Sentence17 : Type 0
  Sentence17 = AnyHolds (plant_clauses (PlantSectionsOfTable table) ++ ((12 when SwitchSentence12 (PlantSectionsOfTable table) ed) ∷ []))

  -- 18: "An action count is outside 1..64, a node number above 63 or not rising, or a kind, length or operand wrong (..),
  -- or bytes are missing or left over."
  abbrev pub Sentence18 : Type 0
  Sentence18 = Fails (SourceThere table) (λ x. (l : List NodeAction) × ActionsOf ed x l)

  -- 19: "A location count is outside 1..1,024, an entry count 0, a node unknown or not rising, a target unfit for its kind,
  -- or bytes are missing or left over."
  abbrev pub Sentence19 : Type 0
  Sentence19 = Fails ActionsThere (λ x. (l : List (List Entry)) × LocationsOf ed x l)

  abbrev pub table_clauses : List Clause
  table_clauses = (15 when Sentence15) ∷ (16 when Sentence16) ∷ (17 when Sentence17) ∷ (18 when Sentence18) ∷ (19 when Sentence19) ∷ []

  -- the plant of an accepted table
  pub data TablePlant : Plant → Type 0 where
    table-plant : {t : Table} → TableWritten ed table t → TablePlant t.plant

-- ---- a run of the plant of an accepted file or table
module _ (ed : Edition) (Accepted : Plant → Type 0) (start events buffer : List ℕ) where
  -- 20: "The starting values (4 bytes each, then modes) have a wrong length, value or mode."
  abbrev pub Sentence20 : Type 0
  Sentence20 = Fails Accepted (λ p. (st : Start) × WrittenAs start_bytes (StartLimits p) start st)

  -- 21: "The event bytes are not a multiple of 3."
  abbrev pub Sentence21 : Type 0
  Sentence21 = Fails Accepted (λ p. (n : ℕ) × (length events ≡ n * ed.event_bytes))

  -- 22: "The record buffer is too short.": for a record of each of the n events, whole ones as 21 asks
  abbrev pub Sentence22 : Type 0
  Sentence22 = Fails Accepted (λ p. (n : ℕ) → length events ≡ n * ed.event_bytes → n * record_size ed p ≤ length buffer)

  abbrev pub run_clauses : List Clause
  run_clauses = (20 when Sentence20) ∷ (21 when Sentence21) ∷ (22 when Sentence22) ∷ []

-- "the table run 15..22"
abbrev pub table_run_clauses : Edition → List ℕ → List ℕ → List ℕ → List ℕ → List Clause
table_run_clauses ed table start events buffer = table_clauses ed table ++ run_clauses ed (TablePlant ed table) start events buffer
