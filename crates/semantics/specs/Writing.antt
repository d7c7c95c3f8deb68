-- Document 01: how variables, equations, tables and starts are written, and the limits that it prints for them.
-- What is read is shown to be read just where it is such a written form within its limits.
use Rattle.std.specs.Prelude.{◌≡◌, true, ℕ, suc, ◌≤◌, ◌<◌, length, drop}
use mathlib.Core.List.{List, [], ◌∷◌, ◌++◌, flat_map}
use Rattle.std.proofs.Math.Option.{some}
use Rattle.semantics.specs.Bytes.{All}
use Rattle.semantics.specs.Editions.{Edition, capacity}
use Rattle.semantics.specs.Expressions.{fits32}
use Rattle.semantics.specs.Sections.{Variable, Rate, Switch, Mode, Selector, Equation, steady, choice, variables_in, equations_in}
use Rattle.semantics.specs.Plant.{Plant, selectors}
use Rattle.semantics.specs.Run.{value_bytes}
use Rattle.semantics.specs.Rules.{InRange}
use Rattle.semantics.specs.TableFile.{NodeAction, Entry, TableSections, table_sections_in, actions_in, locations_in, action_bytes, in_section2, write_actions, write_locations, table_bytes}
use Rattle.semantics.specs.Tables.{Table, table_header}
use Rattle.semantics.specs.Starts.{Start}

abbrev pub AllBytes : List ℕ → Type 0
AllBytes s = All (λ b. b < 256) s

-- bytes, fewer than a length field counts to
pub record SectionLimits (limit : ℕ) (b : List ℕ) : Type 0 where
  pub short : length b < limit
  pub each : AllBytes b

-- ---- variables
-- "minimum, maximum, initial (4 bytes each)"
unfoldable pub write_variable : Variable → List ℕ
write_variable x = value_bytes x.minimum ++ (value_bytes x.maximum ++ value_bytes x.initial)

-- "Variables: count .., then .."
unfoldable pub write_variables : List Variable → List ℕ
write_variables xs = length xs ∷ flat_map write_variable xs

-- "signed values are 32-bit two's complement": fits32 is −2147483648..2147483647
pub record VariableLimits (x : Variable) : Type 0 where
  pub minimum : fits32 x.minimum ≡ true
  pub maximum : fits32 x.maximum ≡ true
  pub initial : fits32 x.initial ≡ true

-- "count 1..32"
pub record VariablesLimits (xs : List Variable) : Type 0 where
  pub at_least : 1 ≤ length xs
  pub at_most : length xs ≤ 32
  pub each : All VariableLimits xs

-- ---- equations
-- "variable, rate (4 bytes)"
unfoldable pub write_rate : Rate → List ℕ
write_rate r = r.driven ∷ value_bytes r.rate

-- "length byte first, then target mode and a truth that fills the rest"
unfoldable pub write_switch : Switch → List ℕ
write_switch w = suc (length w.truth) ∷ w.target ∷ w.truth

-- "rate count, rates (..), switch count, switches (..)"
unfoldable pub write_mode : Mode → List ℕ
write_mode m = length m.rates ∷ flat_map write_rate m.rates ++ (length m.switches ∷ flat_map write_switch m.switches)

-- "Kind 1: variable, rate (..). Kind 2, a CASE: initial mode, mode count .., then each mode"
unfoldable pub equation_bytes : Equation → List ℕ
equation_bytes (steady r) = 1 ∷ write_rate r
equation_bytes (choice c) = 2 ∷ c.initial ∷ length c.modes ∷ flat_map write_mode c.modes

-- "records with a 2-byte length first"
unfoldable pub write_equation : Equation → List ℕ
write_equation e = in_section2 (equation_bytes e)

-- "Equations: count .., then .."
unfoldable pub write_equations : List Equation → List ℕ
write_equations es = length es ∷ flat_map write_equation es

-- "A count, a kind and the number of a variable, selector, mode or node take one byte where no width is given."
pub record RateLimits (r : Rate) : Type 0 where
  pub driven : r.driven < 256
  pub rate : fits32 r.rate ≡ true

pub record SwitchLimits (w : Switch) : Type 0 where
  pub target : w.target < 256
  pub truth : AllBytes w.truth
  -- the target and the truth
  pub length_byte : suc (length w.truth) < 256

pub record ModeLimits (m : Mode) : Type 0 where
  pub rate_count : length m.rates < 256
  pub rates : All RateLimits m.rates
  pub switch_count : length m.switches < 256
  pub switches : All SwitchLimits m.switches

-- "mode count 1..8"
pub record SelectorLimits (c : Selector) : Type 0 where
  pub initial : c.initial < 256
  pub at_least : 1 ≤ length c.modes
  pub at_most : length c.modes ≤ 8
  pub modes : All ModeLimits c.modes

pub data PayloadLimits : Equation → Type 0 where
  steady_within : {r : Rate} → RateLimits r → PayloadLimits (steady r)
  choice_within : {c : Selector} → SelectorLimits c → PayloadLimits (choice c)

pub record EquationLimits (e : Equation) : Type 0 where
  pub payload : PayloadLimits e
  -- "2-byte length"
  pub record_length : length (equation_bytes e) < 65536

-- "count 0..16"
pub record EquationsLimits (es : List Equation) : Type 0 where
  pub at_most : length es ≤ 16
  pub each : All EquationLimits es

-- ---- both sections, each with a 2-byte length
pub record PlantLimits (p : Plant) : Type 0 where
  pub variables : VariablesLimits p.variables
  pub variables_length : length (write_variables p.variables) < 65536
  pub equations : EquationsLimits p.equations
  pub equations_length : length (write_equations p.equations) < 65536

-- ---- tables
-- "the variable and equation sections copied, then: actions (2-byte length) ..; locations (4-byte length) .."
pub record TableSectionsLimits (x : TableSections) : Type 0 where
  pub variables : SectionLimits 65536 x.variables
  pub equations : SectionLimits 65536 x.equations
  pub actions : SectionLimits 65536 x.actions
  pub locations : SectionLimits 4294967296 x.locations

unfoldable pub write_table : Edition → Table → List ℕ
write_table ed t = table_bytes ed (write_variables t.plant.variables) (write_equations t.plant.equations) t.actions t.locations

module _ (ed : Edition) where
  -- "kind and operand make 1..200 bytes": a kind is one
  pub record ActionLimits (a : NodeAction) : Type 0 where
    pub node : a.node < capacity ed.width
    pub bytes : AllBytes (action_bytes a.action)
    pub at_most : length (action_bytes a.action) ≤ 200

  -- "An action count is outside 1..64"
  pub record ActionsLimits (l : List NodeAction) : Type 0 where
    pub at_least : 1 ≤ length l
    pub at_most : length l ≤ ed.nodes
    pub each : All ActionLimits l

  -- "target and target on false (2 bytes each)"
  pub record EntryLimits (e : Entry) : Type 0 where
    pub node : e.node < capacity ed.width
    pub target : e.target < 65536
    pub other : e.other < 65536

  -- "an entry count 0"; it takes one byte
  pub record RowLimits (es : List Entry) : Type 0 where
    pub at_least : 1 ≤ length es
    pub at_most : length es < 256
    pub each : All EntryLimits es

  -- "A location count is outside 1..1,024"
  pub record LocationsLimits (l : List (List Entry)) : Type 0 where
    pub at_least : 1 ≤ length l
    pub at_most : length l ≤ 1024
    pub each : All RowLimits l

  -- "whole length (4 bytes)"; "actions (2-byte length)"; "locations (4-byte length)"
  pub record TableLimits (t : Table) : Type 0 where
    pub plant : PlantLimits t.plant
    pub actions : ActionsLimits t.actions
    pub actions-length : length (write_actions ed t.actions) < 65536
    pub locations : LocationsLimits t.locations
    pub locations-length : length (write_locations ed t.locations) < 4294967296
    pub whole_length : length (write_table ed t) < 4294967296

-- 15, 16 and the layouts of 17 (4 and 6), 18 and 19: what a table is read as
pub record TableReadAs (ed : Edition) (table : List ℕ) (t : Table) : Type 0 where
  pub header : table_header ed table ≡ true
  pub sections : TableSections
  pub sections_read : table_sections_in (drop 5 table) ≡ some sections
  pub variables_read : variables_in ed sections.variables ≡ some t.plant.variables
  pub equations_read : equations_in sections.equations ≡ some t.plant.equations
  pub actions_read : actions_in ed sections.actions ≡ some t.actions
  pub locations_read : locations_in ed sections.locations ≡ some t.locations

-- ---- starts
-- "The starting values (4 bytes each, then modes)"
unfoldable pub start_bytes : Start → List ℕ
start_bytes st = flat_map value_bytes st.values ++ st.modes

-- one for each, in order
pub data Each {A B : Type 0} (R : A → B → Type 0) : List A → List B → Type 0 where
  each_nil : Each R [] []
  each_cons : {a : A} {b : B} {l : List A} {k : List B} → R a b → Each R l k → Each R (a ∷ l) (b ∷ k)

-- a mode of its CASE
pub record HasMode (c : Selector) (m : ℕ) : Type 0 where
  pub exists : m < length c.modes

-- a value for each variable and a mode for each CASE
pub record StartLimits (p : Plant) (st : Start) : Type 0 where
  pub values : Each InRange p.variables st.values
  pub modes : Each HasMode (selectors p) st.modes
