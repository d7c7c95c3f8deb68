-- Document 01, "When a file, table or event is turned away": the numbers of a call in their order, each as a test of the input alone.
-- Statements say with 20 to 22 of them what a call lets pass; the lists of numbers serve proofs.
-- What a number says as a proposition, with no reader and no test of a call, is in Sentences.
use Rattle.std.specs.Prelude.{◌≡◌, Bool, true, false, not, ◌||◌, List, [], ◌∷◌, ◌++◌, ℕ, length, drop}
use Rattle.std.proofs.Math.Option.{Option, none, some, bind}
use Rattle.semantics.specs.Bytes.{every, is_some}
use Rattle.semantics.specs.Editions.{Edition}
use Rattle.semantics.specs.Refusals.{Judged, refused, accepted}
use Rattle.semantics.specs.Sections.{variables_in, equations_in}
use Rattle.semantics.specs.Plant.{Plant, ordered, equation_named, driven_once, equation_reads}
use Rattle.semantics.specs.TableFile.{TableSections, table_sections_in, actions_in, locations_in}
use Rattle.semantics.specs.Tables.{table_header, actions_fit, locations_fit_in}
use Rattle.semantics.specs.Starts.{start_in, fits_start}
use Rattle.semantics.specs.Calls.{whole_events, room_for_records}

pub record Condition : Type 0 where
  pub refusal : ℕ
  pub applies : Bool

infix 2 ◌if◌
abbrev pub ◌if◌ : ℕ → Bool → Condition
◌if◌ n b = record { refusal = n; applies = b }

-- ---- "A call returns the first that applies"
-- n is the number of the first condition that applies
pub data First (n : ℕ) : List Condition → Type 0 where
  here : {c : Condition} {l : List Condition} → c.applies ≡ true → c.refusal ≡ n → First n (c ∷ l)
  further : {c : Condition} {l : List Condition} → c.applies ≡ false → First n l → First n (c ∷ l)

-- none applies
pub data Clear : List Condition → Type 0 where
  none_left : Clear []
  one_clear : {c : Condition} {l : List Condition} → c.applies ≡ false → Clear l → Clear (c ∷ l)

-- what a call makes of its list
pub data Firsts {A : Type 0} : Judged A → List Condition → Type 0 where
  refuses : {n : ℕ} {l : List Condition} → First n l → Firsts (refused n) l
  accepts : {a : A} {l : List Condition} → Clear l → Firsts (accepted a) l

unfoldable pub any_applies : List Condition → Bool
any_applies [] = false
any_applies (c ∷ l) = elim c.applies [ true ↦ true | false ↦ any_applies l ]

-- the parts that a sentence speaks of are there, and the test holds of them
unfoldable pub given : {A : Type 0} → Option A → (A → Bool) → Bool
given none f = false
given (some a) f = f a

-- 4 to 8 and 12, of a variable and an equation section
module _ (ed : Edition) (vs es : List ℕ) where
  -- 4: "The variable count or section length is wrong."
  unfoldable pub is4 : Bool
  is4 = not (is_some (variables_in ed vs))

  -- 5: "Minimum ≤ initial ≤ maximum fails."
  unfoldable pub is5 : Bool
  is5 = given (variables_in ed vs) (λ xs. not (every ordered xs))

  -- 6: "The equation section breaks its layout or a count."
  unfoldable pub is6 : Bool
  is6 = not (is_some (equations_in es))

  -- 7: "An equation names a missing variable or mode, truths left aside."
  unfoldable pub is7 : Bool
  is7 = given (variables_in ed vs) (λ xs. given (equations_in es) (λ eqs. not (every (equation_named (length xs)) eqs)))

  -- 8: "A variable is in two equations or twice in one mode."
  unfoldable pub is8 : Bool
  is8 = given (equations_in es) (λ eqs. not (driven_once [] eqs))

  -- 12: "A truth or number is cut, overlong, too deep, of the wrong sort, has an unknown code or names a missing variable.": the switches' truths
  unfoldable pub is_12_switches : Bool
  is_12_switches = given (variables_in ed vs) (λ xs. given (equations_in es) (λ eqs. not (every (equation_reads ed (length xs)) eqs)))

  unfoldable pub plant_conditions : List Condition
  plant_conditions = (4 if is4) ∷ (5 if is5) ∷ (6 if is6) ∷ (7 if is7) ∷ (8 if is8) ∷ []

  -- the plant of the two sections, where they can be read
  unfoldable pub plant_in : Option Plant
  plant_in = bind (variables_in ed vs) (λ xs. bind (equations_in es) (λ eqs. some (record { variables = xs; equations = eqs })))

-- a table
module _ (ed : Edition) (table : List ℕ) where
  unfoldable pub table_parts : Option TableSections
  table_parts = table_sections_in (drop 5 table)

  unfoldable pub table_plant : Option Plant
  table_plant = bind table_parts (λ parts. plant_in ed parts.variables parts.equations)

  -- 15: "The table has under 5 bytes, or a wrong version or length."
  unfoldable pub is15 : Bool
  is15 = not (table_header ed table)

  -- 16: "Its four sections do not fill it."
  unfoldable pub is16 : Bool
  is16 = not (is_some table_parts)

  -- 17: "Its first two sections break 4..8 or 12."
  unfoldable pub is17 : Bool
  is17 = given table_parts (λ parts. any_applies (plant_conditions ed parts.variables parts.equations) || is_12_switches ed parts.variables parts.equations)

  -- 18: "An action count is outside 1..64, a node number above 63 or not rising, or a kind, length or operand wrong (..),
  -- or bytes are missing or left over."
  unfoldable pub is18 : Bool
  is18 = given table_parts (λ parts. not (given table_plant (λ p. given (actions_in ed parts.actions) (actions_fit ed p))))

  -- 19: "A location count is outside 1..1,024, an entry count 0, a node unknown or not rising, a target unfit for its kind,
  -- or bytes are missing or left over."
  unfoldable pub is19 : Bool
  is19 = given table_parts (λ parts. not (given (actions_in ed parts.actions) (λ acts. given (locations_in ed parts.locations) (locations_fit_in acts))))

  unfoldable pub table_conditions : List Condition
  table_conditions = (15 if is15) ∷ (16 if is16) ∷ (17 if is17) ∷ (18 if is18) ∷ (19 if is19) ∷ []

-- a run of this plant
module _ (ed : Edition) (plant : Option Plant) (start events buffer : List ℕ) where
  -- 20: "The starting values (4 bytes each, then modes) have a wrong length, value or mode."
  unfoldable pub is20 : Bool
  is20 = given plant (λ p. not (given (start_in p start) (fits_start p)))

  -- 21: "The event bytes are not a multiple of 3."
  unfoldable pub is21 : Bool
  is21 = not (whole_events ed.event_bytes events)

  -- 22: "The record buffer is too short."
  unfoldable pub is22 : Bool
  is22 = given plant (λ p. not (room_for_records ed p events buffer))

  unfoldable pub run_conditions : List Condition
  run_conditions = (20 if is20) ∷ (21 if is21) ∷ (22 if is22) ∷ []

-- "the table run 15..22"
unfoldable pub table_run_conditions : Edition → List ℕ → List ℕ → List ℕ → List ℕ → List Condition
table_run_conditions ed table start events buffer = table_conditions ed table ++ run_conditions ed (table_plant ed table) start events buffer
