-- Condition 20: what the code that reads a start's bytes asks and answers.
use Rattle.std.specs.Prelude.{◌≡◌, Bool, true, false, List, ℕ, ◌*◌, ◌≤◌, length, get_or, ℤ, pos, Option, Some, None}
use Rattle.std.proofs.Math.Option.{some}
use Rattle.std.proofs.Math.ListN.{get_elem?}
use Rattle.semantics.specs.Bytes.{Reader, read, byte, int4, times}
use Rattle.semantics.specs.Sections.{Variable, variable_limit, equation_limit}
use Rattle.semantics.specs.Plant.{Plant, selectors}
use Rattle.semantics.specs.Starts.{values_fit, modes_fit}
use Rattle.codec.specs.Padding.{pad}
use Rattle.plant.specs.ModeCounts.{ModesAt}
use Rattle.plant.specs.declared.sections.PlantRead.{PlantRead}

-- ---- a plant's numbers in arrays
-- the range of each variable
pub record Ranges (xs : List Variable) (n : ℕ) (lows highs : List ℤ) : Type 0 where
  pub count : n ≡ length xs
  pub low : (k : ℕ) {x : Variable} → get_elem? xs k ≡ some x → get_or lows k (pos 0) ≡ x.minimum
  pub high : (k : ℕ) {x : Variable} → get_elem? xs k ≡ some x → get_or highs k (pos 0) ≡ x.maximum

-- a plant's numbers in its reader's answer
pub record Arrays (p : Plant) (x : PlantRead) : Type 0 where
  pub ranges : Ranges p.variables x.variables x.lows x.highs
  pub counts : ModesAt x.modes x.selectors (selectors p)

-- an entry for each of them
pub record Room (x : PlantRead) : Type 0 where
  pub variables_most : x.variables ≤ variable_limit
  pub lows_there : x.variables ≤ length x.lows
  pub highs_there : x.variables ≤ length x.highs
  pub cases_most : x.selectors ≤ equation_limit
  pub counts_there : x.selectors ≤ length x.modes

-- ---- for the parts of the code
pub record RoomForValues (s : List ℕ) (n : ℕ) (lows highs : List ℤ) : Type 0 where
  pub most : n ≤ variable_limit
  pub bytes_there : 4 * n ≤ length s
  pub lows_there : n ≤ length lows
  pub highs_there : n ≤ length highs

pub record RoomForModes (s : List ℕ) (n : ℕ) (counts : List ℕ) : Type 0 where
  pub most : n ≤ equation_limit
  pub bytes_there : n ≤ length s
  pub counts_there : n ≤ length counts

-- ---- what is read: it fits and is told by the reader of bytes, or does not fit
-- n things of a reader at the front of s, of a plant's list that fits T
pub record Fit {A X : Type 0} (r : Reader A) (n : ℕ) (s : List ℕ) (T : List X → Type 0) (fits : List X → List A → Bool) (array : List A → List A) (found : List A) : Type 0 where
  pub fit : {l : List A} {rest : List ℕ} → times n r s ≡ read l rest → (xs : List X) → T xs → fits xs l ≡ true
  pub are : {l : List A} {rest : List ℕ} → times n r s ≡ read l rest → found ≡ array l

pub record Unfit {A X : Type 0} (r : Reader A) (n : ℕ) (s : List ℕ) (T : List X → Type 0) (fits : List X → List A → Bool) : Type 0 where
  pub unfit : {l : List A} {rest : List ℕ} → times n r s ≡ read l rest → (xs : List X) → T xs → fits xs l ≡ false

-- the values that `read_start` reads
abbrev pub ValuesOf : List ℕ → ℕ → List ℤ → List ℤ → Option (List ℤ) → Type 0
ValuesOf s n lows highs (Some values) = Fit int4 n s (λ xs. Ranges xs n lows highs) values_fit (pad variable_limit (pos 0)) values
ValuesOf s n lows highs None = Unfit int4 n s (λ xs. Ranges xs n lows highs) values_fit

-- the modes that it reads after them
abbrev pub ModesOf : List ℕ → ℕ → List ℕ → Option (List ℕ) → Type 0
ModesOf s n counts (Some modes) = Fit byte n s (λ cs. ModesAt counts n cs) modes_fit (pad equation_limit 0) modes
ModesOf s n counts None = Unfit byte n s (λ cs. ModesAt counts n cs) modes_fit
