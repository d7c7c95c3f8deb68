-- Condition 8 of an equation section that 6 and 7 let pass, and which variables its equations drive.
use Rattle.std.specs.Prelude.{◌≡◌, Bool, true, false, ◌&&◌, ℕ, ◌≤◌, ◌<◌, length, get_or, drop}
use mathlib.Core.List.{List, [], ◌++◌, flat_map}
use Rattle.std.proofs.Math.Option.{Option}
use Rattle.semantics.specs.Bytes.{every, Reader, read}
use Rattle.semantics.specs.Refusals.{Judged, accepted, ensure, ◌>>◌}
use Rattle.semantics.specs.Sections.{Rate, Mode, Equation, variable_limit}
use Rattle.semantics.specs.Plant.{judge_equations, among, apart, once_after, rates_drive, mode_drives, mode_once, driven_once, is_driven_in}
use Rattle.plant.specs.Sound.{There, Sound}
use Rattle.plant.specs.Equations.{each}

-- a section that 6 and 7 let pass, where there are at most 32 variables
pub record Named (s : List ℕ) : Type 0 where
  pub variables : ℕ
  pub few : variables ≤ variable_limit
  pub equations : List Equation
  pub judged : judge_equations variables s ≡ accepted equations

-- ---- for the parts of the code
-- variables that the array has an entry for
pub record Small (l : List ℕ) : Type 0 where
  pub below : (v : ℕ) → among v l ≡ true → v < variable_limit

-- r reads something at place p of s, and f says which variables it names: each has an entry
pub record Held {A : Type 0} (r : Reader A) (f : A → List ℕ) (s : List ℕ) (p : ℕ) : Type 0 where
  pub sound : Sound r s p
  pub small : Small (f sound.value)

pub record Few {A : Type 0} (o : Option A) (f : A → List ℕ) : Type 0 where
  pub there : There o
  pub small : Small (f there.value)

-- the array marks these variables
pub record Marks (l : List ℕ) (a : List Bool) : Type 0 where
  pub at : (v : ℕ) → v < variable_limit → get_or a v false ≡ among v l

-- the answer is the test; where it is true, these variables are marked
pub record Tried (test : Bool) (l : List ℕ) (r : Bool) (b : List Bool) : Type 0 where
  pub is : r ≡ test
  pub sized : r ≡ true → length b ≡ variable_limit
  pub marks : r ≡ true → Marks l b

-- ---- 8 of a mode's rates and of a CASE's modes, where the equations before drive these variables
abbrev pub rates_once : List ℕ → List Rate → Bool
rates_once before rs = once_after [] (rates_drive rs) && apart before (rates_drive rs)

abbrev pub modes_apart : List ℕ → List Mode → Bool
modes_apart before ms = every mode_once ms && apart before (flat_map mode_drives ms)

-- what r reads at place p of s is tried, whatever variables the two arrays mark
abbrev pub TriedAt : {A : Type 0} → Reader A → (List ℕ → A → Bool) → (A → List ℕ) → List ℕ → ℕ → List Bool → List Bool → Bool → List Bool → Type 0
TriedAt {A} r test named s p a b x c = (v : A) (e : List ℕ) → r (drop p s) ≡ read v e → (before seen : List ℕ) → Marks before a → Marks seen b → Tried (test before v) (named v ++ seen) x c

-- ---- the answer
-- of each variable whether some equation drives it, in an array of 32
abbrev pub driven_marks : List Equation → List Bool
driven_marks es = each (is_driven_in es) 0 variable_limit

-- 8, of equations that 6 and 7 let pass
unfoldable pub judge_driven : List Equation → Judged (List Equation)
judge_driven es = ensure 8 (driven_once [] es) >> accepted es

-- marks tells of every number whether these equations drive a variable of that number
pub record DrivenAt (marks : List Bool) (es : List Equation) : Type 0 where
  pub at : (v : ℕ) → get_or marks v false ≡ is_driven_in es v
