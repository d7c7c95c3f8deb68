-- Declared ranges and rates as lists of numbers.
use Rattle.std.specs.Prelude.{◌≡◌, Bool, true, List, [], ◌∷◌, ◌++◌, ℕ, ◌≤◌, ◌<◌, ℤ, pos, length, get_or, take, drop}
use Rattle.semantics.specs.Sections.{Variable, variable_limit}
use Rattle.semantics.specs.Plant.{declared_at, added}
use Rattle.semantics.specs.Run.{valued}
use Rattle.program.specs.Rows.{high_row}
use Rattle.effects.specs.PaperNumbers.{Verdict}
use Rattle.effects.specs.Verdicts.{step_verdict, is_going_on}

-- variables with these ranges; an initial value plays no part in a run
unfoldable pub ranges_of : List ℤ → List ℤ → List Variable
ranges_of [] hs = []
ranges_of (l ∷ ls) [] = []
ranges_of (l ∷ ls) (h ∷ hs) = record { minimum = l; maximum = h; initial = l } ∷ ranges_of ls hs

-- the first n variables of a program, by its rows of minima and maxima
abbrev pub variables_in : List ℤ → ℕ → List Variable
variables_in rs n = ranges_of (take n rs) (take n (high_row rs))

abbrev pub rate_in : List ℤ → ℕ → ℤ
rate_in rs v = get_or rs v (pos 0)

-- values of no more variables than there may be, and a rate for each at least
pub record Sized (rs vs : List ℤ) : Type 0 where
  pub few : length vs ≤ variable_limit
  pub rates : length vs ≤ length rs

-- the first k values with their rates added, the others as they are
abbrev pub first_sums : List ℤ → List ℤ → ℕ → List ℤ
first_sums rs vs k = take k (added (rate_in rs) 0 vs) ++ drop k vs

-- variable v with its rate added: Stay, or the side on which it leaves its range
abbrev pub told_sum : List Variable → List ℤ → List ℤ → ℕ → Verdict
told_sum xs rs vs v = step_verdict (valued (declared_at xs v (get_or (added (rate_in rs) 0 vs) v (pos 0))))

-- does variable v, with its rate added, stay in its range?
abbrev pub stays_in : List Variable → List ℤ → List ℤ → ℕ → Bool
stays_in xs rs vs v = is_going_on (told_sum xs rs vs v)

-- the first k variables stay in their ranges
pub record FirstStay (xs : List Variable) (rs vs : List ℤ) (k : ℕ) : Type 0 where
  pub count : k ≤ length vs
  pub each : (v : ℕ) → v < k → stays_in xs rs vs v ≡ true
