-- The current modes, from the places at which the modes stand in the file.
use Rattle.std.specs.Prelude.{◌≡◌, true, List, [], ◌∷◌, ℕ, suc, ◌+◌, ◌*◌, ◌<◌, ℤ, length, get_or, drop}
use Rattle.semantics.specs.Bytes.{every, read}
use Rattle.semantics.specs.Editions.{Edition}
use Rattle.semantics.specs.Expressions.{value_of_truth}
use Rattle.semantics.specs.Sections.{Rate, Switch, Mode, Equation, mode_limit, read_switch}
use Rattle.semantics.specs.Plant.{rate_named, driven_once, selectors_of, current_of, rates_of}
use Rattle.semantics.specs.Run.{judge_switch}
use Rattle.program.specs.Lent.{Stands, RatesIn}
use Rattle.effects.specs.Verdicts.{truth_verdict, Left}
use Rattle.effects.specs.PaperNumbers.{Verdict}
-- the mode that is read at a place
unfoldable pub use Rattle.plant.specs.Equations.{mode_at}

-- the switch that is read at a place
pub record SwitchAt (es : List ℕ) (at : ℕ) (w : Switch) : Type 0 where
  pub rest : List ℕ
  pub reads : read_switch (drop at es) ≡ read w rest

-- some switch stands there
pub record SwitchHere (es : List ℕ) (at : ℕ) : Type 0 where
  pub switch : Switch
  pub stands : SwitchAt es at switch

-- the answer of its truth
pub record Asked (es : List ℕ) (at : ℕ) (vs : List ℤ) (yes no r : Verdict) : Type 0 where
  pub answer : (ed : Edition) (w : Switch) → SwitchAt es at w → r ≡ truth_verdict yes no (value_of_truth ed vs w.truth)

-- mode m of selector j stands at entry 8 * j + m
abbrev pub place_at : List ℕ → List ℕ → ℕ → ℕ
place_at places ms j = get_or places (mode_limit * j + get_or ms j 0) 0

-- the current modes, from selector j on
unfoldable pub modes_from : List ℕ → List ℕ → ℕ → List ℕ → List Mode
modes_from es places j [] = []
modes_from es places j (m ∷ ms) = mode_at es (get_or places (mode_limit * j + m) 0) ∷ modes_from es places (suc j) ms

-- the current modes are there
pub record Current (es places ms : List ℕ) : Type 0 where
  pub row : (j : ℕ) → j < length ms → mode_limit * j + get_or ms j 0 < length places
  pub stands : (j : ℕ) → j < length ms → Stands es (place_at places ms j) (mode_at es (place_at places ms j))

-- and drive none but so many variables
pub record Driving (es places ms : List ℕ) (n : ℕ) : Type 0 where
  pub named : (j : ℕ) → j < length ms → every (rate_named n) (mode_at es (place_at places ms j)).rates ≡ true

-- ---- rates in an array with one for each variable
-- rates put before others one after the other: the last stands first
unfoldable pub before : List Rate → List Rate → List Rate
before [] l = l
before (r ∷ rs) l = before rs (r ∷ l)

-- these rates written over those of their variables
pub record Laid (old : List ℤ) (rs : List Rate) (new : List ℤ) : Type 0 where
  pub long : length new ≡ length old
  pub holds : (l : List Rate) → RatesIn old l → RatesIn new (before rs l)

-- the rates in force, where the array had those of kind 1 and the current modes stand at these places
pub record InForce (es places ms : List ℕ) (old new : List ℤ) : Type 0 where
  pub long : length new ≡ length old
  pub rates : (eqs : List Equation) → driven_once [] eqs ≡ true → modes_from es places 0 ms ≡ current_of (selectors_of eqs) ms → RatesIn old (rates_of eqs []) → RatesIn new (rates_of eqs ms)

-- a switch event on the modes at these places
pub record Switched (es places : List ℕ) (s k : ℕ) (vs : List ℤ) (ms : List ℕ) (r : Verdict) (ms' : List ℕ) : Type 0 where
  pub leaves : (ed : Edition) → Left (judge_switch ed (modes_from es places 0 ms) vs ms s k) vs ms r vs ms'
