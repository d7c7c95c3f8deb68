-- Variables and equations together, here called the plant that a schedule drives: 4 to 8 and 12 of its two sections, its current switches, rates and ranges.
use Rattle.std.specs.Prelude.{Bool, true, false, not, ◌&&◌, ℕ, suc, length, get_or, set, ltb, eqb, ℤ, pos, ◌+ℤ◌}
use mathlib.Core.List.{List, [], ◌∷◌, ◌++◌, map, flat_map}
use Rattle.std.proofs.Math.Option.{Option, none, some}
use Rattle.std.proofs.Math.ListN.{get_elem?}
use Rattle.std.specs.Int.Signed.{le_z}
use Rattle.semantics.specs.Bytes.{every, is_some}
use Rattle.semantics.specs.Editions.{Edition}
use Rattle.semantics.specs.Expressions.{truth_in, Value, ok, fault, above, ranged, then_value}
use Rattle.semantics.specs.Refusals.{Judged, accepted, ◌>>=◌, ◌>>◌, ensure, need}
use Rattle.semantics.specs.Sections.{Variable, Rate, Switch, Mode, Selector, Equation, steady, choice, variables_in, equations_in}

pub record Plant : Type 0 where
  pub variables : List Variable
  pub equations : List Equation

-- ---- conditions
-- 5: "Minimum ≤ initial ≤ maximum fails."
unfoldable pub ordered : Variable → Bool
ordered x = le_z x.minimum x.initial && le_z x.initial x.maximum

-- 7: "An equation names a missing variable or mode, truths left aside."
unfoldable pub rate_named : ℕ → Rate → Bool
rate_named variables r = ltb r.driven variables

unfoldable pub switch_named : ℕ → Switch → Bool
switch_named modes w = ltb w.target modes

unfoldable pub mode_named : ℕ → ℕ → Mode → Bool
mode_named variables modes m = every (rate_named variables) m.rates && every (switch_named modes) m.switches

unfoldable pub equation_named : ℕ → Equation → Bool
equation_named variables (steady r) = rate_named variables r
equation_named variables (choice c) = ltb c.initial (length c.modes) && every (mode_named variables (length c.modes)) c.modes

abbrev pub equations_named : ℕ → List Equation → Bool
equations_named variables es = every (equation_named variables) es

-- 8: "A variable is in two equations or twice in one mode." Several modes of one CASE may name it.
unfoldable pub among : ℕ → List ℕ → Bool
among n [] = false
among n (m ∷ l) = elim (eqb m n) [ true ↦ true | false ↦ among n l ]

unfoldable pub apart : List ℕ → List ℕ → Bool
apart seen l = every (λ n. not (among n seen)) l

-- none of the second list in the first, nor twice in itself
unfoldable pub once_after : List ℕ → List ℕ → Bool
once_after seen [] = true
once_after seen (n ∷ l) = elim (among n seen) [ true ↦ false | false ↦ once_after (n ∷ seen) l ]

-- the variables that rates, a mode, an equation drive
unfoldable pub rates_drive : List Rate → List ℕ
rates_drive rs = map (λ (r : Rate). r.driven) rs

unfoldable pub mode_drives : Mode → List ℕ
mode_drives m = rates_drive m.rates

unfoldable pub drives : Equation → List ℕ
drives (steady r) = r.driven ∷ []
drives (choice c) = flat_map mode_drives c.modes

unfoldable pub mode_once : Mode → Bool
mode_once m = once_after [] (mode_drives m)

unfoldable pub modes_once : Equation → Bool
modes_once (steady r) = true
modes_once (choice c) = every mode_once c.modes

-- of an equation, where those before it drive these variables
abbrev pub equation_once : List ℕ → Equation → Bool
equation_once seen e = modes_once e && apart seen (drives e)

unfoldable pub driven_once : List ℕ → List Equation → Bool
driven_once seen [] = true
driven_once seen (e ∷ es) = equation_once seen e && driven_once (drives e ++ seen) es

-- Document 02, item 3: a variable that some equation drives, in whichever mode of a CASE
unfoldable pub is_driven_in : List Equation → ℕ → Bool
is_driven_in es v = among v (flat_map drives es)

-- 12, of the switches
unfoldable pub switch_reads : Edition → ℕ → Switch → Bool
switch_reads ed variables w = is_some (truth_in ed variables w.truth)

unfoldable pub mode_reads : Edition → ℕ → Mode → Bool
mode_reads ed variables m = every (switch_reads ed variables) m.switches

unfoldable pub equation_reads : Edition → ℕ → Equation → Bool
equation_reads ed variables (steady r) = true
equation_reads ed variables (choice c) = every (mode_reads ed variables) c.modes

abbrev pub equations_read_in : Edition → ℕ → List Equation → Bool
equations_read_in ed variables es = every (equation_reads ed variables) es

unfoldable pub switches_read : Edition → Plant → Bool
switches_read ed p = equations_read_in ed (length p.variables) p.equations

-- 4: "The variable count or section length is wrong.", then 5
unfoldable pub judge_variables : Edition → List ℕ → Judged (List Variable)
judge_variables ed section = do
  vs ← need 4 (variables_in ed section)
  ensure 5 (every ordered vs)
  accepted vs

-- 6: "The equation section breaks its layout or a count.", then 7: of a part of the section, none where it breaks its layout, and the test of its names
abbrev pub judge_named : {A : Type 0} → (A → Bool) → Option A → Judged A
judge_named named part = do
  a ← need 6 part
  ensure 7 (named a)
  accepted a

-- 6 and 7 of the section, in a plant with so many variables
unfoldable pub judge_equations : ℕ → List ℕ → Judged (List Equation)
judge_equations variables section = judge_named (equations_named variables) (equations_in section)

-- 4 to 8 of the two sections
unfoldable pub judge_plant : Edition → List ℕ → List ℕ → Judged Plant
judge_plant ed variables equations = do
  vs ← judge_variables ed variables
  es ← judge_equations (length vs) equations
  ensure 8 (driven_once [] es)
  accepted (record { variables = vs; equations = es })

-- ---- what a run asks of the plant
unfoldable pub selectors_of : List Equation → List Selector
selectors_of [] = []
selectors_of (steady r ∷ es) = selectors_of es
selectors_of (choice c ∷ es) = c ∷ selectors_of es

unfoldable pub selectors : Plant → List Selector
selectors p = selectors_of p.equations

-- a selector and a mode of it that exist
unfoldable pub mode_exists_in : List Selector → ℕ → ℕ → Bool
mode_exists_in cs s m = elim (get_elem? cs s) [ none ↦ false | some c ↦ ltb m (length c.modes) ]

-- of a mode number that no accepted start, switch or node has
abbrev pub no_such_mode : Mode
no_such_mode = record { rates = []; switches = [] }

-- the current mode of each CASE, selectors rising
unfoldable pub current_of : List Selector → List ℕ → List Mode
current_of [] ms = []
current_of (c ∷ cs) [] = []
current_of (c ∷ cs) (m ∷ ms) = get_or c.modes m no_such_mode ∷ current_of cs ms

unfoldable pub current_modes : Plant → List ℕ → List Mode
current_modes p ms = current_of (selectors p) ms

-- "the switches of all current modes, selectors rising and each mode's as listed": their truths
unfoldable pub switch_truths : Mode → List (List ℕ)
switch_truths m = map (λ (w : Switch). w.truth) m.switches

unfoldable pub current_truths : List Mode → List (List ℕ)
current_truths modes = flat_map switch_truths modes

-- the rates in force, equations in order
unfoldable pub rates_of : List Equation → List ℕ → List Rate
rates_of [] ms = []
rates_of (steady r ∷ es) ms = r ∷ rates_of es ms
rates_of (choice c ∷ es) [] = rates_of es []
rates_of (choice c ∷ es) (m ∷ ms) = (get_or c.modes m no_such_mode).rates ++ rates_of es ms

-- "its current rate (0 where its CASE's mode gives none)"; a variable that no equation drives stays as it is
unfoldable pub rate_among : List Rate → ℕ → ℤ
rate_among [] v = pos 0
rate_among (r ∷ rs) v = elim (eqb r.driven v) [ true ↦ r.rate | false ↦ rate_among rs v ]

unfoldable pub rate_of : Plant → List ℕ → ℕ → ℤ
rate_of p ms v = rate_among (rates_of p.equations ms) v

-- "A value outside its declared range faults.", above it or below it: "for expressions and for declared ranges alike"
unfoldable pub declared : Variable → ℤ → Value ℤ
declared x z = ranged x.minimum x.maximum z

-- a variable that is not there is never assigned: 11 and 18 name it
unfoldable pub declared_at : List Variable → ℕ → ℤ → Value ℤ
declared_at xs v z = elim (get_elem? xs v) [ none ↦ fault above | some x ↦ declared x z ]

-- "A value outside its declared range faults.": variable v becomes z, or faults
unfoldable pub stored : List Variable → List ℤ → ℕ → ℤ → Value (List ℤ)
stored xs vs v z = then_value (declared_at xs v z) (λ y. ok (set vs v y))

-- all of them in range, or a fault: "On a tick the lowest variable number out of range decides."; there are as many values as variables
unfoldable pub all_declared : List Variable → List ℤ → Value (List ℤ)
all_declared [] zs = ok zs
all_declared (x ∷ xs) [] = ok []
all_declared (x ∷ xs) (z ∷ zs) = then_value (declared x z) (λ y. then_value (all_declared xs zs) (λ ys. ok (y ∷ ys)))

-- "each driven variable adds its current rate", all from the old values; the number is the first value's variable
unfoldable pub added : (ℕ → ℤ) → ℕ → List ℤ → List ℤ
added rate v [] = []
added rate v (z ∷ zs) = (z +ℤ rate v) ∷ added rate (suc v) zs

unfoldable pub advance : List Variable → (ℕ → ℤ) → List ℤ → Value (List ℤ)
advance xs rate vs = all_declared xs (added rate 0 vs)
