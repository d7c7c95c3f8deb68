-- What the papers of document 02, item 3, are about: small schedules that RESET or REINITIAL variable 0, and the number that reading them returns.
use Rattle.std.specs.Prelude.{◌≡◌, List, [], ◌∷◌, ℕ, pos}
use Rattle.semantics.specs.Editions.{edition1}
use Rattle.semantics.specs.Expressions.{constant, variable, operate, sum, compare, at_most, number_bytes, truth_bytes}
use Rattle.semantics.specs.Sections.{Variable, Rate, Switch, Mode, Equation, steady, choice}
use Rattle.semantics.specs.Plant.{Plant}
use Rattle.schedules.specs.Nodes.{Node, sequence, continue_until, reset, reinitial}
use Rattle.schedules.specs.Calls.{read_schedule}
use Rattle.schedules.specs.Writing.{write_file}

-- K1 as document 01 prints it, node 1 of kind 6
unfoldable pub k1_reset_file : List ℕ
k1_reset_file =
    0x01 ∷ 0x00 ∷ 0x38 ∷
    0x00 ∷ 0x0D ∷ 0x01 ∷ 0 ∷ 0 ∷ 0 ∷ 0 ∷ 0 ∷ 0 ∷ 0 ∷ 0x0A ∷ 0 ∷ 0 ∷ 0 ∷ 0 ∷
    0x00 ∷ 0x09 ∷ 0x01 ∷ 0x00 ∷ 0x06 ∷ 0x01 ∷ 0x00 ∷ 0 ∷ 0 ∷ 0 ∷ 0x01 ∷
    0x00 ∷ 0x19 ∷ 0x03 ∷ 0x02 ∷ 0x01 ∷ 0x02 ∷ 0x0A ∷ 0x06 ∷ 0x00 ∷ 0x10 ∷ 0x02 ∷ 0x00 ∷ 0x01 ∷ 0 ∷ 0 ∷ 0 ∷ 0x01 ∷
    0x09 ∷ 0x05 ∷ 0x20 ∷ 0x01 ∷ 0 ∷ 0 ∷ 0 ∷ 0x03 ∷ 0x02 ∷ 0x00 ∷ []

-- K1's plant and nodes: variable 0 in 0..10 with rate 1; SEQUENCE of REINITIAL variable 0 to variable 0 + 1 and CONTINUE UNTIL 3 ≤ variable 0
abbrev pub k1_plant : Plant
k1_plant = record { variables = record { minimum = pos 0; maximum = pos 10; initial = pos 0 } ∷ []; equations = steady (record { driven = 0; rate = pos 1 }) ∷ [] }

abbrev pub one_further : List ℕ
one_further = number_bytes edition1 (operate sum (variable 0) (constant (pos 1)))

abbrev pub three_reached : List ℕ
three_reached = truth_bytes edition1 (compare at_most (constant (pos 3)) (variable 0))

abbrev pub k1_nodes : List Node
k1_nodes = sequence 2 ∷ reinitial 0 one_further ∷ continue_until three_reached ∷ []

-- ---- plants and nodes
abbrev to10 : Variable
to10 = record { minimum = pos 0; maximum = pos 10; initial = pos 0 }

-- variables 0, 1 and 2, each 0..10, with these equations and nodes
abbrev pub planned : List Equation → List Node → List ℕ
planned es ns = write_file edition1 (record { variables = to10 ∷ to10 ∷ to10 ∷ []; equations = es }) ns

-- variable v at this rate: in an equation of kind 1, in a mode
abbrev pub steadily : ℕ → ℕ → Equation
steadily v z = steady (record { driven = v; rate = pos z })

abbrev pub mode : List Rate → List Switch → Mode
mode rs ws = record { rates = rs; switches = ws }

abbrev pub rate : ℕ → ℕ → Rate
rate v z = record { driven = v; rate = pos z }

-- a CASE with this initial mode
abbrev pub case_of : ℕ → List Mode → Equation
case_of m ms = choice (record { initial = m; modes = ms })

-- a switch to mode 0 with these bytes for its truth
abbrev pub switch_on : List ℕ → Switch
switch_on t = record { target = 0; truth = t }

-- RESET and REINITIAL of a variable to 7
abbrev pub resets : ℕ → Node
resets v = reset v (number_bytes edition1 (constant (pos 7)))

abbrev pub reinitials : ℕ → Node
reinitials v = reinitial v (number_bytes edition1 (constant (pos 7)))

-- variable 0, and variable 0 at most 7
abbrev pub number0 : List ℕ
number0 = number_bytes edition1 (variable 0)

abbrev pub truth0 : List ℕ
truth0 = truth_bytes edition1 (compare at_most (variable 0) (constant (pos 7)))

-- ---- what reading returns
abbrev pub told : List ℕ → ℕ
told file = (read_schedule edition1 file).refusal

-- in a plant with these equations, of RESET variable 0 alone and of REINITIAL variable 0 alone
pub record Kinds (es : List Equation) (by-reset by-reinitial : ℕ) : Type 0 where
  pub a_reset : told (planned es (resets 0 ∷ [])) ≡ by-reset
  pub a_reinitial : told (planned es (reinitials 0 ∷ [])) ≡ by-reinitial

-- of a schedule around such a node, where variable 0 is driven and where it is not: the number where the node breaks the rule, and where it keeps it
pub record Around (file : List Equation → Node → List ℕ) (breaks keeps : ℕ) : Type 0 where
  pub driven_reset : told (file (steadily 0 1 ∷ []) (resets 0)) ≡ breaks
  pub driven_reinitial : told (file (steadily 0 1 ∷ []) (reinitials 0)) ≡ keeps
  pub undriven_reset : told (file [] (resets 0)) ≡ keeps
  pub undriven_reinitial : told (file [] (reinitials 0)) ≡ breaks
