-- What the papers of document 02, item 5, are about: small schedules of two branches, and two events in the one order and in the other.
use Rattle.std.specs.Prelude.{List, [], ◌∷◌, ℕ, pos}
use Rattle.semantics.specs.Editions.{edition1}
use Rattle.semantics.specs.Expressions.{Number, constant, variable, operate, sum, compare, equal, number_bytes, truth_bytes}
use Rattle.semantics.specs.Sections.{Variable, Equation, steady, choice}
use Rattle.semantics.specs.Plant.{Plant}
use Rattle.semantics.specs.Calls.{Ran}
use Rattle.schedules.specs.Nodes.{Node, parallel, reset, reinitial}
use Rattle.schedules.specs.Trees.{Tree, leaf, loop, branch, seq, par, nil, cons}
use Rattle.schedules.specs.Files.{Schedule}
use Rattle.schedules.specs.Writing.{sections_of, write_file}

abbrev to10 : Variable
to10 = record { minimum = pos 0; maximum = pos 10; initial = pos 0 }

-- variables 0 and 1, both 0..10
abbrev pub two_variables : List Equation → Plant
two_variables es = record { variables = to10 ∷ to10 ∷ []; equations = es }

-- RESET this variable to this number
abbrev pub reset_to : ℕ → Number → Node
reset_to v e = reset v (number_bytes edition1 e)

-- PARALLEL of these two, nodes 1 and 2
abbrev pub side_by_side : List Equation → Node → Node → List ℕ
side_by_side es x y = write_file edition1 (two_variables es) (parallel 2 ∷ x ∷ y ∷ [])

abbrev pub one_more_than : ℕ → Number
one_more_than v = operate sum (constant (pos 1)) (variable v)

-- variable 0 becomes 1 more, variable 1 becomes 5: neither's variable occurs in the other's statement
abbrev pub independent_branches : List ℕ
independent_branches = side_by_side [] (reset_to 0 (one_more_than 0)) (reset_to 1 (constant (pos 5)))

-- what it is read as
abbrev branch_nodes : List Node
branch_nodes = parallel 2 ∷ reset_to 0 (one_more_than 0) ∷ reset_to 1 (constant (pos 5)) ∷ []

abbrev pub independent_schedule : Schedule
independent_schedule = record { sections = sections_of edition1 (two_variables []) branch_nodes; plant = two_variables []; nodes = branch_nodes; root = par (leaf 1) (cons (leaf 2) nil) }

-- the same with an equation of kind 1: variable 1 rises by 1, and its node is a REINITIAL
abbrev pub driven_plant : Plant
driven_plant = two_variables (steady (record { driven = 1; rate = pos 1 }) ∷ [])

abbrev pub driven_branches : List ℕ
driven_branches = write_file edition1 driven_plant (parallel 2 ∷ reset_to 0 (one_more_than 0) ∷ reinitial 1 (number_bytes edition1 (constant (pos 5))) ∷ [])

-- variable 0 becomes 1 more than variable 1
abbrev pub meeting_branches : List ℕ
meeting_branches = side_by_side [] (reset_to 0 (one_more_than 1)) (reset_to 1 (constant (pos 5)))

-- both assign variable 0
abbrev pub same_variable : List ℕ
same_variable = side_by_side [] (reset_to 0 (constant (pos 3))) (reset_to 0 (constant (pos 5)))

-- a CASE of one mode, without a rate, with a switch to itself where variable 0 is 1
abbrev pub switch_at1 : Equation
switch_at1 = choice (record { initial = 0; modes = record { rates = []; switches = record { target = 0; truth = truth_bytes edition1 (compare equal (variable 0) (constant (pos 1))) } ∷ [] } ∷ [] })

abbrev pub branches_with_case : List ℕ
branches_with_case = side_by_side (switch_at1 ∷ []) (reset_to 0 (one_more_than 0)) (reset_to 1 (constant (pos 5)))

-- an IF, node 0: PARALLEL of a WHILE, node 2, over node 3 and of a SEQUENCE of nodes 5 and 6; else node 7
abbrev pub nested_branches : Tree
nested_branches = branch 0 (par (loop 2 (leaf 3)) (cons (seq (leaf 5) (cons (leaf 6) nil)) nil)) (leaf 7)

-- a start with these values below 256
abbrev pub from_values : ℕ → ℕ → List ℕ
from_values v w = 0 ∷ 0 ∷ 0 ∷ v ∷ 0 ∷ 0 ∷ 0 ∷ w ∷ []

abbrev pub pick_of : ℕ → List ℕ
pick_of n = 1 ∷ n ∷ 0 ∷ []

-- a record: answer, the last byte of the set of acting nodes, two values below 256
abbrev pub record_with : ℕ → ℕ → ℕ → ℕ → List ℕ
record_with answer set v w = answer ∷ 0 ∷ 0 ∷ 0 ∷ 0 ∷ 0 ∷ 0 ∷ 0 ∷ set ∷ 0 ∷ 0 ∷ 0 ∷ v ∷ 0 ∷ 0 ∷ 0 ∷ w ∷ []

-- a run that is not refused: its counts and records
abbrev pub wrote : ℕ → ℕ → ℕ → List ℕ → Ran
wrote taken away faulted records = record { refusal = 0; counts = record { taken = taken; turned_away = away; faulted = faulted }; records = records }
