-- What the papers of document 02, item 2, are about: numbers and truths that fault, small schedules around them, and both runs of a schedule.
use Rattle.std.specs.Prelude.{◌≡◌, List, [], ◌∷◌, ◌++◌, map, ℕ, ℤ, pos, negsuc, replicate, take}
use Rattle.semantics.specs.Editions.{edition1}
use Rattle.semantics.specs.Expressions.{Number, constant, operate, sum, difference, Truth, compare, at_most, opposite, always, number_bytes, truth_bytes}
use Rattle.semantics.specs.Sections.{Variable, Equation, steady, choice}
use Rattle.semantics.specs.Calls.{Ran, table_run_of}
use Rattle.semantics.specs.K1.{one_record}
use Rattle.schedules.specs.Nodes.{parallel, while_do, if_else, continue_until, reset, stop_all}
use Rattle.schedules.specs.Calls.{rule_run_of, compile}
use Rattle.schedules.specs.Writing.{write_file}
use Rattle.schedules.specs.Examples.{file_with}

-- ---- numbers and truths that fault
-- 2147483647 + 1, and −2147483648 − 1
abbrev pub number_too_high : Number
number_too_high = operate sum (constant (pos 2147483647)) (constant (pos 1))

abbrev pub number_too_low : Number
number_too_low = operate difference (constant (negsuc 2147483647)) (constant (pos 1))

-- this number is at most 0: it faults where the number does
abbrev pub at_most0 : Number → Truth
at_most0 e = compare at_most e (constant (pos 0))

abbrev pub never : Truth
never = opposite always

-- ---- schedules, by their bytes
-- one variable 0..10: RESET it to this number
abbrev pub assigning : Number → List ℕ
assigning e = file_with (reset 0 (number_bytes edition1 e) ∷ [])

-- one variable 0..10: CONTINUE UNTIL this truth
abbrev pub waiting_for : Truth → List ℕ
waiting_for t = file_with (continue_until (truth_bytes edition1 t) ∷ [])

-- one variable 0..10: PARALLEL of CONTINUE UNTIL the first truth and CONTINUE UNTIL the second
abbrev pub waiting_for_both : Truth → Truth → List ℕ
waiting_for_both t u = file_with (parallel 2 ∷ continue_until (truth_bytes edition1 t) ∷ continue_until (truth_bytes edition1 u) ∷ [])

-- one variable 0..10: WHILE this truth, and IF this truth
abbrev pub looping : Truth → List ℕ
looping t = file_with (while_do (truth_bytes edition1 t) ∷ stop_all ∷ [])

abbrev pub branching : Truth → List ℕ
branching t = file_with (if_else (truth_bytes edition1 t) ∷ stop_all ∷ stop_all ∷ [])

abbrev to10 : Variable
to10 = record { minimum = pos 0; maximum = pos 10; initial = pos 0 }

-- variables 0 and 1, both 0..10, with these equations: CONTINUE UNTIL false
abbrev pub two_driven : List Equation → List ℕ
two_driven es = write_file edition1 (record { variables = to10 ∷ to10 ∷ []; equations = es }) (continue_until (truth_bytes edition1 never) ∷ [])

-- variable v with this rate
abbrev pub rated : ℕ → ℤ → Equation
rated v z = steady (record { driven = v; rate = z })

-- a CASE of one mode, without a rate and with these switches to itself
abbrev pub switching : List Truth → Equation
switching ts = choice (record { initial = 0; modes = record { rates = []; switches = map (λ t. record { target = 0; truth = truth_bytes edition1 t }) ts } ∷ [] })

-- one variable 0..10, these CASEs: PARALLEL of CONTINUE UNTIL false and CONTINUE UNTIL true
abbrev pub checked_by : List Equation → List ℕ
checked_by es = write_file edition1 (record { variables = to10 ∷ []; equations = es })
    (parallel 2 ∷ continue_until (truth_bytes edition1 never) ∷ continue_until (truth_bytes edition1 always) ∷ [])

-- ---- both runs
-- the table of a schedule, compiled in a room that holds it
abbrev compiled : List ℕ → List ℕ
compiled file = let c = compile edition1 file (replicate 200 0) in take c.written c.table

-- by the rules and by the table
pub record BothRun (file start events buffer : List ℕ) (r : Ran) : Type 0 where
  pub by_rules : rule_run_of edition1 file start events buffer ≡ r
  pub by_table : table_run_of edition1 (compiled file) start events buffer ≡ r

-- pick 0, pick 1, or switch 0 of selector 0, and then a tick; a tick, then another
abbrev pub picked0 : List ℕ
picked0 = 1 ∷ 0 ∷ 0 ∷ 0 ∷ 0 ∷ 0 ∷ []

abbrev pub picked1 : List ℕ
picked1 = 1 ∷ 1 ∷ 0 ∷ 0 ∷ 0 ∷ 0 ∷ []

abbrev pub switched : List ℕ
switched = 2 ∷ 0 ∷ 0 ∷ 0 ∷ 0 ∷ 0 ∷ []

abbrev pub ticked : List ℕ
ticked = 0 ∷ 0 ∷ 0 ∷ 0 ∷ 0 ∷ 0 ∷ []

-- two records: the first event is answered a, the second 23; no node acts, variable 0 is 0, and these bytes follow in each
abbrev pub faults_first : ℕ → List ℕ → Ran
faults_first a more = record { refusal = 0; counts = record { taken = 0; turned_away = 1; faulted = 1 }; records = one_record a 0 0 (more ++ one_record 23 0 0 more) }
