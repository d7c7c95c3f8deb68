-- What the papers are about: nodes and small schedule files.
use Rattle.std.specs.Prelude.{◌≡◌, List, [], ◌∷◌, ◌++◌, ℕ, suc, pos, length, replicate, take}
use Rattle.std.proofs.Math.Option.{Option, map}
use Rattle.semantics.specs.Editions.{Edition, edition1}
use Rattle.semantics.specs.Refusals.{accepted}
use Rattle.semantics.specs.Tables.{Table, judge_table}
use Rattle.schedules.specs.Nodes.{Node, sequence, parallel, while_do, if_else, reset, stop_all, continue_until}
use Rattle.schedules.specs.Trees.{Tree, tree_of}
use Rattle.schedules.specs.Numbering.{locations}
use Rattle.schedules.specs.Comparisons.{comparisons}
use Rattle.schedules.specs.Compiling.{tests_of}
use Rattle.schedules.specs.Calls.{compile}
use Rattle.schedules.specs.Writing.{write_file}
use Rattle.schedules.specs.Sizes.{Size, size_of}

-- the number of locations of these nodes
abbrev pub location_count : List Node → Option ℕ
location_count ns = map (λ (t : Tree). length (locations (tests_of ns) t)) (tree_of ns)

-- the comparisons that numbering the locations of these nodes takes
abbrev pub comparison_count : List Node → Option ℕ
comparison_count ns = map (comparisons (tests_of ns)) (tree_of ns)

-- PARALLEL of STOP and CONTINUE
abbrev pub stop_or_wait : List ℕ → List Node
stop_or_wait t = parallel 2 ∷ stop_all ∷ continue_until t ∷ []

-- the size of the tree of these nodes
abbrev pub size_in : List Node → Option Size
size_in ns = map size_of (tree_of ns)

-- PARALLEL of two: SEQUENCE of a RESET and of a WHILE over a CONTINUE; IF with a RESET and with a SEQUENCE of two RESETs
abbrev pub mixed : ℕ → List ℕ → List ℕ → List Node
mixed v e t =
    parallel 2 ∷ sequence 2 ∷ reset v e ∷ while_do t ∷ continue_until t ∷
    if_else t ∷ reset v e ∷ sequence 2 ∷ reset v e ∷ reset v e ∷ []

-- PARALLEL of two: SEQUENCE of a RESET, a STOP and two RESETs; CONTINUE
abbrev pub stop_inside : ℕ → List ℕ → List ℕ → List Node
stop_inside v e t = parallel 2 ∷ sequence 4 ∷ reset v e ∷ stop_all ∷ reset v e ∷ reset v e ∷ continue_until t ∷ []

-- PARALLEL of ten RESETs of variable 0 to 7, and so many RESETs before it
abbrev pub ten_resets : List Node
ten_resets = parallel 10 ∷ replicate 10 (reset 0 (1 ∷ 0 ∷ 0 ∷ 0 ∷ 7 ∷ []))

abbrev pub resets_before : ℕ → List Node
resets_before n = sequence (suc n) ∷ (replicate n (reset 0 (1 ∷ 0 ∷ 0 ∷ 0 ∷ 7 ∷ [])) ++ ten_resets)

-- the bytes of a file with one variable 0..10, no equation and these nodes
abbrev pub file_with : List Node → List ℕ
file_with ns = write_file edition1 (record { variables = record { minimum = pos 0; maximum = pos 10; initial = pos 0 } ∷ []; equations = [] }) ns

-- compiling takes the file, and the bytes that it writes are read back as a table of so many locations
pub record TakenWith (ed : Edition) (file room : List ℕ) (locations : ℕ) : Type 0 where
  pub taken : (compile ed file room).refusal ≡ 0
  pub back : Table
  pub table_read : judge_table ed (take (compile ed file room).written (compile ed file room).table) ≡ accepted back
  pub as_many : length back.locations ≡ locations

-- variables 0 and 1 in 0..10, no equation; PARALLEL of RESET variable 0 to 7 and RESET variable 1 to 5
unfoldable pub k5_file : List ℕ
k5_file =
    1 ∷ 0 ∷ 55 ∷ 0 ∷ 25 ∷ 2 ∷ 0 ∷ 0 ∷ 0 ∷ 0 ∷ 0 ∷ 0 ∷ 0 ∷ 10 ∷ 0 ∷ 0 ∷ 0 ∷ 0 ∷ 0 ∷ 0 ∷ 0 ∷ 0 ∷ 0 ∷ 0 ∷ 0 ∷ 10 ∷ 0 ∷ 0 ∷ 0 ∷ 0 ∷
    0 ∷ 1 ∷ 0 ∷ 0 ∷ 20 ∷ 3 ∷ 2 ∷ 2 ∷ 2 ∷ 7 ∷ 6 ∷ 0 ∷ 1 ∷ 0 ∷ 0 ∷ 0 ∷ 7 ∷ 7 ∷ 6 ∷ 1 ∷ 1 ∷ 0 ∷ 0 ∷ 0 ∷ 5 ∷ []

-- its table: two actions, three locations; at location 0 both nodes act, node 1 leads to location 1 and node 2 to location 2
unfoldable pub k5_table : List ℕ
k5_table =
    1 ∷ 0 ∷ 0 ∷ 0 ∷ 85 ∷ 0 ∷ 25 ∷ 2 ∷ 0 ∷ 0 ∷ 0 ∷ 0 ∷ 0 ∷ 0 ∷ 0 ∷ 10 ∷ 0 ∷ 0 ∷ 0 ∷ 0 ∷ 0 ∷ 0 ∷ 0 ∷ 0 ∷ 0 ∷ 0 ∷ 0 ∷ 10 ∷ 0 ∷ 0 ∷ 0 ∷ 0 ∷
    0 ∷ 1 ∷ 0 ∷ 0 ∷ 19 ∷ 2 ∷ 8 ∷ 1 ∷ 3 ∷ 0 ∷ 1 ∷ 0 ∷ 0 ∷ 0 ∷ 7 ∷ 8 ∷ 2 ∷ 3 ∷ 1 ∷ 1 ∷ 0 ∷ 0 ∷ 0 ∷ 5 ∷
    0 ∷ 0 ∷ 0 ∷ 25 ∷ 0 ∷ 3 ∷ 2 ∷ 1 ∷ 0 ∷ 1 ∷ 0xFF ∷ 0xFF ∷ 2 ∷ 0 ∷ 2 ∷ 0xFF ∷ 0xFF ∷ 1 ∷ 2 ∷ 0xFF ∷ 0xFE ∷ 0xFF ∷ 0xFF ∷ 1 ∷ 1 ∷ 0xFF ∷ 0xFE ∷ 0xFF ∷ 0xFF ∷ []

-- one variable 0..10; CONTINUE UNTIL true or a fault
unfoldable pub one_wait_file : List ℕ
one_wait_file =
    1 ∷ 0 ∷ 40 ∷ 0 ∷ 13 ∷ 1 ∷ 0 ∷ 0 ∷ 0 ∷ 0 ∷ 0 ∷ 0 ∷ 0 ∷ 10 ∷ 0 ∷ 0 ∷ 0 ∷ 0 ∷ 0 ∷ 1 ∷ 0 ∷ 0 ∷ 17 ∷ 1 ∷
    15 ∷ 5 ∷ 41 ∷ 47 ∷ 32 ∷ 20 ∷ 1 ∷ 128 ∷ 0 ∷ 0 ∷ 0 ∷ 1 ∷ 0 ∷ 0 ∷ 0 ∷ 0 ∷ []

-- PARALLEL of STOP and CONTINUE UNTIL true
unfoldable pub stop_wait_file : List ℕ
stop_wait_file =
    1 ∷ 0 ∷ 32 ∷ 0 ∷ 13 ∷ 1 ∷ 0 ∷ 0 ∷ 0 ∷ 0 ∷ 0 ∷ 0 ∷ 0 ∷ 10 ∷ 0 ∷ 0 ∷ 0 ∷ 0 ∷ 0 ∷ 1 ∷ 0 ∷ 0 ∷ 9 ∷ 3 ∷
    2 ∷ 2 ∷ 2 ∷ 1 ∷ 9 ∷ 2 ∷ 5 ∷ 47 ∷ []

-- variable 0 in 0..10 and variable 1 in 0..0, each with rate 1; CONTINUE UNTIL false
unfoldable pub two_rates_file : List ℕ
two_rates_file =
    1 ∷ 0 ∷ 56 ∷ 0 ∷ 25 ∷ 2 ∷ 0 ∷ 0 ∷ 0 ∷ 0 ∷ 0 ∷ 0 ∷ 0 ∷ 10 ∷ 0 ∷ 0 ∷ 0 ∷ 0 ∷ 0 ∷ 0 ∷ 0 ∷ 0 ∷ 0 ∷ 0 ∷
    0 ∷ 0 ∷ 0 ∷ 0 ∷ 0 ∷ 0 ∷ 0 ∷ 17 ∷ 2 ∷ 0 ∷ 6 ∷ 1 ∷ 0 ∷ 0 ∷ 0 ∷ 0 ∷ 1 ∷ 0 ∷ 6 ∷ 1 ∷ 1 ∷ 0 ∷ 0 ∷ 0 ∷
    1 ∷ 0 ∷ 5 ∷ 1 ∷ 3 ∷ 5 ∷ 42 ∷ 47 ∷ []

-- the same with the ranges changed over
unfoldable pub two_rates_file_2 : List ℕ
two_rates_file_2 =
    1 ∷ 0 ∷ 56 ∷ 0 ∷ 25 ∷ 2 ∷ 0 ∷ 0 ∷ 0 ∷ 0 ∷ 0 ∷ 0 ∷ 0 ∷ 0 ∷ 0 ∷ 0 ∷ 0 ∷ 0 ∷ 0 ∷ 0 ∷ 0 ∷ 0 ∷ 0 ∷ 0 ∷
    0 ∷ 10 ∷ 0 ∷ 0 ∷ 0 ∷ 0 ∷ 0 ∷ 17 ∷ 2 ∷ 0 ∷ 6 ∷ 1 ∷ 0 ∷ 0 ∷ 0 ∷ 0 ∷ 1 ∷ 0 ∷ 6 ∷ 1 ∷ 1 ∷ 0 ∷ 0 ∷ 0 ∷
    1 ∷ 0 ∷ 5 ∷ 1 ∷ 3 ∷ 5 ∷ 42 ∷ 47 ∷ []

-- WHILE true: RESET variable 0 to 7
unfoldable pub while_file : List ℕ
while_file =
    1 ∷ 0 ∷ 35 ∷ 0 ∷ 13 ∷ 1 ∷ 0 ∷ 0 ∷ 0 ∷ 0 ∷ 0 ∷ 0 ∷ 0 ∷ 10 ∷ 0 ∷ 0 ∷ 0 ∷ 0 ∷ 0 ∷ 1 ∷ 0 ∷ 0 ∷ 12 ∷ 2 ∷
    2 ∷ 3 ∷ 47 ∷ 7 ∷ 6 ∷ 0 ∷ 1 ∷ 0 ∷ 0 ∷ 0 ∷ 7 ∷ []

-- SEQUENCE of STOP and RESET variable 0 to 7, which is never reached
unfoldable pub stop_reset_file : List ℕ
stop_reset_file =
    1 ∷ 0 ∷ 37 ∷ 0 ∷ 13 ∷ 1 ∷ 0 ∷ 0 ∷ 0 ∷ 0 ∷ 0 ∷ 0 ∷ 0 ∷ 10 ∷ 0 ∷ 0 ∷ 0 ∷ 0 ∷ 0 ∷ 1 ∷ 0 ∷ 0 ∷ 14 ∷ 3 ∷
    2 ∷ 1 ∷ 2 ∷ 1 ∷ 9 ∷ 7 ∷ 6 ∷ 0 ∷ 1 ∷ 0 ∷ 0 ∷ 0 ∷ 7 ∷ []

-- PARALLEL of RESET variable 0 to 7 and of a SEQUENCE: RESET variable 0 to 5, CONTINUE UNTIL true
unfoldable pub reset_first_file : List ℕ
reset_first_file =
    1 ∷ 0 ∷ 49 ∷ 0 ∷ 13 ∷ 1 ∷ 0 ∷ 0 ∷ 0 ∷ 0 ∷ 0 ∷ 0 ∷ 0 ∷ 10 ∷ 0 ∷ 0 ∷ 0 ∷ 0 ∷ 0 ∷ 1 ∷ 0 ∷ 0 ∷ 26 ∷ 5 ∷
    2 ∷ 2 ∷ 2 ∷ 7 ∷ 6 ∷ 0 ∷ 1 ∷ 0 ∷ 0 ∷ 0 ∷ 7 ∷ 2 ∷ 1 ∷ 2 ∷ 7 ∷ 6 ∷ 0 ∷ 1 ∷ 0 ∷ 0 ∷ 0 ∷ 5 ∷ 2 ∷ 5 ∷ 47 ∷ []

-- the same with its two children listed the other way round
unfoldable pub reset_last_file : List ℕ
reset_last_file =
    1 ∷ 0 ∷ 49 ∷ 0 ∷ 13 ∷ 1 ∷ 0 ∷ 0 ∷ 0 ∷ 0 ∷ 0 ∷ 0 ∷ 0 ∷ 10 ∷ 0 ∷ 0 ∷ 0 ∷ 0 ∷ 0 ∷ 1 ∷ 0 ∷ 0 ∷ 26 ∷ 5 ∷
    2 ∷ 2 ∷ 2 ∷ 2 ∷ 1 ∷ 2 ∷ 7 ∷ 6 ∷ 0 ∷ 1 ∷ 0 ∷ 0 ∷ 0 ∷ 5 ∷ 2 ∷ 5 ∷ 47 ∷ 7 ∷ 6 ∷ 0 ∷ 1 ∷ 0 ∷ 0 ∷ 0 ∷ 7 ∷ []

-- a CASE of one mode whose switch faults; PARALLEL of CONTINUE UNTIL false and CONTINUE UNTIL true
unfoldable pub faulty_check_file : List ℕ
faulty_check_file =
    1 ∷ 0 ∷ 55 ∷ 0 ∷ 13 ∷ 1 ∷ 0 ∷ 0 ∷ 0 ∷ 0 ∷ 0 ∷ 0 ∷ 0 ∷ 10 ∷ 0 ∷ 0 ∷ 0 ∷ 0 ∷ 0 ∷ 22 ∷ 1 ∷ 0 ∷ 19 ∷ 2 ∷
    0 ∷ 1 ∷ 0 ∷ 1 ∷ 13 ∷ 0 ∷ 32 ∷ 20 ∷ 1 ∷ 128 ∷ 0 ∷ 0 ∷ 0 ∷ 1 ∷ 0 ∷ 0 ∷ 0 ∷ 0 ∷ 0 ∷ 11 ∷ 3 ∷ 2 ∷ 2 ∷ 2 ∷
    3 ∷ 5 ∷ 42 ∷ 47 ∷ 2 ∷ 5 ∷ 47 ∷ []

-- two CASEs of one mode each, CONTINUE UNTIL false: selector 0's switch faults, selector 1's is true
unfoldable pub fault_first_file : List ℕ
fault_first_file =
    1 ∷ 0 ∷ 59 ∷ 0 ∷ 13 ∷ 1 ∷ 0 ∷ 0 ∷ 0 ∷ 0 ∷ 0 ∷ 0 ∷ 0 ∷ 10 ∷ 0 ∷ 0 ∷ 0 ∷ 0 ∷ 0 ∷ 32 ∷ 2 ∷ 0 ∷ 19 ∷ 2 ∷
    0 ∷ 1 ∷ 0 ∷ 1 ∷ 13 ∷ 0 ∷ 32 ∷ 20 ∷ 1 ∷ 128 ∷ 0 ∷ 0 ∷ 0 ∷ 1 ∷ 0 ∷ 0 ∷ 0 ∷ 0 ∷ 0 ∷ 8 ∷ 2 ∷ 0 ∷ 1 ∷ 0 ∷
    1 ∷ 2 ∷ 0 ∷ 47 ∷ 0 ∷ 5 ∷ 1 ∷ 3 ∷ 5 ∷ 42 ∷ 47 ∷ []

-- the same with the CASEs changed over
unfoldable pub truth_first_file : List ℕ
truth_first_file =
    1 ∷ 0 ∷ 59 ∷ 0 ∷ 13 ∷ 1 ∷ 0 ∷ 0 ∷ 0 ∷ 0 ∷ 0 ∷ 0 ∷ 0 ∷ 10 ∷ 0 ∷ 0 ∷ 0 ∷ 0 ∷ 0 ∷ 32 ∷ 2 ∷ 0 ∷ 8 ∷ 2 ∷
    0 ∷ 1 ∷ 0 ∷ 1 ∷ 2 ∷ 0 ∷ 47 ∷ 0 ∷ 19 ∷ 2 ∷ 0 ∷ 1 ∷ 0 ∷ 1 ∷ 13 ∷ 0 ∷ 32 ∷ 20 ∷ 1 ∷ 128 ∷ 0 ∷ 0 ∷ 0 ∷ 1 ∷
    0 ∷ 0 ∷ 0 ∷ 0 ∷ 0 ∷ 5 ∷ 1 ∷ 3 ∷ 5 ∷ 42 ∷ 47 ∷ []

-- one CASE of one mode with two switches, CONTINUE UNTIL false: the first is true, the second faults
unfoldable pub truth_listed_file : List ℕ
truth_listed_file =
    1 ∷ 0 ∷ 52 ∷ 0 ∷ 13 ∷ 1 ∷ 0 ∷ 0 ∷ 0 ∷ 0 ∷ 0 ∷ 0 ∷ 0 ∷ 10 ∷ 0 ∷ 0 ∷ 0 ∷ 0 ∷ 0 ∷ 25 ∷ 1 ∷ 0 ∷ 22 ∷ 2 ∷
    0 ∷ 1 ∷ 0 ∷ 2 ∷ 2 ∷ 0 ∷ 47 ∷ 13 ∷ 0 ∷ 32 ∷ 20 ∷ 1 ∷ 128 ∷ 0 ∷ 0 ∷ 0 ∷ 1 ∷ 0 ∷ 0 ∷ 0 ∷ 0 ∷ 0 ∷ 5 ∷ 1 ∷
    3 ∷ 5 ∷ 42 ∷ 47 ∷ []

-- the same with the switches changed over
unfoldable pub fault_listed_file : List ℕ
fault_listed_file =
    1 ∷ 0 ∷ 52 ∷ 0 ∷ 13 ∷ 1 ∷ 0 ∷ 0 ∷ 0 ∷ 0 ∷ 0 ∷ 0 ∷ 0 ∷ 10 ∷ 0 ∷ 0 ∷ 0 ∷ 0 ∷ 0 ∷ 25 ∷ 1 ∷ 0 ∷ 22 ∷ 2 ∷
    0 ∷ 1 ∷ 0 ∷ 2 ∷ 13 ∷ 0 ∷ 32 ∷ 20 ∷ 1 ∷ 128 ∷ 0 ∷ 0 ∷ 0 ∷ 1 ∷ 0 ∷ 0 ∷ 0 ∷ 0 ∷ 2 ∷ 0 ∷ 47 ∷ 0 ∷ 5 ∷ 1 ∷
    3 ∷ 5 ∷ 42 ∷ 47 ∷ []

-- the table of stop_reset_file: two actions, one location
unfoldable pub stop_reset_table : List ℕ
stop_reset_table =
    1 ∷ 0 ∷ 0 ∷ 0 ∷ 50 ∷ 0 ∷ 13 ∷ 1 ∷ 0 ∷ 0 ∷ 0 ∷ 0 ∷ 0 ∷ 0 ∷ 0 ∷ 10 ∷ 0 ∷ 0 ∷ 0 ∷ 0 ∷ 0 ∷ 1 ∷ 0 ∷ 0 ∷
    13 ∷ 2 ∷ 2 ∷ 1 ∷ 5 ∷ 8 ∷ 2 ∷ 3 ∷ 0 ∷ 1 ∷ 0 ∷ 0 ∷ 0 ∷ 7 ∷ 0 ∷ 0 ∷ 0 ∷ 8 ∷ 0 ∷ 1 ∷ 1 ∷ 1 ∷ 255 ∷ 253 ∷
    255 ∷ 255 ∷ []

-- ---- the CASE paper
-- variable 0 in 0..100, variable 1 in −50..50. A CASE: mode 0 has rate 1 of variable 0 and a switch to mode 1 where variable 0 is 2;
-- mode 1 has rate −1 of variable 1 and a switch to mode 2 where variable 1 is below 0; mode 2 has rate 1 of variable 0.
-- SEQUENCE of CONTINUE UNTIL 3 ≤ variable 0; REINITIAL variable 1 to 3 − 10; IF variable 1 < 0: SWITCH selector 0 to mode 1, else STOP.
unfoldable pub case_file : List ℕ
case_file =
    1 ∷ 0 ∷ 125 ∷ 0 ∷ 25 ∷ 2 ∷ 0 ∷ 0 ∷ 0 ∷ 0 ∷ 0 ∷ 0 ∷ 0 ∷ 100 ∷ 0 ∷ 0 ∷ 0 ∷ 0 ∷ 255 ∷ 255 ∷ 255 ∷ 206 ∷ 0 ∷ 0 ∷
    0 ∷ 50 ∷ 0 ∷ 0 ∷ 0 ∷ 0 ∷ 0 ∷ 47 ∷ 1 ∷ 0 ∷ 44 ∷ 2 ∷ 0 ∷ 3 ∷ 1 ∷ 0 ∷ 0 ∷ 0 ∷ 0 ∷ 1 ∷ 1 ∷ 9 ∷ 1 ∷ 34 ∷
    2 ∷ 0 ∷ 1 ∷ 0 ∷ 0 ∷ 0 ∷ 2 ∷ 1 ∷ 1 ∷ 255 ∷ 255 ∷ 255 ∷ 255 ∷ 1 ∷ 9 ∷ 2 ∷ 33 ∷ 2 ∷ 1 ∷ 1 ∷ 0 ∷ 0 ∷ 0 ∷ 0 ∷
    1 ∷ 0 ∷ 0 ∷ 0 ∷ 0 ∷ 1 ∷ 0 ∷ 0 ∷ 44 ∷ 6 ∷ 2 ∷ 1 ∷ 3 ∷ 9 ∷ 5 ∷ 32 ∷ 1 ∷ 0 ∷ 0 ∷ 0 ∷ 3 ∷ 2 ∷ 0 ∷ 13 ∷
    7 ∷ 1 ∷ 17 ∷ 1 ∷ 0 ∷ 0 ∷ 0 ∷ 3 ∷ 1 ∷ 0 ∷ 0 ∷ 0 ∷ 10 ∷ 9 ∷ 4 ∷ 33 ∷ 2 ∷ 1 ∷ 1 ∷ 0 ∷ 0 ∷ 0 ∷ 0 ∷ 3 ∷
    8 ∷ 0 ∷ 1 ∷ 1 ∷ 9 ∷ []

unfoldable pub case_table : List ℕ
case_table =
    1 ∷ 0 ∷ 0 ∷ 0 ∷ 165 ∷ 0 ∷ 25 ∷ 2 ∷ 0 ∷ 0 ∷ 0 ∷ 0 ∷ 0 ∷ 0 ∷ 0 ∷ 100 ∷ 0 ∷ 0 ∷ 0 ∷ 0 ∷ 255 ∷ 255 ∷ 255 ∷ 206 ∷
    0 ∷ 0 ∷ 0 ∷ 50 ∷ 0 ∷ 0 ∷ 0 ∷ 0 ∷ 0 ∷ 47 ∷ 1 ∷ 0 ∷ 44 ∷ 2 ∷ 0 ∷ 3 ∷ 1 ∷ 0 ∷ 0 ∷ 0 ∷ 0 ∷ 1 ∷ 1 ∷ 9 ∷
    1 ∷ 34 ∷ 2 ∷ 0 ∷ 1 ∷ 0 ∷ 0 ∷ 0 ∷ 2 ∷ 1 ∷ 1 ∷ 255 ∷ 255 ∷ 255 ∷ 255 ∷ 1 ∷ 9 ∷ 2 ∷ 33 ∷ 2 ∷ 1 ∷ 1 ∷ 0 ∷ 0 ∷
    0 ∷ 0 ∷ 1 ∷ 0 ∷ 0 ∷ 0 ∷ 0 ∷ 1 ∷ 0 ∷ 0 ∷ 46 ∷ 5 ∷ 10 ∷ 1 ∷ 2 ∷ 32 ∷ 1 ∷ 0 ∷ 0 ∷ 0 ∷ 3 ∷ 2 ∷ 0 ∷ 14 ∷
    2 ∷ 3 ∷ 1 ∷ 17 ∷ 1 ∷ 0 ∷ 0 ∷ 0 ∷ 3 ∷ 1 ∷ 0 ∷ 0 ∷ 0 ∷ 10 ∷ 10 ∷ 3 ∷ 1 ∷ 33 ∷ 2 ∷ 1 ∷ 1 ∷ 0 ∷ 0 ∷ 0 ∷
    0 ∷ 4 ∷ 4 ∷ 4 ∷ 0 ∷ 1 ∷ 2 ∷ 5 ∷ 5 ∷ 0 ∷ 0 ∷ 0 ∷ 32 ∷ 0 ∷ 5 ∷ 1 ∷ 1 ∷ 0 ∷ 1 ∷ 255 ∷ 255 ∷ 1 ∷ 2 ∷ 0 ∷
    2 ∷ 255 ∷ 255 ∷ 1 ∷ 3 ∷ 0 ∷ 3 ∷ 0 ∷ 4 ∷ 1 ∷ 4 ∷ 255 ∷ 254 ∷ 255 ∷ 255 ∷ 1 ∷ 5 ∷ 255 ∷ 253 ∷ 255 ∷ 255 ∷ []

-- three ticks, switch 0, switch 0 again, switch 1, a switch of selector 1, 9 9 9, pick 7, tick, switch 0, pick 1, two ticks, picks 1, 2, 3, 4, tick
unfoldable pub case_events : List ℕ
case_events =
    0 ∷ 0 ∷ 0 ∷ 0 ∷ 0 ∷ 0 ∷ 0 ∷ 0 ∷ 0 ∷ 2 ∷ 0 ∷ 0 ∷ 2 ∷ 0 ∷ 0 ∷ 2 ∷ 0 ∷ 1 ∷ 2 ∷ 1 ∷ 0 ∷ 9 ∷ 9 ∷ 9 ∷
    1 ∷ 7 ∷ 0 ∷ 0 ∷ 0 ∷ 0 ∷ 2 ∷ 0 ∷ 0 ∷ 1 ∷ 1 ∷ 0 ∷ 0 ∷ 0 ∷ 0 ∷ 0 ∷ 0 ∷ 0 ∷ 1 ∷ 1 ∷ 0 ∷ 1 ∷ 2 ∷ 0 ∷
    1 ∷ 3 ∷ 0 ∷ 1 ∷ 4 ∷ 0 ∷ 0 ∷ 0 ∷ 0 ∷ []

-- 200, 200, 28, 200, 30, 26, 26, 24, 25, 200 (variable 0 stays, variable 1 falls), 200, 29, 200, 31, 200, 200, 200, 201, 23
unfoldable pub case_records : List ℕ
case_records =
    200 ∷ 0 ∷ 0 ∷ 0 ∷ 0 ∷ 0 ∷ 0 ∷ 0 ∷ 2 ∷ 0 ∷ 0 ∷ 0 ∷ 1 ∷ 0 ∷ 0 ∷ 0 ∷ 0 ∷ 0 ∷
    200 ∷ 0 ∷ 0 ∷ 0 ∷ 0 ∷ 0 ∷ 0 ∷ 0 ∷ 2 ∷ 0 ∷ 0 ∷ 0 ∷ 2 ∷ 0 ∷ 0 ∷ 0 ∷ 0 ∷ 0 ∷
    28 ∷ 0 ∷ 0 ∷ 0 ∷ 0 ∷ 0 ∷ 0 ∷ 0 ∷ 2 ∷ 0 ∷ 0 ∷ 0 ∷ 2 ∷ 0 ∷ 0 ∷ 0 ∷ 0 ∷ 0 ∷
    200 ∷ 0 ∷ 0 ∷ 0 ∷ 0 ∷ 0 ∷ 0 ∷ 0 ∷ 2 ∷ 0 ∷ 0 ∷ 0 ∷ 2 ∷ 0 ∷ 0 ∷ 0 ∷ 0 ∷ 1 ∷
    30 ∷ 0 ∷ 0 ∷ 0 ∷ 0 ∷ 0 ∷ 0 ∷ 0 ∷ 2 ∷ 0 ∷ 0 ∷ 0 ∷ 2 ∷ 0 ∷ 0 ∷ 0 ∷ 0 ∷ 1 ∷
    26 ∷ 0 ∷ 0 ∷ 0 ∷ 0 ∷ 0 ∷ 0 ∷ 0 ∷ 2 ∷ 0 ∷ 0 ∷ 0 ∷ 2 ∷ 0 ∷ 0 ∷ 0 ∷ 0 ∷ 1 ∷
    26 ∷ 0 ∷ 0 ∷ 0 ∷ 0 ∷ 0 ∷ 0 ∷ 0 ∷ 2 ∷ 0 ∷ 0 ∷ 0 ∷ 2 ∷ 0 ∷ 0 ∷ 0 ∷ 0 ∷ 1 ∷
    24 ∷ 0 ∷ 0 ∷ 0 ∷ 0 ∷ 0 ∷ 0 ∷ 0 ∷ 2 ∷ 0 ∷ 0 ∷ 0 ∷ 2 ∷ 0 ∷ 0 ∷ 0 ∷ 0 ∷ 1 ∷
    25 ∷ 0 ∷ 0 ∷ 0 ∷ 0 ∷ 0 ∷ 0 ∷ 0 ∷ 2 ∷ 0 ∷ 0 ∷ 0 ∷ 2 ∷ 0 ∷ 0 ∷ 0 ∷ 0 ∷ 1 ∷
    200 ∷ 0 ∷ 0 ∷ 0 ∷ 0 ∷ 0 ∷ 0 ∷ 0 ∷ 2 ∷ 0 ∷ 0 ∷ 0 ∷ 2 ∷ 255 ∷ 255 ∷ 255 ∷ 255 ∷ 1 ∷
    200 ∷ 0 ∷ 0 ∷ 0 ∷ 0 ∷ 0 ∷ 0 ∷ 0 ∷ 2 ∷ 0 ∷ 0 ∷ 0 ∷ 2 ∷ 255 ∷ 255 ∷ 255 ∷ 255 ∷ 2 ∷
    29 ∷ 0 ∷ 0 ∷ 0 ∷ 0 ∷ 0 ∷ 0 ∷ 0 ∷ 2 ∷ 0 ∷ 0 ∷ 0 ∷ 2 ∷ 255 ∷ 255 ∷ 255 ∷ 255 ∷ 2 ∷
    200 ∷ 0 ∷ 0 ∷ 0 ∷ 0 ∷ 0 ∷ 0 ∷ 0 ∷ 2 ∷ 0 ∷ 0 ∷ 0 ∷ 3 ∷ 255 ∷ 255 ∷ 255 ∷ 255 ∷ 2 ∷
    31 ∷ 0 ∷ 0 ∷ 0 ∷ 0 ∷ 0 ∷ 0 ∷ 0 ∷ 2 ∷ 0 ∷ 0 ∷ 0 ∷ 3 ∷ 255 ∷ 255 ∷ 255 ∷ 255 ∷ 2 ∷
    200 ∷ 0 ∷ 0 ∷ 0 ∷ 0 ∷ 0 ∷ 0 ∷ 0 ∷ 4 ∷ 0 ∷ 0 ∷ 0 ∷ 3 ∷ 255 ∷ 255 ∷ 255 ∷ 255 ∷ 2 ∷
    200 ∷ 0 ∷ 0 ∷ 0 ∷ 0 ∷ 0 ∷ 0 ∷ 0 ∷ 8 ∷ 0 ∷ 0 ∷ 0 ∷ 3 ∷ 255 ∷ 255 ∷ 255 ∷ 249 ∷ 2 ∷
    200 ∷ 0 ∷ 0 ∷ 0 ∷ 0 ∷ 0 ∷ 0 ∷ 0 ∷ 16 ∷ 0 ∷ 0 ∷ 0 ∷ 3 ∷ 255 ∷ 255 ∷ 255 ∷ 249 ∷ 2 ∷
    201 ∷ 0 ∷ 0 ∷ 0 ∷ 0 ∷ 0 ∷ 0 ∷ 0 ∷ 0 ∷ 0 ∷ 0 ∷ 0 ∷ 3 ∷ 255 ∷ 255 ∷ 255 ∷ 249 ∷ 1 ∷
    23 ∷ 0 ∷ 0 ∷ 0 ∷ 0 ∷ 0 ∷ 0 ∷ 0 ∷ 0 ∷ 0 ∷ 0 ∷ 0 ∷ 3 ∷ 255 ∷ 255 ∷ 255 ∷ 249 ∷ 1 ∷ []
