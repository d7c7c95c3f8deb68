-- The bench papers of document 01 that are theorems, and the negative papers, each cited where it is proved.
use mathlib.Core.Path.{◌≡◌}
use mathlib.Core.List.{List, [], ◌∷◌, ◌++◌}
use mathlib.Core.Bool.{true, false}
use mathlib.Core.Option.{some, none, map}
use Prim.Native.Nat.{ℕ, ◌≤◌}
use native.Mathlib.Omega.{arith}
use lib.ListN.{length, replicate}
use lib.IntN.{ℤ, pos, negsuc}
use Rattle.semantics.specs.Bytes.{is_some}
use Rattle.semantics.specs.Editions.{Edition, edition1}
use Rattle.semantics.specs.Expressions.{constant, negation, Truth, connect, either, always, Side, ok, fault, above, value_of, holds, truth_in, value_of_number, value_of_truth}
use Rattle.semantics.specs.Run.{pass, check_of_switch, at, over, step}
use Rattle.semantics.specs.Calls.{table_run_of}
use Rattle.semantics.specs.K1.{one_record, k1_file, k1_table, start_with, k2_events, k2_records, k3_events, k3_records, k4_events, k4_records}
use Rattle.semantics.proofs.Facts.{is-some}
use Rattle.semantics.proofs.DepthPapers as DepthPapers
use Rattle.semantics.proofs.Papers as Tables
use Rattle.schedules.specs.Nodes.{sequence, parallel, while_do, if_else, continue_until, reset, stop_all}
use Rattle.schedules.specs.Trees.{tree_of, branch, leaf}
use Rattle.schedules.specs.Residuals.{fresh, in-branch, at-node}
use Rattle.schedules.specs.Numbering.{locations}
use Rattle.schedules.specs.Compiling.{tests_of}
use Rattle.schedules.specs.Files.{Schedule, rule_control}
use Rattle.schedules.specs.Calls.{read_schedule, rule_run_of, compile}
use Rattle.schedules.specs.Reordered.{SameButOrder}
use Rattle.schedules.specs.Examples.{location_count, stop_or_wait, size_in, mixed, stop_inside, k5_file, k5_table, ten_resets, resets_before, file_with, TakenWith, reset_first_file, reset_last_file, case_file, case_table, case_events, case_records, one_wait_file, stop_wait_file, two_rates_file, two_rates_file_2, while_file, stop_reset_file, stop_reset_table, faulty_check_file, fault_first_file, truth_first_file, truth_listed_file, fault_listed_file}
use Rattle.schedules.proofs.Traps as Traps
use Rattle.schedules.proofs.CasePaper as CasePaper
use Rattle.schedules.proofs.Papers as Schedules
use Rattle.schedules.proofs.ActingOrder as ActingOrder
use Rattle.schedules.proofs.ByPencil as Sizes
use Rattle.schedules.proofs.BorderPapers as Border

-- K1, which computes: its table, and the bytes of the buffer after it as they were
pub K1 : compile edition1 k1_file (replicate 75 0 ++ (7 ∷ 8 ∷ [])) ≡ record { refusal = 0; written = 75; comparisons = 1; table = k1_table ++ (7 ∷ 8 ∷ []) }
K1 = Schedules.K1

-- K2: "K1 from 0: tick 27, pick 1 200, pick 2 29, tick 200, tick 200, tick 31, pick 2 201, tick 23; taken 4, turned away 4."
pub K2 : (rule_run_of edition1 k1_file (start_with 0) k2_events (replicate 104 0 ++ (7 ∷ 8 ∷ [])) ≡ record { refusal = 0; counts = record { taken = 4; turned_away = 4; faulted = 0 }; records = k2_records (7 ∷ 8 ∷ []) })
    × (table_run_of edition1 k1_table (start_with 0) k2_events (replicate 104 0 ++ (7 ∷ 8 ∷ [])) ≡ record { refusal = 0; counts = record { taken = 4; turned_away = 4; faulted = 0 }; records = k2_records (7 ∷ 8 ∷ []) })
K2 = (Schedules.K2-rules, Tables.K2-table)

-- K3: "K1 from 10: pick 1 203, value 10; tick 23."
pub K3 : (rule_run_of edition1 k1_file (start_with 10) k3_events (replicate 26 0) ≡ record { refusal = 0; counts = record { taken = 0; turned_away = 1; faulted = 1 }; records = k3_records [] })
    × (table_run_of edition1 k1_table (start_with 10) k3_events (replicate 26 0) ≡ record { refusal = 0; counts = record { taken = 0; turned_away = 1; faulted = 1 }; records = k3_records [] })
K3 = (Schedules.K3-rules, Tables.K3-table)

-- K4: "K1 from 9: pick 1 200, pick 2 201."
pub K4 : (rule_run_of edition1 k1_file (start_with 9) k4_events (replicate 26 0) ≡ record { refusal = 0; counts = record { taken = 2; turned_away = 0; faulted = 0 }; records = k4_records [] })
    × (table_run_of edition1 k1_table (start_with 9) k4_events (replicate 26 0) ≡ record { refusal = 0; counts = record { taken = 2; turned_away = 0; faulted = 0 }; records = k4_records [] })
K4 = (Schedules.K4-rules, Tables.K4-table)

-- K5: "PARALLEL of two RESETs: 3 locations."
pub K5 : (v w : ℕ) (e f : List ℕ) → location_count (parallel 2 ∷ reset v e ∷ reset w f ∷ []) ≡ some 3
K5 = Schedules.K5

-- the bytes of such a table, of two variables: two nodes act at location 0, and the lower one's target has the lower number
pub K5-table : compile edition1 k5_file (replicate 85 9 ++ (7 ∷ 8 ∷ [])) ≡ record { refusal = 0; written = 85; comparisons = 3; table = k5_table ++ (7 ∷ 8 ∷ []) }
K5-table = ActingOrder.K5-table

-- K6: "WHILE over a RESET: 2."
pub K6 : (v : ℕ) (t e : List ℕ) → location_count (while_do t ∷ reset v e ∷ []) ≡ some 2
K6 = Schedules.K6

-- K7: "PARALLEL of STOP, CONTINUE: 2; picking STOP halts."
pub K7 : ((t : List ℕ) → location_count (stop_or_wait t) ≡ some 2)
    × ((s : Schedule) (t : List ℕ) → s.nodes ≡ stop_or_wait t → tree_of s.nodes ≡ some s.root →
    (vs : List ℤ) (ms : List ℕ) → check_of_switch edition1 s.plant vs ms ≡ pass tt →
    step edition1 s.plant (rule_control s) (at (fresh s.root) vs ms) (1 ∷ 1 ∷ 0 ∷ []) ≡ record { answer = 202; left = over vs ms })
K7 = (Schedules.K7-locations, Schedules.K7-halts)

-- K8: "PARALLEL of ten RESETs: 1,023. One RESET before it: 1,024, taken; two: 13." In a room for the longer of the two tables; 13 in every room.
pub K8 : ((room : List ℕ) → 26760 ≤ length room → TakenWith edition1 (file_with ten_resets) room 1023 × TakenWith edition1 (file_with (resets_before 1)) room 1024)
    × ((room : List ℕ) → (compile edition1 (file_with (resets_before 2)) room).refusal ≡ 13)
K8 = (λ room fits. (Border.K8-ten room (omega arith), Border.K8-one-before room fits), Border.K8-two-before)

-- K9: "Negating −2147483648 faults; true or a fault faults."
pub K9 : ((vs : List ℤ) → value_of vs (negation (constant (negsuc 2147483647))) ≡ fault above)
    × ((vs : List ℤ) (t : Truth) (side : Side) → holds vs t ≡ fault side → holds vs (connect either always t) ≡ fault side)
K9 = (Tables.K9-negation, Tables.K9-or)

-- one paper for each code of "Numbers and truths", from its bytes; the variables have the values 7 and −3
pub number-codes : (let value = value_of_number edition1 (pos 7 ∷ negsuc 2 ∷ []) in
    (value (0x01 ∷ 0xff ∷ 0xff ∷ 0xff ∷ 0xfe ∷ []) ≡ ok (negsuc 1)) × (value (0x02 ∷ 1 ∷ []) ≡ ok (negsuc 2)) × (value (0x10 ∷ 0x02 ∷ 0 ∷ 0x02 ∷ 1 ∷ []) ≡ ok (pos 4))
    × (value (0x11 ∷ 0x02 ∷ 0 ∷ 0x02 ∷ 1 ∷ []) ≡ ok (pos 10)) × (value (0x12 ∷ 0x02 ∷ 0 ∷ 0x02 ∷ 1 ∷ []) ≡ ok (negsuc 20)) × (value (0x14 ∷ 0x02 ∷ 0 ∷ []) ≡ ok (negsuc 6)))
number-codes = Tables.number-codes

-- "20 ≤, 21 <, 22 =, 23 ≠", then "28 and, 29 or (two truths), 2A not, 2F true"
pub comparison-codes : (let holding = value_of_truth edition1 (pos 7 ∷ negsuc 2 ∷ []) in
    (holding (0x20 ∷ 0x02 ∷ 0 ∷ 0x02 ∷ 0 ∷ []) ≡ ok true) × (holding (0x20 ∷ 0x02 ∷ 0 ∷ 0x02 ∷ 1 ∷ []) ≡ ok false)
    × (holding (0x21 ∷ 0x02 ∷ 0 ∷ 0x02 ∷ 0 ∷ []) ≡ ok false) × (holding (0x21 ∷ 0x02 ∷ 1 ∷ 0x02 ∷ 0 ∷ []) ≡ ok true)
    × (holding (0x22 ∷ 0x02 ∷ 0 ∷ 0x02 ∷ 0 ∷ []) ≡ ok true) × (holding (0x22 ∷ 0x02 ∷ 0 ∷ 0x02 ∷ 1 ∷ []) ≡ ok false)
    × (holding (0x23 ∷ 0x02 ∷ 0 ∷ 0x02 ∷ 0 ∷ []) ≡ ok false) × (holding (0x23 ∷ 0x02 ∷ 0 ∷ 0x02 ∷ 1 ∷ []) ≡ ok true))
comparison-codes = Tables.comparison-codes

pub connective-codes : (let holding = value_of_truth edition1 [] in
    (holding (0x2f ∷ []) ≡ ok true) × (holding (0x2a ∷ 0x2f ∷ []) ≡ ok false)
    × (holding (0x28 ∷ 0x2f ∷ 0x2f ∷ []) ≡ ok true) × (holding (0x28 ∷ 0x2f ∷ 0x2a ∷ 0x2f ∷ []) ≡ ok false)
    × (holding (0x29 ∷ 0x2f ∷ 0x2a ∷ 0x2f ∷ []) ≡ ok true) × (holding (0x29 ∷ 0x2a ∷ 0x2f ∷ 0x2a ∷ 0x2f ∷ []) ≡ ok false))
connective-codes = Tables.connective-codes

-- K11: "Empty file 1; 01 00 03 gives 3; 01 00 04 gives 2."
pub K11 : (buffer : List ℕ) → (compile edition1 [] buffer ≡ record { refusal = 1; written = 0; comparisons = 0; table = buffer })
    × (compile edition1 (0x01 ∷ 0x00 ∷ 0x03 ∷ []) buffer ≡ record { refusal = 3; written = 0; comparisons = 0; table = buffer })
    × (compile edition1 (0x01 ∷ 0x00 ∷ 0x04 ∷ []) buffer ≡ record { refusal = 2; written = 0; comparisons = 0; table = buffer })
K11 buffer = (Schedules.K11-empty buffer, Schedules.K11-sections buffer, Schedules.K11-length buffer)

-- K10: "Depth 16 is taken, 17 gives 12.": of a CONTINUE UNTIL so many negations of true; and of the reader of a truth, in every edition
pub K10 : ((read_schedule edition1 (file_with (continue_until (replicate 15 0x2a ++ (0x2f ∷ [])) ∷ []))).refusal ≡ 0)
    × ((room : List ℕ) → (compile edition1 (file_with (continue_until (replicate 16 0x2a ++ (0x2f ∷ [])) ∷ [])) room).refusal ≡ 12)
K10 = (Schedules.K10-taken, Schedules.K10-refused)

pub K10-read : (ed : Edition) (v : ℕ) → (is_some (truth_in ed v (replicate 15 0x2a ++ (0x2f ∷ []))) ≡ true) × (truth_in ed v (replicate 16 0x2a ++ (0x2f ∷ [])) ≡ none)
K10-read ed v = (is-some (DepthPapers.K10-taken ed v), DepthPapers.K10-none ed v)

-- "the target on done or true before that on false": an IF's first child has number 1, its second 2
pub true-first : (v w : ℕ) (t e f : List ℕ) →
    map (locations (tests_of (if_else t ∷ reset v e ∷ reset w f ∷ []))) (tree_of (if_else t ∷ reset v e ∷ reset w f ∷ []))
    ≡ some (at-node (branch 0 (leaf 1) (leaf 2)) ∷ in-branch (at-node (leaf 1)) ∷ in-branch (at-node (leaf 2)) ∷ [])
true-first = Schedules.true-first

-- ---- a paper of our own: a CASE with rates and switches, a switch event, REINITIAL, an IF and a SWITCH, by the rules and by the table
pub case-compiled : compile edition1 case_file (replicate 165 0) ≡ record { refusal = 0; written = 165; comparisons = 10; table = case_table }
case-compiled = CasePaper.case-compiled

pub case-rules : rule_run_of edition1 case_file (replicate 9 0) case_events (replicate 342 0)
    ≡ record { refusal = 0; counts = record { taken = 10; turned_away = 9; faulted = 0 }; records = case_records }
case-rules = CasePaper.case-rules

pub case-by-table : table_run_of edition1 case_table (replicate 9 0) case_events (replicate 342 0)
    ≡ record { refusal = 0; counts = record { taken = 10; turned_away = 9; faulted = 0 }; records = case_records }
case-by-table = CasePaper.case-by-table

-- ---- sizes: the worked examples of docs/BORDER.md besides K8
pub mixed-size : (v : ℕ) (e t : List ℕ) → size_in (mixed v e t) ≡ some (record { locations = 19; entries = 31; finishes = true })
mixed-size = Sizes.mixed-size

-- what stands after a STOP is not counted; and the same with the two children listed the other way round
pub stop-inside : (v : ℕ) (e t : List ℕ) → (size_in (stop_inside v e t) ≡ some (record { locations = 4; entries = 6; finishes = false }))
    × (size_in (parallel 2 ∷ continue_until t ∷ sequence 4 ∷ reset v e ∷ stop_all ∷ reset v e ∷ reset v e ∷ []) ≡ some (record { locations = 4; entries = 6; finishes = false }))
stop-inside v e t = (Sizes.stop-inside v e t, Sizes.stop-inside-last v e t)

-- two files whose bytes differ in the order of a PARALLEL's two children
pub reset-first-or-last : SameButOrder edition1 reset_first_file reset_last_file
reset-first-or-last = Border.reset-first-or-last

-- ---- negative papers: for each trap that document 01 names a small run that tells the right rule from the wrong one
-- "or" that skips its right side would answer 201: the pick of CONTINUE UNTIL (true or a fault) faults
pub or-evaluates-both : rule_run_of edition1 one_wait_file (start_with 0) (1 ∷ 0 ∷ 0 ∷ []) (replicate 13 9)
    ≡ record { refusal = 0; counts = record { taken = 0; turned_away = 0; faulted = 1 }; records = one_record 203 0 0 [] }
or-evaluates-both = Traps.or-evaluates-both

-- a STOP that ends one branch would leave the CONTINUE to act: after the STOP no node acts, and the next pick is 23
pub stop-ends-all : rule_run_of edition1 stop_wait_file (start_with 0) (1 ∷ 1 ∷ 0 ∷ 1 ∷ 2 ∷ 0 ∷ []) (replicate 26 9)
    ≡ record { refusal = 0; counts = record { taken = 1; turned_away = 1; faulted = 0 }; records = one_record 202 0 0 (one_record 23 0 0 []) }
stop-ends-all = Traps.stop-ends-all

-- a tick that adds rates one variable at a time past a fault would leave 1 in the variable that stays in its range
pub tick-adds-all-or-none : rule_run_of edition1 two_rates_file (replicate 8 0) (0 ∷ 0 ∷ 0 ∷ []) (replicate 17 9)
    ≡ record { refusal = 0; counts = record { taken = 0; turned_away = 0; faulted = 1 }; records = one_record 203 0 0 (replicate 4 0) }
tick-adds-all-or-none = Traps.tick-adds-all-or-none

pub tick-adds-all-or-none-2 : rule_run_of edition1 two_rates_file_2 (replicate 8 0) (0 ∷ 0 ∷ 0 ∷ []) (replicate 17 9)
    ≡ record { refusal = 0; counts = record { taken = 0; turned_away = 0; faulted = 1 }; records = one_record 203 0 0 (replicate 4 0) }
tick-adds-all-or-none-2 = Traps.tick-adds-all-or-none-2

-- a WHILE that starts its body's first move itself would set 7 at once: picking it makes the RESET act, and the RESET's own pick sets 7
pub while-starts-nothing : rule_run_of edition1 while_file (start_with 0) (1 ∷ 0 ∷ 0 ∷ 1 ∷ 1 ∷ 0 ∷ []) (replicate 26 9)
    ≡ record { refusal = 0; counts = record { taken = 2; turned_away = 0; faulted = 0 }; records = one_record 200 2 0 (one_record 200 1 7 []) }
while-starts-nothing = Traps.while-starts-nothing

-- "per node of kinds 3..9, reached or not": the RESET after a STOP has its action, and no location
pub unreached-action : compile edition1 stop_reset_file (replicate 50 9) ≡ record { refusal = 0; written = 50; comparisons = 0; table = stop_reset_table }
unreached-action = Traps.unreached-action

-- "a fault in the switch check is 203 before 29 or 31 is looked at": a pick of the CONTINUE that is false, and a tick while the other is true
pub check-faults-before-29 : rule_run_of edition1 faulty_check_file (replicate 5 0) (1 ∷ 1 ∷ 0 ∷ []) (replicate 14 9)
    ≡ record { refusal = 0; counts = record { taken = 0; turned_away = 0; faulted = 1 }; records = one_record 203 0 0 (0 ∷ []) }
check-faults-before-29 = Traps.check-faults-before-29

pub check-faults-before-31 : rule_run_of edition1 faulty_check_file (replicate 5 0) (0 ∷ 0 ∷ 0 ∷ []) (replicate 14 9)
    ≡ record { refusal = 0; counts = record { taken = 0; turned_away = 0; faulted = 1 }; records = one_record 203 0 0 (0 ∷ []) }
check-faults-before-31 = Traps.check-faults-before-31

-- "selectors rising and each mode's as listed": a fault before a true switch is 203, after it 28
pub lower-selector-faults : rule_run_of edition1 fault_first_file (replicate 6 0) (1 ∷ 0 ∷ 0 ∷ 0 ∷ 0 ∷ 0 ∷ []) (replicate 30 9)
    ≡ record { refusal = 0; counts = record { taken = 0; turned_away = 1; faulted = 1 }; records = one_record 203 0 0 (0 ∷ 0 ∷ one_record 23 0 0 (0 ∷ 0 ∷ [])) }
lower-selector-faults = Traps.lower-selector-faults

pub lower-selector-true : rule_run_of edition1 truth_first_file (replicate 6 0) (1 ∷ 0 ∷ 0 ∷ 0 ∷ 0 ∷ 0 ∷ []) (replicate 30 9)
    ≡ record { refusal = 0; counts = record { taken = 0; turned_away = 2; faulted = 0 }; records = one_record 28 1 0 (0 ∷ 0 ∷ one_record 28 1 0 (0 ∷ 0 ∷ [])) }
lower-selector-true = Traps.lower-selector-true

pub first-listed-true : rule_run_of edition1 truth_listed_file (replicate 5 0) (1 ∷ 0 ∷ 0 ∷ 0 ∷ 0 ∷ 0 ∷ []) (replicate 28 9)
    ≡ record { refusal = 0; counts = record { taken = 0; turned_away = 2; faulted = 0 }; records = one_record 28 1 0 (0 ∷ one_record 28 1 0 (0 ∷ [])) }
first-listed-true = Traps.first-listed-true

pub first-listed-faults : rule_run_of edition1 fault_listed_file (replicate 5 0) (1 ∷ 0 ∷ 0 ∷ 0 ∷ 0 ∷ 0 ∷ []) (replicate 28 9)
    ≡ record { refusal = 0; counts = record { taken = 0; turned_away = 1; faulted = 1 }; records = one_record 203 0 0 (0 ∷ one_record 23 0 0 (0 ∷ [])) }
first-listed-faults = Traps.first-listed-faults
