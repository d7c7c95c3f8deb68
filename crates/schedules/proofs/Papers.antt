-- The papers of document 01 that a schedule settles, as theorems about the definitions.
use mathlib.Core.Path.{◌≡◌, refl, sym, ap, subst₂, ◌∙◌}
use mathlib.Core.List.{List, [], ◌∷◌, ◌++◌}
use mathlib.Core.Option.{some, map}
use Prim.Native.Nat.{ℕ}
use lib.ListN.{replicate}
use lib.IntN.{ℤ}
use Rattle.semantics.specs.Editions.{edition1}
use Rattle.semantics.specs.Plant.{Plant, among}
use Rattle.semantics.specs.Run.{pass, check_of_switch, at, over, step, settle, follow, arrive, judge, judge_pick, act, allow, ◌>>◌}
use Rattle.semantics.specs.K1.{k1_file, k1_table, start_with, k2_events, k2_records, k3_events, k3_records, k4_events, k4_records}
use Rattle.schedules.specs.Examples.{location_count, comparison_count, stop_or_wait, file_with, while_file}
use Rattle.schedules.specs.FileSections.{FileSections}
use Rattle.schedules.specs.Nodes.{parallel, while_do, if_else, continue_until, reset}
use Rattle.schedules.specs.Trees.{Tree, tree_of, par, halt, leaf, branch, cons, nil}
use Rattle.schedules.specs.Residuals.{fresh, in-branch, at-node}
use Rattle.schedules.specs.Numbering.{locations}
use Rattle.schedules.specs.Files.{Schedule, rule_control}
use Rattle.schedules.specs.Compiling.{tests_of}
use Rattle.schedules.specs.Calls.{read_schedule, rule_run_of, compile}
use Rattle.semantics.proofs.Computes as Semantics
use Rattle.semantics.proofs.Facts.{some_is}
use Rattle.schedules.proofs.Computes.{schedules, nodes, residuals}

-- K1: the table's 75 bytes, and the bytes of the buffer after them as they were
pub K1 : compile edition1 k1_file (replicate 75 0 ++ (7 ∷ 8 ∷ [])) ≡ record { refusal = 0; written = 75; comparisons = 1; table = k1_table ++ (7 ∷ 8 ∷ []) }
unfolding schedules k1_file k1_table
K1 = refl

-- K2 to K4 by the rules
pub K2-rules : rule_run_of edition1 k1_file (start_with 0) k2_events (replicate 104 0 ++ (7 ∷ 8 ∷ []))
    ≡ record { refusal = 0; counts = record { taken = 4; turned_away = 4; faulted = 0 }; records = k2_records (7 ∷ 8 ∷ []) }
unfolding schedules k1_file k2_events k2_records
K2-rules = refl

pub K3-rules : rule_run_of edition1 k1_file (start_with 10) k3_events (replicate 26 0)
    ≡ record { refusal = 0; counts = record { taken = 0; turned_away = 1; faulted = 1 }; records = k3_records [] }
unfolding schedules k1_file k3_events k3_records
K3-rules = refl

pub K4-rules : rule_run_of edition1 k1_file (start_with 9) k4_events (replicate 26 0)
    ≡ record { refusal = 0; counts = record { taken = 2; turned_away = 0; faulted = 0 }; records = k4_records [] }
unfolding schedules k1_file k4_events k4_records
K4-rules = refl

-- K5: "PARALLEL of two RESETs: 3 locations."
pub K5 : (v w : ℕ) (e f : List ℕ) → location_count (parallel 2 ∷ reset v e ∷ reset w f ∷ []) ≡ some 3
unfolding schedules
K5 v w e f = refl

-- K6: "WHILE over a RESET: 2."
pub K6 : (v : ℕ) (t e : List ℕ) → location_count (while_do t ∷ reset v e ∷ []) ≡ some 2
unfolding schedules
K6 v t e = refl

-- document 02, item 4: "K1 gives 1, K6 gives 2."; of K6, the body is new and the root known
pub K6-comparisons : (v : ℕ) (t e : List ℕ) → comparison_count (while_do t ∷ reset v e ∷ []) ≡ some 2
unfolding schedules
K6-comparisons v t e = refl

-- compiled: 2 where the table has room, and 0 where it has none
pub K6-compiled : (compile edition1 while_file (replicate 100 0)).comparisons ≡ 2
unfolding schedules while_file
K6-compiled = refl

pub K6-no-room : compile edition1 while_file (replicate 5 9) ≡ record { refusal = 14; written = 0; comparisons = 0; table = replicate 5 9 }
unfolding schedules while_file
K6-no-room = refl

-- two new ones: 1 and 2; what finishes adds nothing
pub K5-comparisons : (v w : ℕ) (e f : List ℕ) → comparison_count (parallel 2 ∷ reset v e ∷ reset w f ∷ []) ≡ some 3
unfolding schedules
K5-comparisons v w e f = refl

-- the target on false is compared, too: 1 and 2
pub if-comparisons : (v w : ℕ) (t e f : List ℕ) → comparison_count (if_else t ∷ reset v e ∷ reset w f ∷ []) ≡ some 3
unfolding schedules
if-comparisons v w t e f = refl

-- the CONTINUE's target alone is a location: 1; the STOP halts at both locations
pub stop-comparisons : (t : List ℕ) → comparison_count (stop_or_wait t) ≡ some 1
unfolding schedules
stop-comparisons t = refl

-- a WHILE over an IF of two RESETs: the IF, its two RESETs, and two ways back to location 0
pub while-if-comparisons : (v w : ℕ) (t u e f : List ℕ) → comparison_count (while_do t ∷ if_else u ∷ reset v e ∷ reset w f ∷ []) ≡ some 8
unfolding schedules
while-if-comparisons v w t u e f = refl

-- known ones with numbers above 0: at location 0 there are 1 + 2 + 3, at 1 then 4 + 5, at 2 then 5 (number 4) + 6, at 3 then 6 + 7 (numbers 5 and 6)
pub three-resets-comparisons : (v : ℕ) (e : List ℕ) → comparison_count (parallel 3 ∷ reset v e ∷ reset v e ∷ reset v e ∷ []) ≡ some 39
unfolding schedules
three-resets-comparisons v e = refl

-- K7: "PARALLEL of STOP, CONTINUE: 2; picking STOP halts."
pub K7-locations : (t : List ℕ) → location_count (stop_or_wait t) ≡ some 2
unfolding schedules
K7-locations t = refl

abbrev stop_root : Tree
stop_root = par (halt 1) (cons (leaf 2) nil)

root : (t : List ℕ) → tree_of (stop_or_wait t) ≡ some stop_root
unfolding schedules
root t = refl

-- picking node 1 at the fresh root halts
abbrev picked : Schedule → List ℤ → List ℕ → Type 0
picked s vs ms = step edition1 s.plant (rule_control s) (at (fresh s.root) vs ms) (1 ∷ 1 ∷ 0 ∷ []) ≡ record { answer = 202; left = over vs ms }

stop-picked : (parts : FileSections) (p : Plant) (t : List ℕ) (vs : List ℤ) (ms : List ℕ) → check_of_switch edition1 p vs ms ≡ pass tt →
    picked (record { sections = parts; plant = p; nodes = stop_or_wait t; root = stop_root }) vs ms
unfolding Semantics.bytes Semantics.events nodes residuals step settle follow arrive judge judge_pick act allow ◌>>◌ among rule_control
stop-picked parts p t vs ms h = rw h refl

-- whatever the plant: where the switch check finds nothing, picking the STOP answers 202 and ends the run
pub K7-halts : (s : Schedule) (t : List ℕ) → s.nodes ≡ stop_or_wait t → tree_of s.nodes ≡ some s.root →
    (vs : List ℤ) (ms : List ℕ) → check_of_switch edition1 s.plant vs ms ≡ pass tt →
    step edition1 s.plant (rule_control s) (at (fresh s.root) vs ms) (1 ∷ 1 ∷ 0 ∷ []) ≡ record { answer = 202; left = over vs ms }
K7-halts s t e f vs ms h =
    subst₂ (λ ns r. picked (record { sections = s.sections; plant = s.plant; nodes = ns; root = r }) vs ms) (sym e)
    (some_is (sym (root t) ∙ ap tree_of (sym e) ∙ f)) (stop-picked s.sections s.plant t vs ms h)

-- "the target on done or true before that on false": an IF's first child has number 1, its second 2
pub true-first : (v w : ℕ) (t e f : List ℕ) →
    map (locations (tests_of (if_else t ∷ reset v e ∷ reset w f ∷ []))) (tree_of (if_else t ∷ reset v e ∷ reset w f ∷ []))
    ≡ some (at-node (branch 0 (leaf 1) (leaf 2)) ∷ in-branch (at-node (leaf 1)) ∷ in-branch (at-node (leaf 2)) ∷ [])
unfolding schedules
true-first v w t e f = refl

-- K10: "Depth 16 is taken, 17 gives 12.": of a CONTINUE UNTIL so many negations of true
pub K10-taken : (read_schedule edition1 (file_with (continue_until (replicate 15 0x2a ++ (0x2f ∷ [])) ∷ []))).refusal ≡ 0
unfolding schedules
K10-taken = refl

pub K10-refused : (room : List ℕ) → (compile edition1 (file_with (continue_until (replicate 16 0x2a ++ (0x2f ∷ [])) ∷ [])) room).refusal ≡ 12
unfolding schedules
K10-refused room = refl

-- K11: "Empty file 1; 01 00 03 gives 3; 01 00 04 gives 2.", whatever the buffer
pub K11-empty : (buffer : List ℕ) → compile edition1 [] buffer ≡ record { refusal = 1; written = 0; comparisons = 0; table = buffer }
unfolding schedules
K11-empty buffer = refl

pub K11-sections : (buffer : List ℕ) → compile edition1 (0x01 ∷ 0x00 ∷ 0x03 ∷ []) buffer ≡ record { refusal = 3; written = 0; comparisons = 0; table = buffer }
unfolding schedules
K11-sections buffer = refl

pub K11-length : (buffer : List ℕ) → compile edition1 (0x01 ∷ 0x00 ∷ 0x04 ∷ []) buffer ≡ record { refusal = 2; written = 0; comparisons = 0; table = buffer }
unfolding schedules
K11-length buffer = refl
