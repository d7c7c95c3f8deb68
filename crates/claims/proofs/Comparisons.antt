-- Document 02, item 4, as theorems about the definitions: how many comparisons compiling returns.
-- What a statement, or a group of them, rules out is named by two wrong products that it does not let by.
-- "Tables, numbers and promises are those of before.": the claims about compiling (`reached`, `numbered-in-order`, `agreement` ..) and the papers' tables
-- are those of before; `written-table` and `refused-compile` have the count beside what they had.
use mathlib.Core.Path.{◌≡◌, ap}
use mathlib.Core.Bool.{Bool}
use mathlib.Core.List.{List, [], ◌∷◌}
use mathlib.Core.Logic.{◌↔◌}
use mathlib.Core.Option.{some}
use Prim.Native.Nat.{ℕ, ◌≤◌}
use lib.ListN.{length, get_elem?, take, replicate}
use Rattle.semantics.specs.Editions.{Edition, edition1}
use Rattle.semantics.specs.Refusals.{accepted}
use Rattle.semantics.specs.TableFile.{location_limit}
use Rattle.semantics.specs.Tables.{Table, judge_table}
use Rattle.semantics.specs.Writing.{Each}
use Rattle.schedules.specs.Nodes.{parallel, while_do, if_else, reset}
use Rattle.schedules.specs.Trees.{Tree}
use Rattle.schedules.specs.Residuals.{fresh}
use Rattle.schedules.specs.Numbering.{locations}
use Rattle.schedules.specs.Comparisons.{comparisons_of, target_locations, comparisons}
use Rattle.schedules.specs.Comparing.{Compares, ComparesAll, by_numbers, location_codes}
use Rattle.schedules.specs.Files.{Schedule, judge_file}
use Rattle.schedules.specs.Compiling.{tests_of, schedule_comparisons, rows_of}
use Rattle.schedules.specs.Calls.{Compiled, compile}
use Rattle.schedules.specs.Examples.{comparison_count, stop_or_wait, while_file}
use Rattle.schedules.proofs.CallsHold as FileCalls
use Rattle.schedules.proofs.Comparing as Comparing
use Rattle.schedules.proofs.ComparisonNumbers as ComparisonNumbers
use Rattle.schedules.proofs.Papers as Papers

-- ---- "Compiling also returns how many comparisons it made": where it accepts, those of the schedule that was read, whatever the room (`written-table` has it too).
-- Ruled out: a compiler that returns how many targets it compared; one that goes on counting from the call before.
pub comparisons-returned : (ed : Edition) (file room : List ℕ) → (compile ed file room).refusal ≡ 0 → (s : Schedule) → judge_file ed file ≡ accepted s →
    (compile ed file room).comparisons ≡ schedule_comparisons s
comparisons-returned = ComparisonNumbers.comparisons-returned

-- where it refuses, 0, with whatever number.
-- Ruled out: a compiler that returns the count with 14; one that returns with 13 how many it made so far.
pub refused-comparisons : (ed : Edition) (file room : List ℕ) → ((compile ed file room).refusal ≡ 0 → ⊥) → (compile ed file room).comparisons ≡ 0
refused-comparisons ed file room h = ap (λ (c : Compiled). c.comparisons) (FileCalls.refused-compile ed file room h)

-- ---- "its comparing should go up the numbers from 0 and end at the equal one": of one target, the relation `Compares`, which has no test in it.
-- Ruled out: comparing from the newest number down; comparing that goes on behind the equal one.
pub one-target : {A : Type 0} (eq? : (x y : A) → Dec (x ≡ y)) (x : A) (met : List A) (n : ℕ) → (comparisons_of eq? x met ≡ n) ↔ Compares x met n
one-target eq? = Comparing.compares-is eq?

-- of all targets, one after the other, from the fresh root on: `ComparesAll`. It holds of one number only.
-- Ruled out: a count that has the root compared with itself; one that compares a target with all that are numbered in the end.
pub all-targets : (tests : ℕ → Bool) (t : Tree) (n : ℕ) → (comparisons tests t ≡ n) ↔ ComparesAll (fresh t ∷ []) (target_locations tests t) n
all-targets = ComparisonNumbers.comparisons-is

-- so of what the call returns.
-- Ruled out: a compiler that searches its locations in another order, or by halves, and counts that; one that counts a new target once more, when it is numbered.
pub comparisons-made : (ed : Edition) (file room : List ℕ) → (compile ed file room).refusal ≡ 0 → (s : Schedule) → judge_file ed file ≡ accepted s →
    ComparesAll (fresh s.root ∷ []) (target_locations (tests_of s.nodes) s.root) (compile ed file room).comparisons
comparisons-made = ComparisonNumbers.comparisons-made

-- ---- "for each target that is a location, its number plus one if it was numbered already, else as many as were numbered": `by_numbers` over the numbers of the targets.
-- Ruled out: a count that adds a known target's number alone; one that adds one more for a new target.
pub comparisons-by-numbers : (tests : ℕ → Bool) (t : Tree) → length (locations tests t) ≤ location_limit → (ks : List ℕ) →
    Each (λ r k. get_elem? (locations tests t) k ≡ some r) (target_locations tests t) ks → comparisons tests t ≡ by_numbers 1 ks
comparisons-by-numbers = ComparisonNumbers.comparisons-by-numbers

-- the targets are those of the rows, each with its number, and no more: FFFD, FFFE and FFFF are none.
-- Ruled out: a count that leaves out the targets on false; one that compares what is finished or halted.
pub targets-numbered : (tests : ℕ → Bool) (t : Tree) → length (locations tests t) ≤ location_limit →
    Each (λ r k. get_elem? (locations tests t) k ≡ some r) (target_locations tests t) (location_codes (rows_of tests (locations tests t)))
targets-numbered = ComparisonNumbers.targets-numbered

-- so the count can be told from the bytes written alone, read back as a table.
-- Ruled out: a count of a table that was not written; one that takes the targets in another order than the table's.
pub comparisons-of-table : (ed : Edition) (file room : List ℕ) → (compile ed file room).refusal ≡ 0 →
    (t : Table) × (judge_table ed (take (compile ed file room).written (compile ed file room).table) ≡ accepted t) ×
    ((compile ed file room).comparisons ≡ by_numbers 1 (location_codes t.locations))
comparisons-of-table = ComparisonNumbers.comparisons-of-table

-- ---- papers: "K1 gives 1, K6 gives 2.". K1 has its 1 beside its table (`K1` of the papers); so have `K5-table` 3 and `case-compiled` 10.
-- Ruled out: a compiler that compares no known target; one that adds a known target's number alone.
pub K6-comparisons : (v : ℕ) (t e : List ℕ) → comparison_count (while_do t ∷ reset v e ∷ []) ≡ some 2
K6-comparisons = Papers.K6-comparisons

pub K6-compiled : (compile edition1 while_file (replicate 100 0)).comparisons ≡ 2
K6-compiled = Papers.K6-compiled

-- Ruled out: a compiler that returns the count with 14; one that writes what there is room for.
pub K6-no-room : compile edition1 while_file (replicate 5 9) ≡ record { refusal = 14; written = 0; comparisons = 0; table = replicate 5 9 }
K6-no-room = Papers.K6-no-room

-- PARALLEL of two RESETs, and an IF of two: two new targets each, 1 and 2 comparisons.
-- Ruled out: a count that compares what is finished; one that leaves out the target on false.
pub K5-comparisons : (v w : ℕ) (e f : List ℕ) → comparison_count (parallel 2 ∷ reset v e ∷ reset w f ∷ []) ≡ some 3
K5-comparisons = Papers.K5-comparisons

pub if-comparisons : (v w : ℕ) (t e f : List ℕ) → comparison_count (if_else t ∷ reset v e ∷ reset w f ∷ []) ≡ some 3
if-comparisons = Papers.if-comparisons

-- PARALLEL of STOP and CONTINUE: the CONTINUE's target alone is a location.
-- Ruled out: a count in which a STOP's target is compared; one that compares a new target with itself too.
pub stop-comparisons : (t : List ℕ) → comparison_count (stop_or_wait t) ≡ some 1
stop-comparisons = Papers.stop-comparisons

-- a WHILE over an IF of two RESETs: 1 + 2 + 3 for the new ones, and 1 for each way back to location 0.
-- Ruled out: a count in which location 0 takes none; one in which the second way back is not looked up.
pub while-if-comparisons : (v w : ℕ) (t u e f : List ℕ) → comparison_count (while_do t ∷ if_else u ∷ reset v e ∷ reset w f ∷ []) ≡ some 8
while-if-comparisons = Papers.while-if-comparisons

-- PARALLEL of three RESETs, with known targets of numbers 4, 5 and 6.
-- Ruled out: comparing from the newest number down; a count that adds 1 for each known target.
pub three-resets-comparisons : (v : ℕ) (e : List ℕ) → comparison_count (parallel 3 ∷ reset v e ∷ reset v e ∷ reset v e ∷ []) ≡ some 39
three-resets-comparisons = Papers.three-resets-comparisons
