-- Document 02, item 2, as theorems about the definitions: on which side of its range a result fell, and that 203 and 204 tell it.
-- What a statement, or a group of them, rules out is named by two wrong products that it does not let by.
-- "Runs by the rules and by the table agree in this side too": `agreement` says it of every byte of both runs' records, the answers among them.
-- "Both count as faulted.": `counts-told`, `rule-run-holds` and `table-run-holds`, by `Counted`.
use mathlib.Core.Path.{◌≡◌}
use mathlib.Core.Bool.{Bool}
use mathlib.Core.List.{List, [], ◌∷◌, ◌++◌}
use mathlib.Core.Logic.{◌↔◌}
use Prim.Native.Nat.{ℕ, ◌≤◌}
use lib.IntN.{ℤ, pos, negsuc}
use lib.ListN.{replicate}
use Rattle.semantics.specs.Editions.{Edition}
use Rattle.semantics.specs.Expressions.{Operation, Number, constant, operate, negation, Comparison, Connective, both, Truth, compare, connect, opposite, always}
use Rattle.semantics.specs.Expressions.{Side, above, below, Value, ok, fault, value_of, holds, value_of_number, value_of_truth}
use Rattle.semantics.specs.Evaluating.{NumberComesTo, TruthComesTo}
use Rattle.semantics.specs.Plant.{Plant}
use Rattle.semantics.specs.Run.{Control, Situation, at, over, step, answers, answers_in, counts_from}
use Rattle.semantics.specs.Rules.{Faults, Standing, Sound}
use Rattle.semantics.specs.K1.{start_with}
use Rattle.semantics.proofs.ComesTo as ComesTo
use Rattle.semantics.proofs.Sides as Sides
use Rattle.schedules.specs.SideExamples.{number_too_high, number_too_low, at_most0, never, assigning, waiting_for, waiting_for_both, looping, branching, two_driven, rated, switching, checked_by}
use Rattle.schedules.specs.SideExamples.{BothRun, picked0, picked1, switched, ticked, faults_first}
use Rattle.schedules.proofs.SidePapers as Papers

-- ---- "Evaluation now says on which side of its range a result fell": what the rules take from the bytes of a number or truth (`NumberComesTo`, `TruthComesTo`, with
-- `Evaluates` and `Holds` form by form) is what the executable evaluation gives, its side included, whatever the bytes.
-- Ruled out: an evaluation that faults above wherever it faults; one that tells the side by the sign of the result cut to 32 bits.
pub number-comes-to : (ed : Edition) (vs : List ℤ) (s : List ℕ) (r : Value ℤ) → (value_of_number ed vs s ≡ r) ↔ NumberComesTo ed vs s r
number-comes-to ed vs s r = (ComesTo.number-comes-to ed vs s, ComesTo.number-value ed vs)

pub truth-comes-to : (ed : Edition) (vs : List ℤ) (s : List ℕ) (r : Value Bool) → (value_of_truth ed vs s ≡ r) ↔ TruthComesTo ed vs s r
truth-comes-to ed vs s r = (ComesTo.truth-comes-to ed vs s, ComesTo.truth-value ed vs)

-- "the left operand's fault coming first": of an operation, a comparison, an "and" and an "or" alike, whatever the right operand comes to.
-- Ruled out: an evaluation that tells the right operand's side where both fault; an "and" that is false where its right side is, though its left side faults.
pub left-fault-first : (vs : List ℤ) (s : Side) →
    ((o : Operation) (a b : Number) → value_of vs a ≡ fault s → value_of vs (operate o a b) ≡ fault s) ×
    ((c : Comparison) (a b : Number) → value_of vs a ≡ fault s → holds vs (compare c a b) ≡ fault s) ×
    ((c : Connective) (a b : Truth) → holds vs a ≡ fault s → holds vs (connect c a b) ≡ fault s)
left-fault-first vs s = (λ o a b. Sides.left-number vs o a b, λ c a b. Sides.left-compared vs c a b, λ c a b. Sides.left-connected vs c a b)

-- and where the left one does not fault, the right one's.
-- Ruled out: an "or" that skips its right side; a comparison that tells above for every fault on its right.
pub right-fault-else : (vs : List ℤ) (s : Side) →
    ((o : Operation) (a b : Number) (x : ℤ) → value_of vs a ≡ ok x → value_of vs b ≡ fault s → value_of vs (operate o a b) ≡ fault s) ×
    ((c : Comparison) (a b : Number) (x : ℤ) → value_of vs a ≡ ok x → value_of vs b ≡ fault s → holds vs (compare c a b) ≡ fault s) ×
    ((c : Connective) (a b : Truth) (x : Bool) → holds vs a ≡ ok x → holds vs b ≡ fault s → holds vs (connect c a b) ≡ fault s)
right-fault-else vs s = (λ o a b x. Sides.right-number vs o a b, λ c a b x. Sides.right-compared vs c a b, λ c a b x. Sides.right-connected vs c a b)

-- a negation and a "not" tell their operand's side.
-- Ruled out: a negation that turns the side of its operand; a "not" that is told above wherever its operand faults.
pub operand-fault-kept : (vs : List ℤ) (s : Side) →
    ((a : Number) → value_of vs a ≡ fault s → value_of vs (negation a) ≡ fault s) × ((a : Truth) → holds vs a ≡ fault s → holds vs (opposite a) ≡ fault s)
operand-fault-kept vs s = (λ a. Sides.negated vs a, λ a. Sides.opposed vs a)

-- ---- "The answer 203 means above and a new answer 204 means below, for expressions and for declared ranges alike.": wherever a run can be, an event is answered 203
-- exactly where it faults above, and 204 exactly where it faults below. `Faults` has the steps of an event in their order, and of a tick the lowest variable out of range.
-- Ruled out: 203 for every fault of an expression; a tick that tells the side of the last variable out of range, or of the first equation.
pub above-203 : {S : Type 0} (ed : Edition) (p : Plant) (c : Control S) → Sound p c → (x : S) (vs : List ℤ) (ms : List ℕ) → Standing c (at x vs ms) → (e : List ℕ) →
    ((step ed p c (at x vs ms) e).answer ≡ 203) ↔ Faults ed p c x vs ms e above
above-203 ed p c sound x vs ms stand e = Sides.above-203 ed p c x vs ms e sound stand

pub below-204 : {S : Type 0} (ed : Edition) (p : Plant) (c : Control S) → Sound p c → (x : S) (vs : List ℤ) (ms : List ℕ) → Standing c (at x vs ms) → (e : List ℕ) →
    ((step ed p c (at x vs ms) e).answer ≡ 204) ↔ Faults ed p c x vs ms e below
below-204 ed p c sound x vs ms stand e = Sides.below-204 ed p c x vs ms e sound stand

-- on whichever side it lies, a fault ends the run and leaves values and modes as they were.
-- Ruled out: 204 that does not end the run; a tick that keeps the values below their ranges.
pub fault_ends : {S : Type 0} (ed : Edition) (p : Plant) (c : Control S) (x : S) (vs : List ℤ) (ms e : List ℕ) (side : Side) → Faults ed p c x vs ms e side →
    (step ed p c (at x vs ms) e).left ≡ over vs ms
fault_ends ed p c x vs ms e side = Sides.fault_ends ed p c x vs ms e

-- no event faults on both sides.
-- Ruled out: rules under which a tick may be answered by any variable out of range; a switch check that may stop at any fault.
pub one_side : {S : Type 0} (ed : Edition) (p : Plant) (c : Control S) (x : S) (vs : List ℤ) (ms e : List ℕ) → Faults ed p c x vs ms e above → Faults ed p c x vs ms e below → ⊥
one_side = Sides.one_side

-- a run faults once at most, from whatever situation and over whatever events: its count of faults is 0 or 1.
-- Ruled out: a run that faults anew at each tick; one that answers 204 again to the events after the end.
pub faults-once : {S : Type 0} (ed : Edition) (p : Plant) (c : Control S) (s : Situation S) (es : List (List ℕ)) → (counts_from (answers_in (answers ed p c s es))).faulted ≤ 1
unfolding counts_from
faults-once = Sides.faults-once

-- ---- papers, each by the rules and by the table: the first event faults and ends the run, the second is turned away with 23
-- a difference that falls below, a sum that rises above; "K3 and K9's negation remain 203" (K3 is in Papers)
-- Ruled out: a difference that wraps; a negation of −2147483648 that is told below.
pub difference_below : BothRun (assigning number_too_low) (start_with 0) picked0 (replicate 26 9) (faults_first 204 [])
difference_below = Papers.difference_below

pub sum-above : BothRun (assigning number_too_high) (start_with 0) picked0 (replicate 26 9) (faults_first 203 [])
sum-above = Papers.sum-above

pub negation-above : BothRun (assigning (negation (constant (negsuc 2147483647)))) (start_with 0) picked0 (replicate 26 9) (faults_first 203 [])
negation-above = Papers.negation-above

-- RESET to −1 and to 11 of a variable 0..10
-- Ruled out: 203 for every value outside its declared range; a declared range that is looked at only above.
pub range-below : BothRun (assigning (constant (negsuc 0))) (start_with 0) picked0 (replicate 26 9) (faults_first 204 [])
range-below = Papers.range-below

pub range-above : BothRun (assigning (constant (pos 11))) (start_with 0) picked0 (replicate 26 9) (faults_first 203 [])
range-above = Papers.range-above

-- left above and right below is 203, exchanged 204: of every operation, comparison and connective
-- Ruled out: the right operand's side first; the side of the whole worked out without its parts (2147483648 + −2147483649 is −1).
pub operands-above : (o : Operation) → BothRun (assigning (operate o number_too_high number_too_low)) (start_with 0) picked0 (replicate 26 9) (faults_first 203 [])
operands-above = Papers.operands-above

pub operands-below : (o : Operation) → BothRun (assigning (operate o number_too_low number_too_high)) (start_with 0) picked0 (replicate 26 9) (faults_first 204 [])
operands-below = Papers.operands-below

pub comparison-above : (c : Comparison) → BothRun (waiting_for (compare c number_too_high number_too_low)) (start_with 0) picked0 (replicate 26 9) (faults_first 203 [])
comparison-above = Papers.comparison-above

pub comparison-below : (c : Comparison) → BothRun (waiting_for (compare c number_too_low number_too_high)) (start_with 0) picked0 (replicate 26 9) (faults_first 204 [])
comparison-below = Papers.comparison-below

pub connective-above : (c : Connective) → BothRun (waiting_for (connect c (at_most0 number_too_high) (at_most0 number_too_low))) (start_with 0) picked0 (replicate 26 9) (faults_first 203 [])
connective-above = Papers.connective-above

pub connective-below : (c : Connective) → BothRun (waiting_for (connect c (at_most0 number_too_low) (at_most0 number_too_high))) (start_with 0) picked0 (replicate 26 9) (faults_first 204 [])
connective-below = Papers.connective-below

-- a negation and a "not" of what faults: its side
-- Ruled out: a negation that turns the side of its operand; a "not" that is told above wherever its operand faults.
pub negated-above : BothRun (assigning (negation number_too_high)) (start_with 0) picked0 (replicate 26 9) (faults_first 203 [])
negated-above = Papers.negated-above

pub negated-below : BothRun (assigning (negation number_too_low)) (start_with 0) picked0 (replicate 26 9) (faults_first 204 [])
negated-below = Papers.negated-below

pub not_above : BothRun (waiting_for (opposite (at_most0 number_too_high))) (start_with 0) picked0 (replicate 26 9) (faults_first 203 [])
not_above = Papers.not_above

pub not_below : BothRun (waiting_for (opposite (at_most0 number_too_low))) (start_with 0) picked0 (replicate 26 9) (faults_first 204 [])
not_below = Papers.not_below

-- an "and" whose left side faults below and whose right side is false: a pick, and a tick
-- Ruled out: an "and" that is false where its right side is; a tick that passes over a CONTINUE that faults.
pub and_below : BothRun (waiting_for (connect both (at_most0 number_too_low) never)) (start_with 0) picked0 (replicate 26 9) (faults_first 204 [])
and_below = Papers.and_below

pub and-below-tick : BothRun (waiting_for (connect both (at_most0 number_too_low) never)) (start_with 0) ticked (replicate 26 9) (faults_first 204 [])
and-below-tick = Papers.and-below-tick

-- a pick of a WHILE and of an IF
-- Ruled out: 203 for every truth of a WHILE or an IF that faults; a fault that is taken for false.
pub while-above : BothRun (looping (at_most0 number_too_high)) (start_with 0) picked0 (replicate 26 9) (faults_first 203 [])
while-above = Papers.while-above

pub while-below : BothRun (looping (at_most0 number_too_low)) (start_with 0) picked0 (replicate 26 9) (faults_first 204 [])
while-below = Papers.while-below

pub if-above : BothRun (branching (at_most0 number_too_high)) (start_with 0) picked0 (replicate 26 9) (faults_first 203 [])
if-above = Papers.if-above

pub if-below : BothRun (branching (at_most0 number_too_low)) (start_with 0) picked0 (replicate 26 9) (faults_first 204 [])
if-below = Papers.if-below

-- two CONTINUEs that fault on different sides: the first fault of a tick's walk gives the side
-- Ruled out: a walk that tells its last fault; 203 where any of them lies above.
pub walk-above : BothRun (waiting_for_both (at_most0 number_too_high) (at_most0 number_too_low)) (start_with 0) ticked (replicate 26 9) (faults_first 203 [])
walk-above = Papers.walk-above

pub walk-below : BothRun (waiting_for_both (at_most0 number_too_low) (at_most0 number_too_high)) (start_with 0) ticked (replicate 26 9) (faults_first 204 [])
walk-below = Papers.walk-below

-- "On a tick the lowest variable number out of range decides.": variable 0 falls below and variable 1 rises above, in whichever order their equations are listed; then the other way
-- Ruled out: the side of the last variable out of range; the side of the equation that is listed first.
pub tick-below : BothRun (two_driven (rated 0 (negsuc 0) ∷ rated 1 (pos 1) ∷ [])) (start_with 0 ++ start_with 10) ticked (replicate 34 9) (faults_first 204 (start_with 10))
tick-below = Papers.tick-below

pub tick-below-listed : BothRun (two_driven (rated 1 (pos 1) ∷ rated 0 (negsuc 0) ∷ [])) (start_with 0 ++ start_with 10) ticked (replicate 34 9) (faults_first 204 (start_with 10))
tick-below-listed = Papers.tick-below-listed

pub tick-above : BothRun (two_driven (rated 0 (pos 11) ∷ rated 1 (negsuc 10) ∷ [])) (start_with 0 ++ start_with 10) ticked (replicate 34 9) (faults_first 203 (start_with 10))
tick-above = Papers.tick-above

-- a fault below in the switch check is 204 before 28 and 29 are looked at (a pick of a CONTINUE that is false), and before 28 and 31 (a tick while another is true)
-- Ruled out: 28 for the true switch behind the one that faults; 29 of the CONTINUE, or 31.
pub check-below-pick : BothRun (checked_by (switching (at_most0 number_too_low ∷ always ∷ []) ∷ [])) (replicate 5 0) picked1 (replicate 28 9) (faults_first 204 (0 ∷ []))
check-below-pick = Papers.check-below-pick

pub check-below-tick : BothRun (checked_by (switching (at_most0 number_too_low ∷ always ∷ []) ∷ [])) (replicate 5 0) ticked (replicate 28 9) (faults_first 204 (0 ∷ []))
check-below-tick = Papers.check-below-tick

-- two switches that fault on different sides: the first fault of the check gives the side, as listed in a mode and by selectors rising
-- Ruled out: a check that tells its last fault; one that takes selector 1 before selector 0.
pub check-listed-above : BothRun (checked_by (switching (at_most0 number_too_high ∷ at_most0 number_too_low ∷ []) ∷ [])) (replicate 5 0) picked1 (replicate 28 9) (faults_first 203 (0 ∷ []))
check-listed-above = Papers.check-listed-above

pub check-listed-below : BothRun (checked_by (switching (at_most0 number_too_low ∷ at_most0 number_too_high ∷ []) ∷ [])) (replicate 5 0) picked1 (replicate 28 9) (faults_first 204 (0 ∷ []))
check-listed-below = Papers.check-listed-below

pub check-selectors-above : BothRun (checked_by (switching (at_most0 number_too_high ∷ []) ∷ switching (at_most0 number_too_low ∷ []) ∷ [])) (replicate 6 0) picked1 (replicate 30 9) (faults_first 203 (0 ∷ 0 ∷ []))
check-selectors-above = Papers.check-selectors-above

pub check-selectors-below : BothRun (checked_by (switching (at_most0 number_too_low ∷ []) ∷ switching (at_most0 number_too_high ∷ []) ∷ [])) (replicate 6 0) picked1 (replicate 30 9) (faults_first 204 (0 ∷ 0 ∷ []))
check-selectors-below = Papers.check-selectors-below

-- a switch event whose truth faults
-- Ruled out: 203 for every switch event that faults; 30 where the truth faults.
pub switch-above : BothRun (checked_by (switching (at_most0 number_too_high ∷ []) ∷ [])) (replicate 5 0) switched (replicate 28 9) (faults_first 203 (0 ∷ []))
switch-above = Papers.switch-above

pub switch-below : BothRun (checked_by (switching (at_most0 number_too_low ∷ []) ∷ [])) (replicate 5 0) switched (replicate 28 9) (faults_first 204 (0 ∷ []))
switch-below = Papers.switch-below
