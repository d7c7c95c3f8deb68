-- Papers of document 02, item 2: on which side a result fell, in both runs of small schedules.
use mathlib.Core.Path.{refl}
use mathlib.Core.List.{[], ◌∷◌, ◌++◌}
use lib.ListN.{replicate}
use lib.IntN.{pos, negsuc}
use Rattle.semantics.specs.Expressions.{Operation, sum, difference, product, Comparison, at_most, less, equal, unequal, Connective, both, either}
use Rattle.semantics.specs.Expressions.{constant, operate, negation, compare, connect, opposite, always}
use Rattle.semantics.specs.K1.{start_with}
use Rattle.schedules.specs.SideExamples.{number_too_high, number_too_low, at_most0, never, assigning, waiting_for, waiting_for_both, looping, branching, two_driven, rated, switching, checked_by}
use Rattle.schedules.specs.SideExamples.{BothRun, picked0, picked1, switched, ticked, faults_first}
use Rattle.schedules.proofs.Computes.{schedules}

-- ---- a difference that falls below, a sum that rises above; "K3 and K9's negation remain 203" (K3 is in Papers)
pub difference_below : BothRun (assigning number_too_low) (start_with 0) picked0 (replicate 26 9) (faults_first 204 [])
unfolding schedules
difference_below = record { by_rules = refl; by_table = refl }

pub sum-above : BothRun (assigning number_too_high) (start_with 0) picked0 (replicate 26 9) (faults_first 203 [])
unfolding schedules
sum-above = record { by_rules = refl; by_table = refl }

pub negation-above : BothRun (assigning (negation (constant (negsuc 2147483647)))) (start_with 0) picked0 (replicate 26 9) (faults_first 203 [])
unfolding schedules
negation-above = record { by_rules = refl; by_table = refl }

-- ---- RESET to −1 and to 11 of a variable 0..10
pub range-below : BothRun (assigning (constant (negsuc 0))) (start_with 0) picked0 (replicate 26 9) (faults_first 204 [])
unfolding schedules
range-below = record { by_rules = refl; by_table = refl }

pub range-above : BothRun (assigning (constant (pos 11))) (start_with 0) picked0 (replicate 26 9) (faults_first 203 [])
unfolding schedules
range-above = record { by_rules = refl; by_table = refl }

-- ---- left above and right below is 203, exchanged 204: of every operation, comparison and connective
pub operands-above : (o : Operation) → BothRun (assigning (operate o number_too_high number_too_low)) (start_with 0) picked0 (replicate 26 9) (faults_first 203 [])
unfolding schedules
operands-above sum = record { by_rules = refl; by_table = refl }
operands-above difference = record { by_rules = refl; by_table = refl }
operands-above product = record { by_rules = refl; by_table = refl }

pub operands-below : (o : Operation) → BothRun (assigning (operate o number_too_low number_too_high)) (start_with 0) picked0 (replicate 26 9) (faults_first 204 [])
unfolding schedules
operands-below sum = record { by_rules = refl; by_table = refl }
operands-below difference = record { by_rules = refl; by_table = refl }
operands-below product = record { by_rules = refl; by_table = refl }

pub comparison-above : (c : Comparison) → BothRun (waiting_for (compare c number_too_high number_too_low)) (start_with 0) picked0 (replicate 26 9) (faults_first 203 [])
unfolding schedules
comparison-above at_most = record { by_rules = refl; by_table = refl }
comparison-above less = record { by_rules = refl; by_table = refl }
comparison-above equal = record { by_rules = refl; by_table = refl }
comparison-above unequal = record { by_rules = refl; by_table = refl }

pub comparison-below : (c : Comparison) → BothRun (waiting_for (compare c number_too_low number_too_high)) (start_with 0) picked0 (replicate 26 9) (faults_first 204 [])
unfolding schedules
comparison-below at_most = record { by_rules = refl; by_table = refl }
comparison-below less = record { by_rules = refl; by_table = refl }
comparison-below equal = record { by_rules = refl; by_table = refl }
comparison-below unequal = record { by_rules = refl; by_table = refl }

pub connective-above : (c : Connective) → BothRun (waiting_for (connect c (at_most0 number_too_high) (at_most0 number_too_low))) (start_with 0) picked0 (replicate 26 9) (faults_first 203 [])
unfolding schedules
connective-above both = record { by_rules = refl; by_table = refl }
connective-above either = record { by_rules = refl; by_table = refl }

pub connective-below : (c : Connective) → BothRun (waiting_for (connect c (at_most0 number_too_low) (at_most0 number_too_high))) (start_with 0) picked0 (replicate 26 9) (faults_first 204 [])
unfolding schedules
connective-below both = record { by_rules = refl; by_table = refl }
connective-below either = record { by_rules = refl; by_table = refl }

-- ---- a negation and a "not" of what faults: its side
pub negated-above : BothRun (assigning (negation number_too_high)) (start_with 0) picked0 (replicate 26 9) (faults_first 203 [])
unfolding schedules
negated-above = record { by_rules = refl; by_table = refl }

pub negated-below : BothRun (assigning (negation number_too_low)) (start_with 0) picked0 (replicate 26 9) (faults_first 204 [])
unfolding schedules
negated-below = record { by_rules = refl; by_table = refl }

pub not_above : BothRun (waiting_for (opposite (at_most0 number_too_high))) (start_with 0) picked0 (replicate 26 9) (faults_first 203 [])
unfolding schedules
not_above = record { by_rules = refl; by_table = refl }

pub not_below : BothRun (waiting_for (opposite (at_most0 number_too_low))) (start_with 0) picked0 (replicate 26 9) (faults_first 204 [])
unfolding schedules
not_below = record { by_rules = refl; by_table = refl }

-- ---- an "and" whose left side faults below and whose right side is false: a pick, and a tick
pub and_below : BothRun (waiting_for (connect both (at_most0 number_too_low) never)) (start_with 0) picked0 (replicate 26 9) (faults_first 204 [])
unfolding schedules
and_below = record { by_rules = refl; by_table = refl }

pub and-below-tick : BothRun (waiting_for (connect both (at_most0 number_too_low) never)) (start_with 0) ticked (replicate 26 9) (faults_first 204 [])
unfolding schedules
and-below-tick = record { by_rules = refl; by_table = refl }

-- ---- a pick of a WHILE and of an IF
pub while-above : BothRun (looping (at_most0 number_too_high)) (start_with 0) picked0 (replicate 26 9) (faults_first 203 [])
unfolding schedules
while-above = record { by_rules = refl; by_table = refl }

pub while-below : BothRun (looping (at_most0 number_too_low)) (start_with 0) picked0 (replicate 26 9) (faults_first 204 [])
unfolding schedules
while-below = record { by_rules = refl; by_table = refl }

pub if-above : BothRun (branching (at_most0 number_too_high)) (start_with 0) picked0 (replicate 26 9) (faults_first 203 [])
unfolding schedules
if-above = record { by_rules = refl; by_table = refl }

pub if-below : BothRun (branching (at_most0 number_too_low)) (start_with 0) picked0 (replicate 26 9) (faults_first 204 [])
unfolding schedules
if-below = record { by_rules = refl; by_table = refl }

-- ---- two CONTINUEs that fault on different sides: the first fault of a tick's walk gives the side
pub walk-above : BothRun (waiting_for_both (at_most0 number_too_high) (at_most0 number_too_low)) (start_with 0) ticked (replicate 26 9) (faults_first 203 [])
unfolding schedules
walk-above = record { by_rules = refl; by_table = refl }

pub walk-below : BothRun (waiting_for_both (at_most0 number_too_low) (at_most0 number_too_high)) (start_with 0) ticked (replicate 26 9) (faults_first 204 [])
unfolding schedules
walk-below = record { by_rules = refl; by_table = refl }

-- ---- "On a tick the lowest variable number out of range decides.": variable 0 falls below and variable 1 rises above, in whichever order their equations are listed; then the other way
pub tick-below : BothRun (two_driven (rated 0 (negsuc 0) ∷ rated 1 (pos 1) ∷ [])) (start_with 0 ++ start_with 10) ticked (replicate 34 9) (faults_first 204 (start_with 10))
unfolding schedules
tick-below = record { by_rules = refl; by_table = refl }

pub tick-below-listed : BothRun (two_driven (rated 1 (pos 1) ∷ rated 0 (negsuc 0) ∷ [])) (start_with 0 ++ start_with 10) ticked (replicate 34 9) (faults_first 204 (start_with 10))
unfolding schedules
tick-below-listed = record { by_rules = refl; by_table = refl }

pub tick-above : BothRun (two_driven (rated 0 (pos 11) ∷ rated 1 (negsuc 10) ∷ [])) (start_with 0 ++ start_with 10) ticked (replicate 34 9) (faults_first 203 (start_with 10))
unfolding schedules
tick-above = record { by_rules = refl; by_table = refl }

-- ---- a fault below in the switch check is 204 before 28 and 29 are looked at (a pick of a CONTINUE that is false), and before 28 and 31 (a tick while another is true)
pub check-below-pick : BothRun (checked_by (switching (at_most0 number_too_low ∷ always ∷ []) ∷ [])) (replicate 5 0) picked1 (replicate 28 9) (faults_first 204 (0 ∷ []))
unfolding schedules
check-below-pick = record { by_rules = refl; by_table = refl }

pub check-below-tick : BothRun (checked_by (switching (at_most0 number_too_low ∷ always ∷ []) ∷ [])) (replicate 5 0) ticked (replicate 28 9) (faults_first 204 (0 ∷ []))
unfolding schedules
check-below-tick = record { by_rules = refl; by_table = refl }

-- ---- two switches that fault on different sides: the first fault of the check gives the side, as listed in a mode and by selectors rising
pub check-listed-above : BothRun (checked_by (switching (at_most0 number_too_high ∷ at_most0 number_too_low ∷ []) ∷ [])) (replicate 5 0) picked1 (replicate 28 9) (faults_first 203 (0 ∷ []))
unfolding schedules
check-listed-above = record { by_rules = refl; by_table = refl }

pub check-listed-below : BothRun (checked_by (switching (at_most0 number_too_low ∷ at_most0 number_too_high ∷ []) ∷ [])) (replicate 5 0) picked1 (replicate 28 9) (faults_first 204 (0 ∷ []))
unfolding schedules
check-listed-below = record { by_rules = refl; by_table = refl }

pub check-selectors-above : BothRun (checked_by (switching (at_most0 number_too_high ∷ []) ∷ switching (at_most0 number_too_low ∷ []) ∷ [])) (replicate 6 0) picked1 (replicate 30 9) (faults_first 203 (0 ∷ 0 ∷ []))
unfolding schedules
check-selectors-above = record { by_rules = refl; by_table = refl }

pub check-selectors-below : BothRun (checked_by (switching (at_most0 number_too_low ∷ []) ∷ switching (at_most0 number_too_high ∷ []) ∷ [])) (replicate 6 0) picked1 (replicate 30 9) (faults_first 204 (0 ∷ 0 ∷ []))
unfolding schedules
check-selectors-below = record { by_rules = refl; by_table = refl }

-- ---- a switch event whose truth faults
pub switch-above : BothRun (checked_by (switching (at_most0 number_too_high ∷ []) ∷ [])) (replicate 5 0) switched (replicate 28 9) (faults_first 203 (0 ∷ []))
unfolding schedules
switch-above = record { by_rules = refl; by_table = refl }

pub switch-below : BothRun (checked_by (switching (at_most0 number_too_low ∷ []) ∷ [])) (replicate 5 0) switched (replicate 28 9) (faults_first 204 (0 ∷ []))
unfolding schedules
switch-below = record { by_rules = refl; by_table = refl }
