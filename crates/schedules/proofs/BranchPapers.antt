-- Papers of document 02, item 5: the theorem's assumptions can hold, each of them is needed, and what it does not claim.
use mathlib.Core.Path.{◌≡◌, refl}
use mathlib.Core.Bool.{true, false}
use mathlib.Core.List.Memᴰ.{head as first}
use mathlib.Core.List.Memᴰ.{tail as later}
use mathlib.Core.List.{[], ◌∷◌, ◌++◌, map}
use Prim.Native.Nat.{ℕ}
use lib.ListN.{replicate}
use lib.IntN.{pos}
use Rattle.semantics.specs.Editions.{edition1}
use Rattle.semantics.specs.Refusals.{accepted}
use Rattle.semantics.specs.Expressions.{constant, always, number_bytes}
use Rattle.semantics.specs.Plant.{selectors}
use Rattle.semantics.specs.K1.{start_with, one_record}
use Rattle.schedules.specs.Trees.{leaf, seq, par, nil, cons}
use Rattle.schedules.specs.Residuals.{fresh}
use Rattle.schedules.specs.Files.{judge_file}
use Rattle.schedules.specs.Reordered.{exchanged_number}
use Rattle.schedules.specs.SideExamples.{BothRun, waiting_for_both, at_most0, never, number_too_high, number_too_low, ticked}
use Rattle.schedules.specs.BranchExamples.{one_more_than, independent_branches, independent_schedule, driven_plant, driven_branches, meeting_branches, same_variable, branches_with_case, nested_branches, from_values, pick_of, record_with, wrote}
use Rattle.schedules.specs.Independent.{different_children, WithoutCase, in_statement, begun, Reachable, Independent, both_taken}
use Rattle.schedules.proofs.Computes.{schedules}

-- ---- two that are independent: in either order the last record is the same
pub independent-one-order : BothRun independent_branches (from_values 0 0) (pick_of 1 ++ pick_of 2) (replicate 34 9) (wrote 2 0 0 (record_with 200 4 1 0 ++ record_with 201 0 1 5))
unfolding schedules
independent-one-order = record { by_rules = refl; by_table = refl }

pub independent-other-order : BothRun independent_branches (from_values 0 0) (pick_of 2 ++ pick_of 1) (replicate 34 9) (wrote 2 0 0 (record_with 200 2 0 5 ++ record_with 201 0 1 5))
unfolding schedules
independent-other-order = record { by_rules = refl; by_table = refl }

-- the theorem's assumptions hold of them at the start
pub independent-read : judge_file edition1 independent_branches ≡ accepted independent_schedule
unfolding schedules
independent-read = refl

pub independent-held : Independent edition1 independent_schedule (begun edition1 independent_schedule (record { values = pos 0 ∷ pos 0 ∷ []; modes = [] })) (pick_of 1) (pick_of 2)
unfolding schedules
independent-held = record {
  a = 1;
  b = 2;
  v = 0;
  w = 1;
  d = number_bytes edition1 (one_more_than 0);
  e = number_bytes edition1 (constant (pos 5));
  picks-a = record { is-pick = refl; place = fresh independent_schedule.root; stands = refl; acts = first refl; assigns = refl };
  picks-b = record { is-pick = refl; place = fresh independent_schedule.root; stands = refl; acts = later (first refl); assigns = refl };
  apart = refl;
  v-free = refl;
  w-free = refl;
}

pub independent-without-case : WithoutCase independent_schedule
unfolding schedules
independent-without-case = refl

pub independent-reached : Reachable edition1 independent_schedule (begun edition1 independent_schedule (record { values = pos 0 ∷ pos 0 ∷ []; modes = [] }))
unfolding schedules
independent-reached = record { start = from_values 0 0; st = record { values = pos 0 ∷ pos 0 ∷ []; modes = [] }; start_read = refl; start_fits = refl; events = []; reached = refl }

-- equations of kind 1 are no CASE
pub driven-without-case : selectors driven_plant ≡ []
unfolding schedules
driven-without-case = refl

pub driven-one-order : BothRun driven_branches (from_values 0 0) (pick_of 1 ++ pick_of 2) (replicate 34 9) (wrote 2 0 0 (record_with 200 4 1 0 ++ record_with 201 0 1 5))
unfolding schedules
driven-one-order = record { by_rules = refl; by_table = refl }

pub driven-other-order : BothRun driven_branches (from_values 0 0) (pick_of 2 ++ pick_of 1) (replicate 34 9) (wrote 2 0 0 (record_with 200 2 0 5 ++ record_with 201 0 1 5))
unfolding schedules
driven-other-order = record { by_rules = refl; by_table = refl }

-- of those that meet, one assumption does not
pub meeting-occurs : (in_statement edition1 2 1 0 (number_bytes edition1 (one_more_than 1)) ≡ true) × (in_statement edition1 2 0 0 (number_bytes edition1 (constant (pos 5))) ≡ true)
unfolding schedules
meeting-occurs = (refl, refl)

-- from 10 variable 0 leaves its range: not both are taken, in neither order, and what each is answered differs
pub fault-one-order : BothRun independent_branches (from_values 10 0) (pick_of 1 ++ pick_of 2) (replicate 34 9) (wrote 0 1 1 (record_with 203 0 10 0 ++ record_with 23 0 10 0))
unfolding schedules
fault-one-order = record { by_rules = refl; by_table = refl }

pub fault-other-order : BothRun independent_branches (from_values 10 0) (pick_of 2 ++ pick_of 1) (replicate 34 9) (wrote 1 0 1 (record_with 200 2 10 5 ++ record_with 203 0 10 5))
unfolding schedules
fault-other-order = record { by_rules = refl; by_table = refl }

pub fault-not-both : let x = begun edition1 independent_schedule (record { values = pos 10 ∷ pos 0 ∷ []; modes = [] }) in
    (both_taken edition1 independent_schedule x (pick_of 1) (pick_of 2) ≡ false) × (both_taken edition1 independent_schedule x (pick_of 2) (pick_of 1) ≡ false)
unfolding schedules
fault-not-both = (refl, refl)

-- ---- where the one reads what the other sets, both orders are taken, and the values differ
pub meeting-one-order : BothRun meeting_branches (from_values 0 0) (pick_of 1 ++ pick_of 2) (replicate 34 9) (wrote 2 0 0 (record_with 200 4 1 0 ++ record_with 201 0 1 5))
unfolding schedules
meeting-one-order = record { by_rules = refl; by_table = refl }

pub meeting-other-order : BothRun meeting_branches (from_values 0 0) (pick_of 2 ++ pick_of 1) (replicate 34 9) (wrote 2 0 0 (record_with 200 2 0 5 ++ record_with 201 0 6 5))
unfolding schedules
meeting-other-order = record { by_rules = refl; by_table = refl }

-- where both assign one variable, the later one stays
pub same-one-order : BothRun same_variable (from_values 0 0) (pick_of 1 ++ pick_of 2) (replicate 34 9) (wrote 2 0 0 (record_with 200 4 3 0 ++ record_with 201 0 5 0))
unfolding schedules
same-one-order = record { by_rules = refl; by_table = refl }

pub same-other-order : BothRun same_variable (from_values 0 0) (pick_of 2 ++ pick_of 1) (replicate 34 9) (wrote 2 0 0 (record_with 200 2 5 0 ++ record_with 201 0 3 0))
unfolding schedules
same-other-order = record { by_rules = refl; by_table = refl }

-- ---- with a CASE the first can make a switch true, and then the second is turned away with 28
pub case-one-order : BothRun branches_with_case (from_values 0 0 ++ (0 ∷ [])) (pick_of 1 ++ pick_of 2) (replicate 36 9)
    (wrote 1 1 0 (record_with 200 4 1 0 ++ (0 ∷ record_with 28 4 1 0 ++ (0 ∷ []))))
unfolding schedules
case-one-order = record { by_rules = refl; by_table = refl }

pub case-other-order : BothRun branches_with_case (from_values 0 0 ++ (0 ∷ [])) (pick_of 2 ++ pick_of 1) (replicate 36 9)
    (wrote 2 0 0 (record_with 200 2 0 5 ++ (0 ∷ record_with 201 0 1 5 ++ (0 ∷ []))))
unfolding schedules
case-other-order = record { by_rules = refl; by_table = refl }

-- ---- which children are different ones
-- of an IF around PARALLEL of a WHILE and a SEQUENCE
pub nested-children : map (λ (b : ℕ). different_children 3 b nested_branches) (0 ∷ 2 ∷ 3 ∷ 5 ∷ 6 ∷ 7 ∷ []) ≡ false ∷ false ∷ false ∷ true ∷ true ∷ false ∷ []
unfolding schedules
nested-children = refl

-- PARALLEL of a PARALLEL of nodes 2 and 3 and of node 4
pub inner-children : map (λ (b : ℕ). different_children 2 b (par (par (leaf 2) (cons (leaf 3) nil)) (cons (leaf 4) nil))) (2 ∷ 3 ∷ 4 ∷ []) ≡ false ∷ true ∷ true ∷ []
unfolding schedules
inner-children = refl

-- the children of a SEQUENCE are not those of a PARALLEL, though one may stand around it
pub sequence-children : different_children 2 3 (par (seq (leaf 2) (cons (leaf 3) nil)) (cons (leaf 4) nil)) ≡ false
unfolding schedules
sequence-children = refl

-- ---- runs of reordered schedules: a tick asks the CONTINUEs in node order
-- one is true, the other faults: 31 and the run goes on, or 203 and it is over
pub true-asked-first : BothRun (waiting_for_both always (at_most0 number_too_high)) (start_with 0) ticked (replicate 26 9) (wrote 0 2 0 (one_record 31 6 0 (one_record 31 6 0 [])))
unfolding schedules
true-asked-first = record { by_rules = refl; by_table = refl }

pub fault-asked-first : BothRun (waiting_for_both (at_most0 number_too_high) always) (start_with 0) ticked (replicate 26 9) (wrote 0 1 1 (one_record 203 0 0 (one_record 23 0 0 [])))
unfolding schedules
fault-asked-first = record { by_rules = refl; by_table = refl }

-- none is true and none faults: taken, whichever is asked first
pub neither-stops : BothRun (waiting_for_both never (at_most0 (constant (pos 1)))) (start_with 0) ticked (replicate 26 9) (wrote 2 0 0 (one_record 200 6 0 (one_record 200 6 0 [])))
unfolding schedules
neither-stops = record { by_rules = refl; by_table = refl }

pub neither-stops-exchanged : BothRun (waiting_for_both (at_most0 (constant (pos 1))) never) (start_with 0) ticked (replicate 26 9) (wrote 2 0 0 (one_record 200 6 0 (one_record 200 6 0 [])))
unfolding schedules
neither-stops-exchanged = record { by_rules = refl; by_table = refl }

-- both fault, on different sides
pub above-asked-first : BothRun (waiting_for_both (at_most0 number_too_high) (at_most0 number_too_low)) (start_with 0) ticked (replicate 26 9) (wrote 0 1 1 (one_record 203 0 0 (one_record 23 0 0 [])))
unfolding schedules
above-asked-first = record { by_rules = refl; by_table = refl }

pub below-asked-first : BothRun (waiting_for_both (at_most0 number_too_low) (at_most0 number_too_high)) (start_with 0) ticked (replicate 26 9) (wrote 0 1 1 (one_record 204 0 0 (one_record 23 0 0 [])))
unfolding schedules
below-asked-first = record { by_rules = refl; by_table = refl }

-- three nodes from number 1 on and the one after them change places
pub new-numbers : map (exchanged_number 1 3 1) (0 ∷ 1 ∷ 2 ∷ 3 ∷ 4 ∷ 5 ∷ []) ≡ 0 ∷ 2 ∷ 3 ∷ 4 ∷ 1 ∷ 5 ∷ []
unfolding schedules
new-numbers = refl
