-- Document 02, item 5, as theorems about the definitions: when the order of two picks cannot matter; and beyond it, runs of schedules whose PARALLELs list their children in another order.
-- Each statement, or group of them, names two wrong products that it does not let by.
use mathlib.Core.Path.{◌≡◌}
use mathlib.Core.Bool.{true, false}
use mathlib.Core.List.{List, [], ◌∷◌, ◌++◌, map, flatten, Memᴰ as Mem, Permᴰ as Permuted}
use mathlib.Core.Logic.{◌↔◌}
use mathlib.Core.Option.{some}
use Prim.Native.Nat.{ℕ, ◌<◌}
use lib.IntN.{ℤ, pos}
use lib.ListN.{length, get_elem?, take, replicate}
use Rattle.semantics.specs.Bytes.{All, is_some}
use Rattle.semantics.specs.Editions.{Edition, edition1}
use Rattle.semantics.specs.Refusals.{accepted}
use Rattle.semantics.specs.Expressions.{Number, always, constant, number_bytes, number_in}
use Rattle.semantics.specs.Starts.{Start, start_in}
use Rattle.semantics.specs.Plant.{Plant, selectors}
use Rattle.semantics.specs.Events.{tick, event_in}
use Rattle.semantics.specs.Run.{Control, Situation, Answered, at, answers}
use Rattle.semantics.specs.Rules.{Found, Walks}
use Rattle.semantics.specs.Renumbering.{Corresponding, SameEvent, SameButNumbers, StopAlike, EitherFirstAtTicks, NotStopped}
use Rattle.semantics.specs.Writing.{Each}
use Rattle.semantics.specs.Calls.{record_size, table_run_of}
use Rattle.semantics.specs.K1.{start_with, one_record}
use Rattle.semantics.proofs.RenumberedEvents as RenumberedEvents
use Rattle.semantics.proofs.TickOrders as TickOrders
use Rattle.schedules.specs.Nodes.{Node}
use Rattle.schedules.specs.Trees.{Tree, leaf, seq, par, nil, cons}
use Rattle.schedules.specs.Residuals.{Residual, fresh, acting}
use Rattle.schedules.specs.Files.{Schedule, judge_file, rule_control}
use Rattle.schedules.specs.Calls.{rule_run_of, compile}
use Rattle.schedules.specs.Reordered.{Reordered, exchanged_number, new_number, SameButOrder, RunsCorrespond}
use Rattle.schedules.specs.Independent.{different_children, WithoutCase, occurs, in_statement, left_by, begun, Reachable, Independent, second, both_taken, EitherOrder, EitherOrderReturned}
use Rattle.schedules.specs.IndependenceRules.{DifferentChildren, NoCase, Occurs, InStatement, ReachedByRules, IndependentByRules, BothTaken}
use Rattle.schedules.specs.SideExamples.{BothRun, waiting_for_both, at_most0, never, number_too_high, number_too_low, ticked}
use Rattle.schedules.specs.BranchExamples.{one_more_than, independent_branches, independent_schedule, driven_plant, driven_branches, meeting_branches, same_variable, branches_with_case, nested_branches, from_values, pick_of, record_with, wrote}
use Rattle.schedules.proofs.CallsHold as FileCalls
use Rattle.schedules.proofs.IndependentPicks as IndependentPicks
use Rattle.schedules.proofs.IndependentRules as IndependentRules
use Rattle.schedules.proofs.IndependentRecords as IndependentRecords
use Rattle.schedules.proofs.IndependenceTold as IndependenceTold
use Rattle.schedules.proofs.ReachedTold as ReachedTold
use Rattle.schedules.proofs.ActingApart as ActingApart
use Rattle.schedules.proofs.ReorderedRuns as ReorderedRuns
use Rattle.schedules.proofs.ReorderedCalls as ReorderedCalls
use Rattle.schedules.proofs.BranchPapers as Papers

-- ---- "Let two acting assignments stand in different children of one PARALLEL, in a schedule without CASE. Let neither's variable occur in the other's statement. Then picking both is taken
-- in one order exactly when it is in the other, and where both are taken the acting nodes, values and last answer at the end are the same. This is for every reachable state."
-- Ruled out: a run in which the later of two picks decides who acts; one in which a PARALLEL finishes only where its last listed child finishes last.
pub independent-picks : (ed : Edition) (file : List ℕ) (s : Schedule) → judge_file ed file ≡ accepted s → WithoutCase s → (x : Situation Residual) → Reachable ed s x →
    (one other : List ℕ) → Independent ed s x one other → EitherOrder ed s x one other
independent-picks = IndependentPicks.independent-picks

-- the same in relations: for any answer to the second pick and any situation at the end, both are taken by the rules and end so in one order exactly when they do in the other.
-- Ruled out: rules by which an assignment puts all other variables back to their starting values; rules by which a branch can be picked only when those listed before it are finished.
pub independent-picks-rules : (ed : Edition) (file : List ℕ) (s : Schedule) → All (λ b. b < 256) file → judge_file ed file ≡ accepted s → NoCase s → (x : Situation Residual) →
    ReachedByRules ed s x → (one other : List ℕ) → IndependentByRules ed s x one other → (answer : ℕ) (end : Situation Residual) →
    BothTaken ed s x one other answer end ↔ BothTaken ed s x other one answer end
independent-picks-rules = IndependentRules.independent-picks-rules

-- over what a run by the rules returns, the two anywhere in its list: neither order is refused, the records before the two are the same, and where both are taken,
-- which is so in one order exactly when in the other, all bytes from the record of the second on, and the counts.
-- Ruled out: a run that remembers which of two picks came first and shows it later; one that writes the number of the picked node into its record.
pub independent-records-rules : (ed : Edition) (file : List ℕ) (s : Schedule) → judge_file ed file ≡ accepted s → WithoutCase s → (start buffer : List ℕ) (es fs : List (List ℕ)) (e f : List ℕ) →
    All (λ e. length e ≡ ed.event_bytes) (es ++ (e ∷ f ∷ fs)) → (rule_run_of ed file start (flatten (es ++ (e ∷ f ∷ fs))) buffer).refusal ≡ 0 →
    (st : Start) → start_in s.plant start ≡ some st → Independent ed s (left_by ed s (begun ed s st) es) e f →
    EitherOrderReturned (record_size ed s.plant) (length es) (rule_run_of ed file start (flatten (es ++ (e ∷ f ∷ fs))) buffer) (rule_run_of ed file start (flatten (es ++ (f ∷ e ∷ fs))) buffer)
independent-records-rules = IndependentRecords.rules-either-order

-- and the run of the table that compiling wrote.
-- Ruled out: a table in which the last listed branch finishes the PARALLEL, whatever is left; a table run that keeps the location of the first pick.
pub independent-records-table : (ed : Edition) (file : List ℕ) (s : Schedule) → judge_file ed file ≡ accepted s → WithoutCase s → (room : List ℕ) → (compile ed file room).refusal ≡ 0 →
    let table = take (compile ed file room).written (compile ed file room).table in
    (start buffer : List ℕ) (es fs : List (List ℕ)) (e f : List ℕ) → All (λ e. length e ≡ ed.event_bytes) (es ++ (e ∷ f ∷ fs)) →
    (table_run_of ed table start (flatten (es ++ (e ∷ f ∷ fs))) buffer).refusal ≡ 0 → (st : Start) → start_in s.plant start ≡ some st → Independent ed s (left_by ed s (begun ed s st) es) e f →
    EitherOrderReturned (record_size ed s.plant) (length es) (table_run_of ed table start (flatten (es ++ (e ∷ f ∷ fs))) buffer) (table_run_of ed table start (flatten (es ++ (f ∷ e ∷ fs))) buffer)
independent-records-table = IndependentRecords.table-either-order

-- two nodes that act at once always stand in different children of some PARALLEL, so that this assumption holds of any two acting assignments.
-- Ruled out: a SEQUENCE of which two children act; a WHILE that acts beside its body.
pub acting-apart : (ed : Edition) (file : List ℕ) (s : Schedule) → judge_file ed file ≡ accepted s → (x : Situation Residual) → Reachable ed s x → (r : Residual) → x.place ≡ some r →
    (a b : ℕ) → (a ≡ b → ⊥) → Mem a (acting r) → Mem b (acting r) → different_children a b s.root ≡ true
acting-apart = IndependentRules.reached-apart

-- ---- what the item's words mean, said again
-- "in different children of one PARALLEL": some PARALLEL of the tree, two of its children with different numbers, the one node in the one and the other in the other.
-- Ruled out: a test that takes the children of a SEQUENCE for different ones; one that looks at the outermost PARALLEL alone.
pub different-children : (a b : ℕ) (t : Tree) → (different_children a b t ≡ true) ↔ DifferentChildren a b t
different-children = ActingApart.different-is

-- "without CASE"
-- Ruled out: a test that lets a CASE of one mode pass; one for which an equation of kind 1 is a CASE.
pub without-case : (s : Schedule) → WithoutCase s ↔ NoCase s
without-case = IndependenceTold.no-case-is

-- "occur in": in a number, form by form; in a statement, by its variable or by the number that its bytes are.
-- Ruled out: a test that looks at the left operand alone; one that takes the byte 02 of a constant for a variable's code.
pub occurs-in-number : (v : ℕ) (e : Number) → (occurs v e ≡ true) ↔ Occurs v e
occurs-in-number = IndependenceTold.occurs-is

pub occurs-in-statement : (ed : Edition) (variables v w : ℕ) (e : List ℕ) → All (λ b. b < 256) e → is_some (number_in ed variables e) ≡ true →
    (in_statement ed variables v w e ≡ true) ↔ InStatement ed v w e
occurs-in-statement = IndependenceTold.statement-is

-- all of it together, of two events: they pick acting assignments that are independent.
-- Ruled out: a test that takes a pick of a STOP for one of an assignment; one that asks of one variable only.
pub independent-by-rules : (ed : Edition) (file : List ℕ) (s : Schedule) → All (λ b. b < 256) file → judge_file ed file ≡ accepted s → (x : Situation Residual) (one other : List ℕ) →
    Independent ed s x one other ↔ IndependentByRules ed s x one other
independent-by-rules = IndependentRules.independent-told

-- "taken": by the rules, and with an answer from 200 to 202.
-- Ruled out: a test that looks at the first answer alone; one for which 203 is taken.
pub both-taken : (ed : Edition) (file : List ℕ) (s : Schedule) → judge_file ed file ≡ accepted s → (x : Situation Residual) → Reachable ed s x → (e f : List ℕ) (answer : ℕ) (end : Situation Residual) →
    BothTaken ed s x e f answer end ↔ ((both_taken ed s x e f ≡ true) × (second ed s x e f ≡ record { answer = answer; left = end }))
both-taken ed file s h x r = IndependenceTold.both_is ed s (FileCalls.sound-rules ed file s h) x (IndependentPicks.reachable-kept ed file s h r).standing

-- "every reachable state": what any events, rule by rule, lead to from any start with values in their ranges and modes that exist.
-- Ruled out: states that one event leads to, and no more; states of the file's own start alone.
pub reachable-by-rules : (ed : Edition) (file : List ℕ) (s : Schedule) → All (λ b. b < 256) file → judge_file ed file ≡ accepted s → (x : Situation Residual) →
    Reachable ed s x ↔ ReachedByRules ed s x
reachable-by-rules = ReachedTold.reached-is

-- ---- beyond the item: two schedules that differ only in the order in which the children of PARALLELs are listed (`branch-order` of Claims)
-- which node is which: the node with the new number is the same one, and no two have one number.
-- Ruled out: a renumbering that moves the first node of a child and not its others; one that loses a node.
pub new-number : {ns ms : List Node} (r : Reordered ns ms) (n : ℕ) → get_elem? ms (new_number r n) ≡ get_elem? ns n
new-number = ReorderedRuns.reordered-node

pub new-number-once : {ns ms : List Node} (r : Reordered ns ms) (m n : ℕ) → new_number r m ≡ new_number r n → m ≡ n
new-number-once = ReorderedRuns.reordered-one-to-one

-- which events correspond: both say the same, a pick by the new number of its node.
-- Ruled out: a correspondence in which a switch's numbers are taken for a node's; one in which an event that says nothing corresponds to a tick.
pub same-event : (ed : Edition) (number : ℕ → ℕ) (e f : List ℕ) → SameEvent ed number e f ↔ Corresponding ed number e f
same-event = RenumberedEvents.same-event

-- corresponding events get the same answers, values and modes, and the same nodes act by their new numbers. The one exception: a tick asks the acting CONTINUEs in node order up to
-- the first that is true or faults, and where one is true and another faults, or two fault on different sides, the order of the children decides.
-- `EitherFirstAtTicks` says that no tick of the list comes to such truths; where a list has such a tick, take the events before it as the list.
-- Ruled out: a run in which the first child of a PARALLEL must be picked first; one that checks the switches in the order of the branches that name them.
pub reordered-runs : (ed : Edition) (file other : List ℕ) (o : SameButOrder ed file other) (s u : Schedule) → judge_file ed file ≡ accepted s → judge_file ed other ≡ accepted u →
    (st : Start) (es fs : List (List ℕ)) → EitherFirstAtTicks ed s.plant (rule_control s) (at (fresh s.root) st.values st.modes) es →
    Each (Corresponding ed (new_number o.order)) es fs →
    Each (SameButNumbers (new_number o.order) (rule_control s) (rule_control u)) (answers ed s.plant (rule_control s) (at (fresh s.root) st.values st.modes) es)
    (answers ed u.plant (rule_control u) (at (fresh u.root) st.values st.modes) fs)
reordered-runs = ReorderedRuns.reordered-runs

-- over the calls: neither is refused, the counts are the same, and so are the records' bytes but for the sets of acting nodes, in which each bit stands at its node's new number; by the rules, and
-- by the tables that compiling wrote.
-- Ruled out: a compiler whose table of the reordered file turns another pick away; a record of the reordered run whose set has the old numbers.
pub reordered-calls-rules : (ed : Edition) (file other : List ℕ) (o : SameButOrder ed file other) (s u : Schedule) → judge_file ed file ≡ accepted s → judge_file ed other ≡ accepted u →
    (start buffer : List ℕ) (st : Start) → start_in s.plant start ≡ some st → (es fs : List (List ℕ)) → All (λ e. length e ≡ ed.event_bytes) es → All (λ e. length e ≡ ed.event_bytes) fs →
    Each (Corresponding ed (new_number o.order)) es fs → EitherFirstAtTicks ed s.plant (rule_control s) (begun ed s st) es → (rule_run_of ed file start (flatten es) buffer).refusal ≡ 0 →
    RunsCorrespond ed (new_number o.order) (record_size ed s.plant) (length es) (rule_run_of ed file start (flatten es) buffer) (rule_run_of ed other start (flatten fs) buffer)
reordered-calls-rules = ReorderedCalls.rules-correspond

pub reordered-calls-table : (ed : Edition) (file other : List ℕ) (o : SameButOrder ed file other) (s u : Schedule) → judge_file ed file ≡ accepted s → judge_file ed other ≡ accepted u →
    (room : List ℕ) → (compile ed file room).refusal ≡ 0 →
    let table = take (compile ed file room).written (compile ed file room).table in
    let other-table = take (compile ed other room).written (compile ed other room).table in
    (start buffer : List ℕ) (st : Start) → start_in s.plant start ≡ some st → (es fs : List (List ℕ)) → All (λ e. length e ≡ ed.event_bytes) es → All (λ e. length e ≡ ed.event_bytes) fs →
    Each (Corresponding ed (new_number o.order)) es fs → EitherFirstAtTicks ed s.plant (rule_control s) (begun ed s st) es → (table_run_of ed table start (flatten es) buffer).refusal ≡ 0 →
    RunsCorrespond ed (new_number o.order) (record_size ed s.plant) (length es) (table_run_of ed table start (flatten es) buffer) (table_run_of ed other-table start (flatten fs) buffer)
reordered-calls-table = ReorderedCalls.tables-correspond

-- the condition on ticks: truths stop alike exactly where the walk over them comes to the same in every order of them.
-- Ruled out: a condition on the first truth alone; one that fails wherever some truth is true or faults.
pub stop-alike : (ed : Edition) (vs : List ℤ) (ts : List (List ℕ)) →
    StopAlike ed vs ts ↔ ((us : List (List ℕ)) (f g : Found) → Permuted ts us → Walks ed vs ts f → Walks ed vs us g → f ≡ g)
stop-alike = TickOrders.stop-alike-is

-- it holds of every run none of whose ticks is answered 31, 203 or 204, so of every list without a tick.
-- Ruled out: a condition that no tick meets; one that asks something at picks too.
pub either-first-told : {S : Type 0} (ed : Edition) (p : Plant) (c : Control S) (s : Situation S) (es : List (List ℕ)) →
    Each (λ e (o : Answered S). event_in ed e ≡ tick → NotStopped o.answer) es (answers ed p c s es) → EitherFirstAtTicks ed p c s es
either-first-told ed p c = TickOrders.either-first-told ed p c

-- ---- papers
-- two independent branches: the last record is the same in both orders, and the assumptions of `independent-picks` hold of them.
-- Ruled out: a run that takes the second pick's values from before the first; assumptions that nothing meets.
pub independent-one-order : BothRun independent_branches (from_values 0 0) (pick_of 1 ++ pick_of 2) (replicate 34 9) (wrote 2 0 0 (record_with 200 4 1 0 ++ record_with 201 0 1 5))
independent-one-order = Papers.independent-one-order

pub independent-other-order : BothRun independent_branches (from_values 0 0) (pick_of 2 ++ pick_of 1) (replicate 34 9) (wrote 2 0 0 (record_with 200 2 0 5 ++ record_with 201 0 1 5))
independent-other-order = Papers.independent-other-order

pub independent-read : judge_file edition1 independent_branches ≡ accepted independent_schedule
independent-read = Papers.independent-read

pub independent-without-case : WithoutCase independent_schedule
independent-without-case = Papers.independent-without-case

pub independent-reached : Reachable edition1 independent_schedule (begun edition1 independent_schedule (record { values = pos 0 ∷ pos 0 ∷ []; modes = [] }))
independent-reached = Papers.independent-reached

pub independent-held : Independent edition1 independent_schedule (begun edition1 independent_schedule (record { values = pos 0 ∷ pos 0 ∷ []; modes = [] })) (pick_of 1) (pick_of 2)
independent-held = Papers.independent-held

-- "Equations of kind 1 are allowed.": with variable 1 driven, and a REINITIAL of it.
-- Ruled out: a theorem for schedules without equations; a REINITIAL that is no assignment.
pub driven-without-case : selectors driven_plant ≡ []
driven-without-case = Papers.driven-without-case

pub driven-one-order : BothRun driven_branches (from_values 0 0) (pick_of 1 ++ pick_of 2) (replicate 34 9) (wrote 2 0 0 (record_with 200 4 1 0 ++ record_with 201 0 1 5))
driven-one-order = Papers.driven-one-order

pub driven-other-order : BothRun driven_branches (from_values 0 0) (pick_of 2 ++ pick_of 1) (replicate 34 9) (wrote 2 0 0 (record_with 200 2 0 5 ++ record_with 201 0 1 5))
driven-other-order = Papers.driven-other-order

-- where one faults, in neither order are both taken; the answers differ between the orders, and nothing is claimed of them.
-- Ruled out: a fault that lets the run go on; a fault that undoes what the pick before it assigned.
pub fault-one-order : BothRun independent_branches (from_values 10 0) (pick_of 1 ++ pick_of 2) (replicate 34 9) (wrote 0 1 1 (record_with 203 0 10 0 ++ record_with 23 0 10 0))
fault-one-order = Papers.fault-one-order

pub fault-other-order : BothRun independent_branches (from_values 10 0) (pick_of 2 ++ pick_of 1) (replicate 34 9) (wrote 1 0 1 (record_with 200 2 10 5 ++ record_with 203 0 10 5))
fault-other-order = Papers.fault-other-order

pub fault-not-both : let x = begun edition1 independent_schedule (record { values = pos 10 ∷ pos 0 ∷ []; modes = [] }) in
    (both_taken edition1 independent_schedule x (pick_of 1) (pick_of 2) ≡ false) × (both_taken edition1 independent_schedule x (pick_of 2) (pick_of 1) ≡ false)
fault-not-both = Papers.fault-not-both

-- where the variables meet, both orders are taken and the values differ: one reads what the other sets, or both set one variable.
-- Ruled out: a run that evaluates both numbers before it assigns; a definition of a statement without the variable that it assigns.
pub meeting-one-order : BothRun meeting_branches (from_values 0 0) (pick_of 1 ++ pick_of 2) (replicate 34 9) (wrote 2 0 0 (record_with 200 4 1 0 ++ record_with 201 0 1 5))
meeting-one-order = Papers.meeting-one-order

pub meeting-other-order : BothRun meeting_branches (from_values 0 0) (pick_of 2 ++ pick_of 1) (replicate 34 9) (wrote 2 0 0 (record_with 200 2 0 5 ++ record_with 201 0 6 5))
meeting-other-order = Papers.meeting-other-order

pub same-one-order : BothRun same_variable (from_values 0 0) (pick_of 1 ++ pick_of 2) (replicate 34 9) (wrote 2 0 0 (record_with 200 4 3 0 ++ record_with 201 0 5 0))
same-one-order = Papers.same-one-order

pub same-other-order : BothRun same_variable (from_values 0 0) (pick_of 2 ++ pick_of 1) (replicate 34 9) (wrote 2 0 0 (record_with 200 2 5 0 ++ record_with 201 0 3 0))
same-other-order = Papers.same-other-order

pub meeting-occurs : (in_statement edition1 2 1 0 (number_bytes edition1 (one_more_than 1)) ≡ true) × (in_statement edition1 2 0 0 (number_bytes edition1 (constant (pos 5))) ≡ true)
meeting-occurs = Papers.meeting-occurs

-- with a CASE the first pick can make a switch true, and the second is turned away with 28.
-- Ruled out: a pick without a switch check; a switch check on the values before the first of two picks.
pub case-one-order : BothRun branches_with_case (from_values 0 0 ++ (0 ∷ [])) (pick_of 1 ++ pick_of 2) (replicate 36 9)
    (wrote 1 1 0 (record_with 200 4 1 0 ++ (0 ∷ record_with 28 4 1 0 ++ (0 ∷ []))))
case-one-order = Papers.case-one-order

pub case-other-order : BothRun branches_with_case (from_values 0 0 ++ (0 ∷ [])) (pick_of 2 ++ pick_of 1) (replicate 36 9)
    (wrote 2 0 0 (record_with 200 2 0 5 ++ (0 ∷ record_with 201 0 1 5 ++ (0 ∷ []))))
case-other-order = Papers.case-other-order

-- different children: of a PARALLEL of a WHILE and a SEQUENCE below an IF; of a PARALLEL in a PARALLEL; but two children of one SEQUENCE are not.
-- Ruled out: a test that takes any two nodes below a PARALLEL; one that does not look inside an IF.
pub nested-children : map (λ (b : ℕ). different_children 3 b nested_branches) (0 ∷ 2 ∷ 3 ∷ 5 ∷ 6 ∷ 7 ∷ []) ≡ false ∷ false ∷ false ∷ true ∷ true ∷ false ∷ []
nested-children = Papers.nested-children

pub inner-children : map (λ (b : ℕ). different_children 2 b (par (par (leaf 2) (cons (leaf 3) nil)) (cons (leaf 4) nil))) (2 ∷ 3 ∷ 4 ∷ []) ≡ false ∷ true ∷ true ∷ []
inner-children = Papers.inner-children

pub sequence-children : different_children 2 3 (par (seq (leaf 2) (cons (leaf 3) nil)) (cons (leaf 4) nil)) ≡ false
sequence-children = Papers.sequence-children

-- a tick asks CONTINUEs in node order: with the branches the other way round 31 becomes 203, and 203 becomes 204; where none stops it, it is taken both ways.
-- Ruled out: a tick that asks all CONTINUEs before it answers, a fault first; one that asks them from the last to the first.
pub true-asked-first : BothRun (waiting_for_both always (at_most0 number_too_high)) (start_with 0) ticked (replicate 26 9) (wrote 0 2 0 (one_record 31 6 0 (one_record 31 6 0 [])))
true-asked-first = Papers.true-asked-first

pub fault-asked-first : BothRun (waiting_for_both (at_most0 number_too_high) always) (start_with 0) ticked (replicate 26 9) (wrote 0 1 1 (one_record 203 0 0 (one_record 23 0 0 [])))
fault-asked-first = Papers.fault-asked-first

pub neither-stops : BothRun (waiting_for_both never (at_most0 (constant (pos 1)))) (start_with 0) ticked (replicate 26 9) (wrote 2 0 0 (one_record 200 6 0 (one_record 200 6 0 [])))
neither-stops = Papers.neither-stops

pub neither-stops-exchanged : BothRun (waiting_for_both (at_most0 (constant (pos 1))) never) (start_with 0) ticked (replicate 26 9) (wrote 2 0 0 (one_record 200 6 0 (one_record 200 6 0 [])))
neither-stops-exchanged = Papers.neither-stops-exchanged

pub above-asked-first : BothRun (waiting_for_both (at_most0 number_too_high) (at_most0 number_too_low)) (start_with 0) ticked (replicate 26 9) (wrote 0 1 1 (one_record 203 0 0 (one_record 23 0 0 [])))
above-asked-first = Papers.above-asked-first

pub below-asked-first : BothRun (waiting_for_both (at_most0 number_too_low) (at_most0 number_too_high)) (start_with 0) ticked (replicate 26 9) (wrote 0 1 1 (one_record 204 0 0 (one_record 23 0 0 [])))
below-asked-first = Papers.below-asked-first

-- a child of three nodes and one of one node, after the PARALLEL's own number 0.
-- Ruled out: new numbers counted from the child's first node; a number behind both children that moves.
pub new-numbers : map (exchanged_number 1 3 1) (0 ∷ 1 ∷ 2 ∷ 3 ∷ 4 ∷ 5 ∷ []) ≡ 0 ∷ 2 ∷ 3 ∷ 4 ∷ 1 ∷ 5 ∷ []
new-numbers = Papers.new-numbers
