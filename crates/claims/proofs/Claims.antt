-- The mission's demands as theorems about the definitions: each statement written out, under the sentence that it settles, and proved by one citation.
-- They hold for a tree of any size and over any edition, so that of the definitions 256 nodes need no second proof: `edition-2` has such an edition.
-- The contracts of the calls in code cite `edition1`.
-- "Every call ends, on any bytes": the definitions are total, the contract of each call says that it returns what its definition gives, and asks nothing of the bytes (no `requires`).
-- What a statement, or a group of them, rules out is named by two wrong products that it does not let by.
use mathlib.Core.Path.{◌≡◌, refl}
use mathlib.Core.Bool.{Bool, true, false}
use mathlib.Core.List.{List, ◌∷◌, ◌++◌, flat_map, flatten, Memᴰ as Mem, Permᴰ as Permuted}
use mathlib.Core.Logic.{◌↔◌, ◌⊎◌}
use mathlib.Core.Option.{some}
use Prim.Native.Nat.{ℕ, ◌+◌, ◌*◌, ◌≤◌, ◌<◌}
use lib.IntN.{ℤ}
use lib.ListN.{length, get_elem?, take, drop}
use Rattle.semantics.specs.Bytes.{All, within, is_some, overwrite, width_of}
use Rattle.semantics.specs.Editions.{Edition, edition1, edition2, capacity}
use Rattle.semantics.specs.Refusals.{accepted}
use Rattle.semantics.specs.Expressions.{Number, Truth, Value, value_of, holds, number_bytes, truth_bytes, number_depth, truth_depth, number_in, truth_in, value_of_number, value_of_truth}
use Rattle.semantics.specs.Evaluating.{Evaluates, Holds}
use Rattle.semantics.specs.Plant.{Plant, selectors}
use Rattle.semantics.specs.Events.{events_in}
use Rattle.semantics.specs.Run.{Action, stop, possible, Next, halted, Control, Situation, Answered, at, step, record_of, no_counts, counts_from}
use Rattle.semantics.specs.Rules.{Rule, Derives, Stopping, Standing, at_start, stands_at, Sound, Decides, InRange}
use Rattle.semantics.specs.Records.{AtFront, Fits32, RecordIs, RecordsIn}
use Rattle.semantics.specs.Counting.{Counted}
use Rattle.semantics.specs.TableFile.{location_limit, write_action}
use Rattle.semantics.specs.Tables.{Table, rising_from, judge_table, action_or_stop, table_control}
use Rattle.semantics.specs.TableRuns.{TableRuns}
use Rattle.semantics.specs.Starts.{Start, start_in, fits_start}
use Rattle.semantics.specs.Writing.{write_table, TableLimits, TableReadAs, start_bytes, Each, HasMode, StartLimits}
use Rattle.semantics.specs.Proper.{NamesKnown, TruthNamesKnown, IsTruth, IsNumber, TableWritten, Distinct}
use Rattle.semantics.specs.Statements.{RunHolds}
use Rattle.semantics.specs.Calls.{event_count, record_size, read_table_of, table_run_of}
use Rattle.semantics.specs.Conditions.{is20}
use Rattle.semantics.specs.Sentences.{Clause, FirstHolds, AnyHolds, table_clauses, table_run_clauses}
use Rattle.semantics.proofs.StepRules as StepRules
use Rattle.semantics.proofs.FirstAnswer as FirstAnswer
use Rattle.semantics.proofs.Evaluated as Evaluated
use Rattle.semantics.proofs.EvaluatedBytes as EvaluatedBytes
use Rattle.semantics.proofs.EventsCut as EventsCut
use Rattle.semantics.proofs.RecordForms as RecordForms
use Rattle.semantics.proofs.RunCounts as RunCounts
use Rattle.semantics.proofs.RunRecords as TableRecords
use Rattle.semantics.proofs.SentenceSteps as SentenceSteps
use Rattle.semantics.proofs.TableSentences as TableSentences
use Rattle.semantics.proofs.CallsHold as TableCalls
use Rattle.semantics.proofs.ProperForms as ProperForms
use Rattle.semantics.proofs.WrittenSources as TableBytes
use Rattle.semantics.proofs.TableForms as TableForms
use Rattle.semantics.proofs.TablesProper as TablesProper
use Rattle.semantics.proofs.TableEntries as TableEntries
use Rattle.schedules.specs.FileSections.{FileSections, file_sections_in}
use Rattle.schedules.specs.Nodes.{Node, parallel, while_do, if_else, stop_all, nodes_in, node_action, actions_of}
use Rattle.schedules.specs.Doing.{Does}
use Rattle.schedules.specs.Trees.{Tree, tree_of}
use Rattle.schedules.specs.Preorder.{Written}
use Rattle.schedules.specs.Residuals.{Residual, fresh, acting, move}
use Rattle.schedules.specs.MoveRules.{Fresh, Acts, MoveRule, LeadsByRule}
use Rattle.schedules.specs.Reached.{Leads, Of, AsMany}
use Rattle.schedules.specs.Arrivals.{NumberedInOrder}
use Rattle.schedules.specs.Files.{Schedule, judge_file, rule_control}
use Rattle.schedules.specs.Compiling.{tests_of, schedule_comparisons, table_of}
use Rattle.schedules.specs.Calls.{read_schedule, size, rule_run_of, compile}
use Rattle.schedules.specs.Conditions.{file_schedule}
use Rattle.schedules.specs.Sentences.{file_clauses, compile_clauses, rule_run_clauses}
use Rattle.schedules.specs.Exam.{refused_exam, exam_of, exam_clauses, ExamHolds}
use Rattle.schedules.specs.Writing.{write_node, write_file, FileLimits, FileReadAs}
use Rattle.schedules.specs.Proper.{ScheduleWritten}
use Rattle.schedules.specs.Agreement.{TableHolds, TooMany, RunsAgree, Agrees}
use Rattle.schedules.specs.Sizes.{size_of, pencil_size}
use Rattle.schedules.specs.TableSizes.{table_length_of, TableSized}
use Rattle.schedules.specs.Reordered.{OneTree, Swapped, SameButOrder}
use Rattle.schedules.proofs.Demand2 as Demand2
use Rattle.schedules.proofs.FirstArrivals as FirstArrivals
use Rattle.schedules.proofs.RunRecords as RuleRecords
use Rattle.schedules.proofs.Agreement as Agreement
use Rattle.schedules.proofs.FirstNumber as FileNumbers
use Rattle.schedules.proofs.CallsHold as FileCalls
use Rattle.schedules.proofs.NodeActions as NodeActions
use Rattle.schedules.proofs.ActionDone as ActionDone
use Rattle.schedules.proofs.NodesDo as NodesDo
use Rattle.schedules.proofs.ScheduleSound as ScheduleSound
use Rattle.schedules.proofs.MovesByRule as MovesByRule
use Rattle.schedules.proofs.ActingDetermines as ActingDetermines
use Rattle.schedules.proofs.ReadShapes as ReadShapes
use Rattle.schedules.proofs.OneTree as OneTree
use Rattle.schedules.proofs.WrittenBytes as WrittenBytes
use Rattle.schedules.proofs.FileForms as FileForms
use Rattle.schedules.proofs.FilesProper as FilesProper
use Rattle.schedules.proofs.ByPencil as ByPencil
use Rattle.schedules.proofs.LocationCount as LocationCount
use Rattle.schedules.proofs.TableLength as TableLength
use Rattle.schedules.proofs.ActionLength as ActionLength
use Rattle.schedules.proofs.SizeCall as SizeCall
use Rattle.schedules.proofs.BranchOrder as BranchOrder
use Rattle.schedules.proofs.ExchangedBytes as ExchangedBytes
use Rattle.schedules.proofs.FileSentences as FileSentences
use Rattle.schedules.proofs.EveryStart as EveryStart
use Rattle.schedules.proofs.ExamHolds as ExamHolds

-- ---- demand 2: "The table of an accepted schedule has every control state that the rules reach from the start, guards ignored, and no other;
-- each has an edge for each move and no other, numbered in the paper's order."
-- Ruled out: one fixed table; a table with a location left out, or with one twice.
pub reached : (ed : Edition) (file room : List ℕ) → (compile ed file room).refusal ≡ 0 →
    TableHolds ed file (take (compile ed file room).written (compile ed file room).table)
reached = Demand2.table-holds

-- "Take locations in number order, acting nodes rising, the target on done or true before that on false; a residual not met yet takes the next number.":
-- of the locations that `reached` speaks of, each but 0 has a move that leads there, and for every move to one of them a lower one has a move that comes sooner.
-- A move is told by its location, node and outcome and by `MoveRule`; which comes sooner, by `Sooner`: the compiler's own list of targets stands in neither.
-- Ruled out: a compiler that takes the acting nodes of a location falling; one that numbers the target on false first, or goes on with the newest location first.
pub numbered-in-order : (ed : Edition) (file table : List ℕ) (h : TableHolds ed file table) → NumberedInOrder (tests_of h.schedule.nodes) h.locations
numbered-in-order = FirstArrivals.table-in-order

-- "There are over 1,024 locations.": given exactly where more can be reached.
-- Ruled out: a compiler that refuses a schedule of 1,024 locations; one that takes a schedule of 1,025.
pub refused-13 : (ed : Edition) (file room : List ℕ) → ((compile ed file room).refusal ≡ 13) ↔ ((s : Schedule) × (judge_file ed file ≡ accepted s) × TooMany s)
refused-13 = Demand2.refused-13

-- a location may be kept as its set of acting nodes: two residuals of the tree that is read, no PARALLEL in them wholly finished, with the same acting nodes are equal.
-- Ruled out: a residual that remembers more than it acts on (how often a WHILE went round); a reader that gives two nodes one number.
pub acting-determines : (ns : List Node) (t : Tree) → tree_of ns ≡ some t → (r s : Residual) → Of t r → Of t s → acting r ≡ acting s → r ≡ s
acting-determines ns t h r s p q = ActingDetermines.acting-determines p q (ReadShapes.root-shapes ns h).0

-- and what moves lead to from the fresh root is such a residual.
-- Ruled out: a SEQUENCE that forgets its later children; a PARALLEL that goes on when all its children are finished.
pub reached-of : (tests : ℕ → Bool) (t : Tree) (r : Residual) → Leads tests (fresh t) r → Of t r
reached-of = FileCalls.reached-of

-- "Residuals and moves", sentence by sentence: `fresh`, `acting` and `move`, which the above rests on, are just the relations `Fresh`, `Acts` and `MoveRule`.
-- Of a move it is asked that its node acts and that no other place of the residual has the same number: so it is in every residual of a tree that was read.
-- Ruled out: a WHILE that finishes when its body does; a PARALLEL that forgets which of its children are finished.
pub fresh-rules : (t : Tree) (r : Residual) → (fresh t ≡ r) ↔ Fresh t r
fresh-rules = MovesByRule.fresh-rules

pub acting-rules : (r : Residual) (n : ℕ) → Mem n (acting r) ↔ Acts n r
acting-rules = MovesByRule.acting-rules

pub move-rules : (r : Residual) → Distinct (acting r) → (n : ℕ) (b : Bool) (x : Next Residual) → Acts n r → (move r n b ≡ x) ↔ MoveRule r n b x
move-rules = MovesByRule.move-rules

-- no node acts in two places of a residual.
-- Ruled out: a reader that gives two nodes one number; a PARALLEL that lists the acting nodes of a child twice.
pub acting-distinct : (ns : List Node) (t : Tree) (r : Residual) → tree_of ns ≡ some t → Of t r → Distinct (acting r)
acting-distinct = MovesByRule.acting-distinct

-- so what is reached is what the rules reach.
-- Ruled out: a location that only the code's own moves lead to; one that the paper's moves lead to and the code's do not.
pub reached-rules : (ns : List Node) (t : Tree) → tree_of ns ≡ some t → (tests : ℕ → Bool) (r : Residual) → Leads tests (fresh t) r ↔ LeadsByRule tests t r
reached-rules = MovesByRule.reached-rules

-- the bytes that compiling writes: at the front of the room, which holds them, and the rest of it unaltered.
-- Ruled out: a compiler that writes nothing; one that clears the room beyond its table (with `at_front`).
pub written-table : (ed : Edition) (file room : List ℕ) → (compile ed file room).refusal ≡ 0 →
    (s : Schedule) × (file_schedule ed file ≡ some s) × (length (table_of ed s) ≤ length room) ×
    (compile ed file room ≡ record { refusal = 0; written = length (table_of ed s); comparisons = schedule_comparisons s; table = overwrite (table_of ed s) room })
written-table = FileCalls.written-table

-- how many locations there are, by arithmetic: `size_of` of a tree (Sizes) is stated twice, two children at a time and with the products that one works out by hand.
-- Ruled out: a PARALLEL whose locations are its children's added up; one that is counted once more where all its children are finished.
pub size-by-pencil : (t : Tree) → pencil_size t ≡ size_of t
size-by-pencil = ByPencil.by-pencil

-- what moves lead to from the fresh root is as many residuals, in which as many nodes act: of every tree that is read, however many they are.
-- Ruled out: a WHILE without a location of its own; children after a STOP that are counted, though nothing leads there.
pub reached-by-size : (ns : List Node) (t : Tree) → tree_of ns ≡ some t → AsMany (Leads (tests_of ns) (fresh t)) (size_of t).locations (size_of t).entries
reached-by-size ns t h = LocationCount.reached-by-size ns h

-- so the bytes that compiling writes, read back as a table, have as many locations and entries, and their length follows.
-- Ruled out: a table with a location for a PARALLEL that is wholly finished; one with bytes left over after its last location.
pub locations-by-size : (ed : Edition) (file room : List ℕ) → (compile ed file room).refusal ≡ 0 →
    TableSized ed file (take (compile ed file room).written (compile ed file room).table)
locations-by-size = TableLength.locations-by-size

-- its actions: each takes the width of a node's number more than its node in the file, where it takes its length and what follows; in edition 1 one byte more.
-- Ruled out: a table that keeps a node's kind beside its action's; one that leaves out the number of the node.
pub action-length : (ed : Edition) (x : Node) (n : ℕ) (a : Action) → Does x a → length (write_action ed (record { node = n; action = a })) ≡ width_of ed.width + length (write_node ed x)
action-length = ActionLength.action-length

pub action-one-more : (x : Node) (n : ℕ) (a : Action) → Does x a → length (write_action edition1 (record { node = n; action = a })) ≡ 1 + length (write_node edition1 x)
action-one-more = ActionLength.action-one-more

-- 13 is given exactly where that number is above 1,024.
-- Ruled out: a compiler that refuses by the number of nodes or entries; one that gives up on a schedule that it took too long to number.
pub refused-13-by-size : (ed : Edition) (file room : List ℕ) →
    ((compile ed file room).refusal ≡ 13) ↔ ((s : Schedule) × (judge_file ed file ≡ accepted s) × (location_limit < (size_of s.root).locations))
refused-13-by-size = LocationCount.refused-13-by-size

-- and where it is not, the schedule is compiled wherever its table has room.
-- Ruled out: a compiler that refuses all; one that wants a longer room than the table takes.
pub taken-by-size : (ed : Edition) (file room : List ℕ) (s : Schedule) → judge_file ed file ≡ accepted s → (size_of s.root).locations ≤ location_limit → table_length_of ed s ≤ length room →
    ((compile ed file room).refusal ≡ 0) × ((compile ed file room).written ≡ table_length_of ed s)
taken-by-size = TableLength.taken-by-size

-- the call "size" tells just these numbers before anything is compiled, and 1,025 exactly where compiling answers 13, whatever the room.
-- Ruled out: a size of 1,024 told for a schedule that compiling refuses; one that counts entries of locations that no move reaches.
pub size-13 : (ed : Edition) (file room : List ℕ) → ((compile ed file room).refusal ≡ 13) ↔ (((size ed file).refusal ≡ 0) × ((size ed file).locations ≡ 1025))
size-13 = SizeCall.size-13

pub size-of-table : (ed : Edition) (file room : List ℕ) → (compile ed file room).refusal ≡ 0 →
    (t : Table) × (judge_table ed (take (compile ed file room).written (compile ed file room).table) ≡ accepted t) ×
    (size ed file ≡ record { refusal = 0; locations = length t.locations; entries = length (flatten t.locations) })
size-of-table = SizeCall.size-of-table

-- the order in which the children of PARALLELs are listed: two files that differ in nothing else get the same number, 0 or a refusal's, for every room, and tables of the same length.
-- Ruled out: a compiler that takes a schedule with its branches one way round and gives 13 the other way; one that gives 12 for the one and 11 for the other.
pub branch-order : (ed : Edition) (file other room : List ℕ) → SameButOrder ed file other →
    ((compile ed file room).refusal ≡ (compile ed other room).refusal) × ((compile ed file room).written ≡ (compile ed other room).written)
branch-order = BranchOrder.branch-order

-- Ruled out: a reader that counts the children of a PARALLEL's first branch only; a size that grows with the longest branch listed last.
pub read-order : (ed : Edition) (file other : List ℕ) → SameButOrder ed file other → read_schedule ed file ≡ read_schedule ed other
read-order = BranchOrder.read-order

pub size-order : (ed : Edition) (file other : List ℕ) → SameButOrder ed file other → size ed file ≡ size ed other
size-order = BranchOrder.size-order

-- such a pair are a file and the same bytes with those of two neighbouring children of a PARALLEL exchanged: of every file whose sections (3) and nodes (9) are read, whatever else is wrong with it.
-- Ruled out: a reader that looks for a node elsewhere than after the bytes of the node before it; one that takes the same bytes for another node at another place.
pub exchanged-bytes : (ed : Edition) (file : List ℕ) (parts : FileSections) → All (λ b. b < 256) file → file_sections_in (drop 3 file) ≡ some parts →
    {ns ms : List Node} → nodes_in ed parts.schedule ≡ some ns → (w : Swapped ns ms) →
    (front : List ℕ) × (file ≡ front ++ (flat_map (write_node ed) w.one ++ (flat_map (write_node ed) w.other ++ flat_map (write_node ed) w.after)))
    × SameButOrder ed file (front ++ (flat_map (write_node ed) w.other ++ (flat_map (write_node ed) w.one ++ flat_map (write_node ed) w.after)))
exchanged-bytes = ExchangedBytes.exchanged-bytes

-- so in one statement, of bytes alone: whatever room is lent, the exchanged file gets the same number and the same length.
-- Ruled out: a compiler that is "too complex" only one way round; one whose table is shorter with the longest branch first.
pub branches-exchanged : (ed : Edition) (file : List ℕ) (parts : FileSections) → All (λ b. b < 256) file → file_sections_in (drop 3 file) ≡ some parts →
    {ns ms : List Node} → nodes_in ed parts.schedule ≡ some ns → (w : Swapped ns ms) →
    (front : List ℕ) × (file ≡ front ++ (flat_map (write_node ed) w.one ++ (flat_map (write_node ed) w.other ++ flat_map (write_node ed) w.after)))
    × ((room : List ℕ) → let other = front ++ (flat_map (write_node ed) w.other ++ (flat_map (write_node ed) w.one ++ flat_map (write_node ed) w.after)) in
    ((compile ed file room).refusal ≡ (compile ed other room).refusal) × ((compile ed file room).written ≡ (compile ed other room).written))
branches-exchanged ed file parts b e h w = let q = exchanged-bytes ed file parts b e h w in (q.0, q.1, λ room. branch-order ed file _ room q.2)

-- and the same bytes with those of all its children in any other order are such a pair, too: whatever room is lent, they get the same number and the same length.
-- Ruled out: a compiler whose answer depends on which child is listed first; one that holds for two children and not for three.
pub any_order : (ed : Edition) (file : List ℕ) (parts : FileSections) → All (λ b. b < 256) file → file_sections_in (drop 3 file) ≡ some parts →
    (before after : List Node) {children others : List (List Node)} → All OneTree children → Permuted children others →
    nodes_in ed parts.schedule ≡ some (before ++ (parallel (length children) ∷ (flat_map (λ (c : List Node). c) children ++ after))) →
    (front : List ℕ) × (file ≡ front ++ (flat_map (flat_map (write_node ed)) children ++ flat_map (write_node ed) after))
    × (let other = front ++ (flat_map (flat_map (write_node ed)) others ++ flat_map (write_node ed) after) in SameButOrder ed file other
    × ((room : List ℕ) → ((compile ed file room).refusal ≡ (compile ed other room).refusal) × ((compile ed file room).written ≡ (compile ed other room).written)))
any_order ed file parts b e before after c p h = let q = ExchangedBytes.any-order-bytes ed file parts b e before after c p h in (q.0, q.1, (q.2, λ room. branch-order ed file _ room q.2))

-- ---- demand 3: "The table runner accepts that table, and for every start and every list of whole events the run by the rules and the run of the table
-- write the same records, byte for byte, and the same counts. One claim about the whole list."
-- Ruled out: two runners that both fault before their first move (the records are those that the rules derive); invented counts.
pub agreement : (ed : Edition) (file room : List ℕ) → (compile ed file room).refusal ≡ 0 →
    Agrees ed file (take (compile ed file room).written (compile ed file room).table)
agreement = Agreement.agreement

-- the same in the mission's words: for every valuation within the declared ranges, every choice of existing modes, every list of whole events and all
-- record buffers that are long enough, both runs take the call on, and their records and counts are those that the rules derive.
-- Ruled out: runners that refuse every start whose modes are not the initial ones; runners that take one event at most (with `events-cut`).
pub agreement-every-start : (ed : Edition) (file room : List ℕ) → All (λ b. b < 256) file → (compile ed file room).refusal ≡ 0 →
    (s : Schedule) × ScheduleWritten ed file s × ((values : List ℤ) (modes : List ℕ) → Each InRange s.plant.variables values → Each HasMode (selectors s.plant) modes →
    (events by_rules by_table : List ℕ) (n : ℕ) → length events ≡ n * ed.event_bytes → n * record_size ed s.plant ≤ length by_rules → n * record_size ed s.plant ≤ length by_table →
    RunsAgree ed s (record { values = values; modes = modes }) events by_rules by_table (rule_run_of ed file (start_bytes (record { values = values; modes = modes })) events by_rules)
    (table_run_of ed (take (compile ed file room).written (compile ed file room).table) (start_bytes (record { values = values; modes = modes })) events by_table))
agreement-every-start = EveryStart.every-start

-- and of the call that compiles, runs both ways and compares: where it is not refused, it says that the two agree, and they come to what the rules derive.
-- Ruled out: a call that says that they agree and runs nothing; one that leaves the second record buffer as it was.
pub examine-agrees : (ed : Edition) (file start events table records others : List ℕ) → (exam_of ed file start events table records others).refusal ≡ 0 →
    ExamHolds ed file start events table records others
examine-agrees = ExamHolds.exam-agrees

-- the executable step of one event is just the rule-by-rule relation, wherever a run can be.
-- Ruled out: a step that skips the switch check, or takes selector 1 before selector 0; a fault that keeps the run going.
pub step-rules : {S : Type 0} (ed : Edition) (p : Plant) (c : Control S) → Sound p c → (s : Situation S) → Standing c s → (e : List ℕ) (a : ℕ) (t : Situation S) →
    (step ed p c s e ≡ record { answer = a; left = t }) ↔ Rule ed p c s e a t
step-rules ed p c = StepRules.step-rules ed p c

-- a run can be at its start, and where an event leaves it.
-- Ruled out: a step that leaves the run where no move leads; statements about steps that hold of no run.
pub start-stands : {S : Type 0} (c : Control S) (vs : List ℤ) (ms : List ℕ) → Standing c (at c.start vs ms)
start-stands c vs ms = stands_at at_start

pub event-stands : {S : Type 0} (ed : Edition) (p : Plant) (c : Control S) → Sound p c → (s : Situation S) → Standing c s → (e : List ℕ) → Standing c (step ed p c s e).left
event-stands ed p c sound s stand e = StepRules.rule-standing ed p c stand (StepRules.rule-of ed p c sound s stand e)

-- the run by the rules: it starts at the fresh root, in a residual those nodes act that act there, each does what it is, and the run goes where its move leads.
-- Ruled out: a rule run that starts at the root's first child; one that goes on where the residual's own move halts.
pub rule-control : (s : Schedule) → rule_control s ≡ record { start = fresh s.root; acting = acting; action = node_action s.nodes; next = move }
unfolding rule_control
rule-control s = refl

-- the run of an accepted table, in the words of "Table file": where it starts, who acts, what each does, and which target a move takes (`TableRuns`, with FFFE and FFFD as such).
-- Ruled out: a table run that takes the second target where a test holds; one that ends with 202 where the target is FFFE.
pub table-control : (ed : Edition) (table : List ℕ) (t : Table) → judge_table ed table ≡ accepted t → TableRuns t (table_control t)
table-control = TableEntries.table_runs

-- what `step-rules` and `first-answer` ask of a run, every accepted schedule and every accepted table gives.
-- Ruled out: a table that lets a RESET of a missing variable be picked; a plant in which two rates of one variable are in force.
pub sound-rules : (ed : Edition) (file : List ℕ) (s : Schedule) → judge_file ed file ≡ accepted s → Sound s.plant (rule_control s)
sound-rules = FileCalls.sound-rules

pub sound-table : (ed : Edition) (table : List ℕ) (t : Table) → judge_table ed table ≡ accepted t → Sound t.plant (table_control t)
sound-table = TableCalls.sound-table

-- "their truths in node order": the acting nodes, in whose order a tick walks, rise.
-- Ruled out: a PARALLEL that lists its children's nodes last first; a table whose entries do not rise.
pub node-order-rules : (ed : Edition) (file : List ℕ) (s : Schedule) → judge_file ed file ≡ accepted s → (r : Residual) → Of s.root r → rising_from 0 (acting r) ≡ true
node-order-rules ed file s h r o = MovesByRule.acting-rises s.nodes s.root r (FileNumbers.passed ed file s h).tree o

pub node-order-table : (ed : Edition) (table : List ℕ) (t : Table) → judge_table ed table ≡ accepted t → (x : ℕ) → rising_from 0 ((table_control t).acting x) ≡ true
node-order-table = TableCalls.table-rises

-- "one of a STOP 202": over any control 202 is the answer only to the pick of a STOP that acts.
-- Ruled out: rules by which a WHILE halts the run; rules by which a tick is answered 202.
pub halts-by-stop : {S : Type 0} {ed : Edition} {p : Plant} {c : Control S} {s t : Situation S} {e : List ℕ} → Rule ed p c s e 202 t → Stopping ed c s e
halts-by-stop r = StepRules.halts-by-stop r

-- "STOP halts the whole", and no other node does: in an accepted schedule wherever its moves can lead, in an accepted table at every location.
-- Ruled out: a STOP that finishes its branch; a table whose RESET leads to FFFD.
pub only-stop-halts-rules : (ed : Edition) (file : List ℕ) (s : Schedule) → judge_file ed file ≡ accepted s → (r : Residual) → Of s.root r → (n : ℕ) (b : Bool) → Mem n (acting r) →
    (move r n b ≡ halted) ↔ (get_elem? s.nodes n ≡ some stop_all)
only-stop-halts-rules ed file s h = ScheduleSound.rule-halts s (FileNumbers.passed ed file s h).tree

pub only-stop-halts-table : (ed : Edition) (table : List ℕ) (t : Table) → judge_table ed table ≡ accepted t → (x n : ℕ) (b : Bool) → Mem n ((table_control t).acting x) →
    possible ((table_control t).action n) b ≡ true → ((table_control t).next x n b ≡ halted) ↔ ((table_control t).action n ≡ stop)
only-stop-halts-table = TableCalls.table-halts

-- what a node does is taken from the node itself, whichever node acts (`Does`, kind by kind); the list of actions that a table has says the same of every number.
-- Ruled out: a rule run that takes its actions from a list that was written wrongly; a node that acts without an action; a SWITCH whose selector and mode change places.
pub acts-as-listed : (s : Schedule) (n : ℕ) → (rule_control s).action n ≡ action_or_stop (actions_of s.nodes) n
acts-as-listed = NodeActions.rule-action

pub acts-by-node : (ed : Edition) (file : List ℕ) (s : Schedule) → judge_file ed file ≡ accepted s → (r : Residual) → Of s.root r → (n : ℕ) → Mem n (acting r) →
    (x : Node) × (get_elem? s.nodes n ≡ some x) × Does x (node_action s.nodes n)
acts-by-node ed file s h r o n m = let q = ScheduleSound.acting-own s (FileNumbers.passed ed file s h).tree r o n m in (q.node, q.is_node, ActionDone.does q.node q.is_action)

-- the actions of the table that compiling writes: each is what its node does, and each node of kinds 3 to 9 has one.
-- Ruled out: a RESET that assigns variable 0 whatever variable it names; an IF that is listed as a wait.
pub actions-by-node : (ed : Edition) (file room : List ℕ) → (compile ed file room).refusal ≡ 0 →
    (s : Schedule) × (judge_file ed file ≡ accepted s) × (t : Table) × (judge_table ed (take (compile ed file room).written (compile ed file room).table) ≡ accepted t) ×
    ((n : ℕ) (a : Action) → Mem (record { node = n; action = a }) t.actions ↔ ((x : Node) × (get_elem? s.nodes n ≡ some x) × Does x a))
actions-by-node = NodesDo.table-actions

-- the nodes that test, which a table gives a second target, are the WHILEs and the IFs.
-- Ruled out: a CONTINUE with a target on false; an IF whose second child is never reached.
pub tests-by-node : (ns : List Node) (n : ℕ) →
    (tests_of ns n ≡ true) ↔ (((t : List ℕ) × (get_elem? ns n ≡ some (while_do t))) ⊎ ((t : List ℕ) × (get_elem? ns n ≡ some (if_else t))))
tests-by-node = NodeActions.tests-by-node

-- "The records of the rule run, and those of the table run, equal this section's byte for byte.": for every call that is not refused, also for schedules
-- that compiling refuses with 13 and for tables that nobody compiled.
-- Ruled out: a rule run that writes anything else for a schedule of 1,025 locations; a table run that reads a table with two equal locations wrongly.
pub rule-run-holds : (ed : Edition) (file start events buffer : List ℕ) → (rule_run_of ed file start events buffer).refusal ≡ 0 →
    (s : Schedule) × (judge_file ed file ≡ accepted s) × RunHolds ed s.plant (rule_control s) start events buffer (rule_run_of ed file start events buffer)
rule-run-holds = FileCalls.rule-run-holds

pub table-run-holds : (ed : Edition) (table start events buffer : List ℕ) → (table_run_of ed table start events buffer).refusal ≡ 0 →
    (t : Table) × (judge_table ed table ≡ accepted t) × RunHolds ed t.plant (table_control t) start events buffer (table_run_of ed table start events buffer)
table-run-holds = TableCalls.table-run-holds

-- the rules derive one list only.
-- Ruled out: rules under which two runs of one start and one list of events would both be right; a second answer to an event that is turned away.
pub derives-one : {S : Type 0} {ed : Edition} {p : Plant} {c : Control S} {s : Situation S} {es : List (List ℕ)} {l m : List (Answered S)} → Derives ed p c s es l → Derives ed p c s es m → l ≡ m
derives-one d e = StepRules.derives-one d e

-- ---- events, records and counts by themselves
-- "An event is 3 bytes": the events that a run judges, in `RunHolds` and `RunsAgree`, are those of its list, all of them and each as it came.
-- Ruled out: a run that stops after 1,000 events, or after the first; one that begins each event a byte too late.
pub events-cut : (ed : Edition) (es : List (List ℕ)) → All (λ e. length e ≡ ed.event_bytes) es → events_in ed.event_bytes (event_count ed (flatten es)) (flatten es) ≡ es
events-cut = EventsCut.events-cut

-- what stands in a lent buffer after these bytes were written into it: they at its front, and the rest as it was. So `overwrite` is to be read in `RunsAgree`; `RunHolds` says it of its records.
-- Ruled out: a run that clears the buffer beyond its records; one that writes them at the buffer's end.
pub at_front : (bytes buffer : List ℕ) → length bytes ≤ length buffer → AtFront bytes buffer (overwrite bytes buffer)
at_front = RecordForms.overwritten

-- and of compiling.
-- Ruled out: a compiler that clears the room beyond its table; one that writes the table behind the first byte and returns its length.
pub table-at-front : (ed : Edition) (file room : List ℕ) → (compile ed file room).refusal ≡ 0 →
    (s : Schedule) × (file_schedule ed file ≡ some s) × ((compile ed file room).written ≡ length (table_of ed s)) × AtFront (table_of ed s) room (compile ed file room).table
table-at-front = FileCalls.table-at-front

-- "taken (200..202), turned away (23..31) and faulted (203)", and of 203 and 204 "Both count as faulted.": the counts by these numbers alone.
-- `RunHolds` says of a run's answers that they are counted so; in `RunsAgree` this reads `counts_from`.
-- Ruled out: a run that counts 202 or 204 as turned away, or 204 nowhere; one that counts an answer twice, or 24 to 31 and not 23.
pub counts-told : {l : List ℕ} {taken away faulted : ℕ} → Counted l taken away faulted → counts_from l ≡ record { taken = taken; turned_away = away; faulted = faulted }
counts-told k = RunCounts.counts-told k

-- "The record of an event: answer byte, set of acting nodes (8 bytes, bit n for node n, 0 once the run is over), values (4 bytes each), modes (1 byte each).": in this order and of these lengths,
-- for each answer that the rules derive, one record after the other at the front of the lent buffer.
-- Ruled out: a set with node 8 in the bit of node 0, or with node 0 in its first byte; a record whose modes stand before its values, or whose values are lowest byte first.
pub records-rules : (ed : Edition) (file start events buffer : List ℕ) → All (λ b. b < 256) file → All (λ b. b < 256) start → (rule_run_of ed file start events buffer).refusal ≡ 0 →
    (s : Schedule) × (judge_file ed file ≡ accepted s) × (h : RunHolds ed s.plant (rule_control s) start events buffer (rule_run_of ed file start events buffer)) ×
    (bytes : List ℕ) × RecordsIn ed (rule_control s) h.said bytes × AtFront bytes buffer (rule_run_of ed file start events buffer).records
records-rules = RuleRecords.rule-recorded

pub records-table : (ed : Edition) (table start events buffer : List ℕ) → All (λ b. b < 256) table → All (λ b. b < 256) start → (table_run_of ed table start events buffer).refusal ≡ 0 →
    (t : Table) × (judge_table ed table ≡ accepted t) × (h : RunHolds ed t.plant (table_control t) start events buffer (table_run_of ed table start events buffer)) ×
    (bytes : List ℕ) × RecordsIn ed (table_control t) h.said bytes × AtFront bytes buffer (table_run_of ed table start events buffer).records
records-table = TableRecords.table-recorded

-- and `record_of` by itself, which `RunsAgree` cites, wherever the acting nodes rise and the values have 32 bits: so it is in those runs.
-- Ruled out: a record without its answer; one that keeps the set of the last place once the run is over.
pub record_is : {S : Type 0} (ed : Edition) (c : Control S) (o : Answered S) → ((x : S) → o.left.place ≡ some x → rising_from 0 (c.acting x) ≡ true) → All Fits32 o.left.values →
    RecordIs ed c o (record_of ed c o)
record_is ed c = RecordForms.record_is ed c

-- "Numbers and truths": the executable evaluation is just the form-by-form relation, of every expression whose variables have values; then the same of its bytes, as a run evaluates them.
-- Ruled out: a product worked out as a sum; a result of 2147483648 that does not fault.
pub evaluates-number : (vs : List ℤ) (e : Number) → NamesKnown (length vs) e → (r : Value ℤ) → (value_of vs e ≡ r) ↔ Evaluates vs e r
evaluates-number = Evaluated.evaluates-number

-- Ruled out: ≠ that is true of equal numbers, or "and" that is true where one side is; an "or" that leaves out its right side where the left is true.
pub evaluates-truth : (vs : List ℤ) (e : Truth) → TruthNamesKnown (length vs) e → (r : Value Bool) → (holds vs e ≡ r) ↔ Holds vs e r
evaluates-truth = Evaluated.evaluates-truth

-- Ruled out: an evaluation of the bytes from their end; one that takes variable 1 for variable 0.
pub evaluates-number-bytes : (ed : Edition) (vs : List ℤ) (s : List ℕ) → All (λ b. b < 256) s → (e : Number) → number_bytes ed e ≡ s → number_depth e ≤ 16 → NamesKnown (length vs) e →
    (r : Value ℤ) → (value_of_number ed vs s ≡ r) ↔ Evaluates vs e r
evaluates-number-bytes = EvaluatedBytes.evaluates-number-bytes

pub evaluates-truth-bytes : (ed : Edition) (vs : List ℤ) (s : List ℕ) → All (λ b. b < 256) s → (e : Truth) → truth_bytes ed e ≡ s → truth_depth e ≤ 16 → TruthNamesKnown (length vs) e →
    (r : Value Bool) → (value_of_truth ed vs s ≡ r) ↔ Holds vs e r
evaluates-truth-bytes = EvaluatedBytes.evaluates-truth-bytes

-- ---- demand 1: "A refused call returns .. length and counts zero and every lent buffer unwritten."
-- Ruled out: a refused run that clears its record buffer; a refused compilation that returns a length.
pub refused-compile : (ed : Edition) (file room : List ℕ) → ((compile ed file room).refusal ≡ 0 → ⊥) →
    compile ed file room ≡ record { refusal = (compile ed file room).refusal; written = 0; comparisons = 0; table = room }
refused-compile = FileCalls.refused-compile

pub refused-rule-run : (ed : Edition) (file start events buffer : List ℕ) → ((rule_run_of ed file start events buffer).refusal ≡ 0 → ⊥) →
    rule_run_of ed file start events buffer ≡ record { refusal = (rule_run_of ed file start events buffer).refusal; counts = no_counts; records = buffer }
refused-rule-run = FileCalls.refused-rule-run

pub refused-table-run : (ed : Edition) (table start events buffer : List ℕ) → ((table_run_of ed table start events buffer).refusal ≡ 0 → ⊥) →
    table_run_of ed table start events buffer ≡ record { refusal = (table_run_of ed table start events buffer).refusal; counts = no_counts; records = buffer }
refused-table-run = TableCalls.refused-table-run

pub refused-read-schedule : (ed : Edition) (file : List ℕ) → ((read_schedule ed file).refusal ≡ 0 → ⊥) →
    read_schedule ed file ≡ record { refusal = (read_schedule ed file).refusal; variables = 0; selectors = 0; nodes = 0 }
refused-read-schedule = FileCalls.refused-read-schedule

pub refused-size : (ed : Edition) (file : List ℕ) → ((size ed file).refusal ≡ 0 → ⊥) → size ed file ≡ record { refusal = (size ed file).refusal; locations = 0; entries = 0 }
refused-size = SizeCall.refused-size

pub refused-read-table : (ed : Edition) (table : List ℕ) → ((read_table_of ed table).refusal ≡ 0 → ⊥) →
    read_table_of ed table ≡ record { refusal = (read_table_of ed table).refusal; variables = 0; selectors = 0; actions = 0; locations = 0 }
refused-read-table = TableCalls.refused-read-table

pub refused-examine : (ed : Edition) (file start events table records others : List ℕ) → ((exam_of ed file start events table records others).refusal ≡ 0 → ⊥) →
    exam_of ed file start events table records others ≡ refused_exam (exam_of ed file start events table records others).refusal table records others
refused-examine = ExamHolds.exam-refused

-- the counts that the two reading calls return where they accept.
-- Ruled out: a reading call that counts equations in place of selectors; one that returns the locations' entries as locations.
pub read-schedule-result : (ed : Edition) (file : List ℕ) (s : Schedule) → judge_file ed file ≡ accepted s →
    read_schedule ed file ≡ record { refusal = 0; variables = length s.plant.variables; selectors = length (selectors s.plant); nodes = length s.nodes }
read-schedule-result ed file s = FileCalls.read-schedule-result ed file

pub read-table-result : (ed : Edition) (table : List ℕ) (t : Table) → judge_table ed table ≡ accepted t →
    read_table_of ed table ≡ record { refusal = 0; variables = length t.plant.variables; selectors = length (selectors t.plant); actions = length t.actions; locations = length t.locations }
read-table-result ed table t = TableCalls.read-table-result ed table

-- ---- demand 1: "A refused call returns the first number of the list that applies .. A number is given only where its sentence holds."
-- For each of the calls: its number is that of the first sentence that holds, or it is 0 and none does. A sentence (semantics' and schedules' Sentences) is a
-- proposition about the bytes, told by written forms and relations: no reader and no test of a call stands in it.
-- Ruled out: a compiler that refuses all; 7 given where 6 applies as well; 8 given where two modes of one CASE drive a variable; 19 given to a test that goes to its own location.
pub first-number-read-schedule : (ed : Edition) (file : List ℕ) → All (λ b. b < 256) file →
    FirstHolds (read_schedule ed file).refusal (file_clauses ed file) ⊎ (((read_schedule ed file).refusal ≡ 0) × (AnyHolds (file_clauses ed file) → ⊥))
first-number-read-schedule = FileSentences.first-read-schedule

-- the size of a schedule is refused as reading it is.
-- Ruled out: a size told for a file that reading refuses; a size that gives 13.
pub first-number-size : (ed : Edition) (file : List ℕ) → (size ed file).refusal ≡ (read_schedule ed file).refusal
first-number-size = SizeCall.size-refusal

pub first-number-compile : (ed : Edition) (file room : List ℕ) → All (λ b. b < 256) file →
    FirstHolds (compile ed file room).refusal (compile_clauses ed file room) ⊎ (((compile ed file room).refusal ≡ 0) × (AnyHolds (compile_clauses ed file room) → ⊥))
first-number-compile ed file room z = FileSentences.first-compile ed file z room

pub first-number-rule-run : (ed : Edition) (file start events buffer : List ℕ) → All (λ b. b < 256) file → All (λ b. b < 256) start →
    FirstHolds (rule_run_of ed file start events buffer).refusal (rule_run_clauses ed file start events buffer) ⊎
    (((rule_run_of ed file start events buffer).refusal ≡ 0) × (AnyHolds (rule_run_clauses ed file start events buffer) → ⊥))
first-number-rule-run ed file start events buffer z = FileSentences.first-rule-run ed file z start events buffer

pub first-number-read-table : (ed : Edition) (table : List ℕ) → All (λ b. b < 256) table →
    FirstHolds (read_table_of ed table).refusal (table_clauses ed table) ⊎ (((read_table_of ed table).refusal ≡ 0) × (AnyHolds (table_clauses ed table) → ⊥))
first-number-read-table = TableSentences.first-read-table

pub first-number-table-run : (ed : Edition) (table start events buffer : List ℕ) → All (λ b. b < 256) table → All (λ b. b < 256) start →
    FirstHolds (table_run_of ed table start events buffer).refusal (table_run_clauses ed table start events buffer) ⊎
    (((table_run_of ed table start events buffer).refusal ≡ 0) × (AnyHolds (table_run_clauses ed table start events buffer) → ⊥))
first-number-table-run = TableSentences.first-run-table

pub first-number-examine : (ed : Edition) (file start events table records others : List ℕ) → All (λ b. b < 256) file → All (λ b. b < 256) start →
    FirstHolds (exam_of ed file start events table records others).refusal (exam_clauses ed file start events table records others) ⊎
    (((exam_of ed file start events table records others).refusal ≡ 0) × (AnyHolds (exam_clauses ed file start events table records others) → ⊥))
first-number-examine = ExamHolds.exam-first

-- what a call refuses with is one number: no list has two first sentences, nor a first one where none holds.
-- Ruled out: a list of sentences under which two refusals of one input would both be right.
pub one-first : {m n : ℕ} {l : List Clause} → FirstHolds m l → FirstHolds n l → m ≡ n
one-first f g = SentenceSteps.one-first f g

pub first_holds : {n : ℕ} {l : List Clause} → FirstHolds n l → AnyHolds l
first_holds f = SentenceSteps.any-first f

-- "23..31 are per event ..; the run's steps are taken in their order": an event's answer is n of 23 to 31 exactly where n's sentence holds
-- in the situation before it, no earlier number's does, and no fault of the switch check comes first.
-- Ruled out: 29 answered while the switch check faults; 28 answered for a node that does not act.
pub first-answer : {S : Type 0} (ed : Edition) (p : Plant) (c : Control S) → Sound p c → (s : Situation S) → Standing c s → (e : List ℕ) (n : ℕ) →
    (((step ed p c s e).answer ≡ n) × (within 23 31 n ≡ true)) ↔ Decides ed p c s e n
first-answer ed p c = FirstAnswer.first-answer ed p c

-- 12: bytes are read as an expression exactly where they are its encoding, it is of depth at most 16 and its variables are known.
-- Ruled out: depth 17 taken; a difference read with its operands changed over.
pub expression-bytes-number-is : (ed : Edition) (variables : ℕ) (s : List ℕ) (e : Number) → All (λ b. b < 256) s →
    (number_in ed variables s ≡ some e) ↔ ((number_bytes ed e ≡ s) × (number_depth e ≤ 16) × NamesKnown variables e)
expression-bytes-number-is = ProperForms.number-written

pub expression-bytes-truth-is : (ed : Edition) (variables : ℕ) (s : List ℕ) (e : Truth) → All (λ b. b < 256) s →
    (truth_in ed variables s ≡ some e) ↔ ((truth_bytes ed e ≡ s) × (truth_depth e ≤ 16) × TruthNamesKnown variables e)
expression-bytes-truth-is = ProperForms.truth-written

-- so 12 takes bytes exactly where they are the encoding of some such expression.
-- Ruled out: bytes left over taken; an unknown code taken.
pub expression-bytes-number : (ed : Edition) (variables : ℕ) (s : List ℕ) → All (λ b. b < 256) s → (is_some (number_in ed variables s) ≡ true) ↔ IsNumber ed variables s
expression-bytes-number = ProperForms.number_read

pub expression-bytes-truth : (ed : Edition) (variables : ℕ) (s : List ℕ) → All (λ b. b < 256) s → (is_some (truth_in ed variables s) ≡ true) ↔ IsTruth ed variables s
expression-bytes-truth = ProperForms.truth-read

-- the nodes make just one tree, which 10 asks, exactly where they are a tree written in preorder; `reached` and `agreement` say that this tree is compiled and run.
-- Ruled out: a reader that gives up at some depth; one that leaves nodes over.
pub one_tree : (ns : List Node) (t : Tree) → (tree_of ns ≡ some t) ↔ Written t 0 ns
one_tree = OneTree.one_tree

-- 1, 2, 3 and the layouts of 4, 6 and 9: bytes are read as these variables, equations and nodes exactly where they are their written form and
-- every count, number and length lies in the limits that the paper prints (`FileLimits`).
-- Ruled out: a reader that takes at most one CASE a file; one that refuses a file of more than 255 bytes.
pub schedule-bytes : (ed : Edition) (file : List ℕ) (p : Plant) (ns : List Node) →
    (All (λ b. b < 256) file × FileReadAs ed file p ns) ↔ ((file ≡ write_file ed p ns) × FileLimits ed p ns)
schedule-bytes = FileForms.schedule-bytes

-- and 5, 7, 8, 10, 11, 34 and 12 turn none of these away but those that their sentences name (`ProperSchedule`): a file is accepted as this schedule exactly
-- where it is the written form of it.
-- Ruled out: a reader that refuses a variable which two modes of one CASE drive; one that takes a REINITIAL of a missing variable, or of one that no equation drives.
pub schedule-accepted : (ed : Edition) (file : List ℕ) (s : Schedule) → (All (λ b. b < 256) file × (judge_file ed file ≡ accepted s)) ↔ ScheduleWritten ed file s
schedule-accepted = FilesProper.schedule-accepted

-- the same of tables: 15, 16 and the layouts of 17, 18 and 19; then all of 15 to 19.
-- Ruled out: a reader that refuses a location of one entry; one that takes an entry whose node has no action.
pub table-bytes : (ed : Edition) (table : List ℕ) (t : Table) →
    (All (λ b. b < 256) table × TableReadAs ed table t) ↔ ((table ≡ write_table ed t) × TableLimits ed t)
table-bytes = TableForms.table-bytes

pub table-accepted : (ed : Edition) (table : List ℕ) (t : Table) →
    (All (λ b. b < 256) table × (judge_table ed table ≡ accepted t)) ↔ TableWritten ed table t
table-accepted = TablesProper.table-accepted

-- 20: of an accepted file, and of an accepted table, a start is let pass exactly where it is the bytes of a value in its declared range for each variable
-- and of an existing mode for each CASE; and it is read back as just these.
-- Ruled out: a test of 20 that asks for the initial modes; one that takes a value outside its range.
pub starts-admitted : (ed : Edition) (file : List ℕ) (s : Schedule) → All (λ b. b < 256) file → judge_file ed file ≡ accepted s → (start : List ℕ) (st : Start) →
    (All (λ b. b < 256) start × (start_in s.plant start ≡ some st) × (fits_start s.plant st ≡ true)) ↔ ((start ≡ start_bytes st) × StartLimits s.plant st)
starts-admitted = FilesProper.starts-admitted

pub starts-admitted-table : (ed : Edition) (table : List ℕ) (t : Table) → All (λ b. b < 256) table → judge_table ed table ≡ accepted t → (start : List ℕ) (st : Start) →
    (All (λ b. b < 256) start × (start_in t.plant start ≡ some st) × (fits_start t.plant st ≡ true)) ↔ ((start ≡ start_bytes st) × StartLimits t.plant st)
starts-admitted-table = TablesProper.starts-admitted

pub start-let-pass : (ed : Edition) (file : List ℕ) (s : Schedule) → All (λ b. b < 256) file → judge_file ed file ≡ accepted s → (start events buffer : List ℕ) →
    (All (λ b. b < 256) start × (is20 ed (some s.plant) start events buffer ≡ false)) ↔ ((st : Start) × (start ≡ start_bytes st) × StartLimits s.plant st)
start-let-pass = FilesProper.start-let-pass

-- where the inputs are bytes, so is every element that a call writes.
-- Ruled out: a length that overflows its field; a value of more than 32 bits in a record.
pub bytes-only-compile : (ed : Edition) (file room : List ℕ) → All (λ b. b < 256) file → All (λ b. b < 256) room → All (λ b. b < 256) (compile ed file room).table
bytes-only-compile = WrittenBytes.compile-bytes

pub bytes-only-rule-run : (ed : Edition) (file start events buffer : List ℕ) → All (λ b. b < 256) file → All (λ b. b < 256) start → All (λ b. b < 256) buffer →
    All (λ b. b < 256) (rule_run_of ed file start events buffer).records
bytes-only-rule-run = WrittenBytes.rule-run-bytes

pub bytes-only-table-run : (ed : Edition) (table start events buffer : List ℕ) → All (λ b. b < 256) table → All (λ b. b < 256) start → All (λ b. b < 256) buffer →
    All (λ b. b < 256) (table_run_of ed table start events buffer).records
bytes-only-table-run = TableBytes.table-run-bytes

-- the numbers of the first edition, which stand for "version 1", "64", numbers of one byte, "8 bytes" and "3 bytes" in every statement about `edition1`.
-- Ruled out: a reader of 63 nodes at most; a record whose set has 4 bytes.
pub edition-1 : (edition1.version ≡ 1) × (edition1.nodes ≡ 64) × (capacity edition1.width ≡ 256) × (edition1.set_bytes ≡ 8) × (edition1.event_bytes ≡ 3)
edition-1 = (refl, refl, refl, refl, refl)

-- the numbers of the second edition: "version byte 2", "up to 256 nodes", numbers "of two bytes", "32 bytes" and "4 bytes" of document 02, item 6. It keeps what every edition keeps.
-- Ruled out: a second edition of 255 nodes; an event of 3 bytes in it; statements over editions that only the first one meets.
pub edition-2 : (edition2.version ≡ 2) × (edition2.nodes ≡ 256) × (capacity edition2.width ≡ 65536) × (edition2.set_bytes ≡ 32) × (edition2.event_bytes ≡ 4)
edition-2 = (refl, refl, refl, refl, refl)
