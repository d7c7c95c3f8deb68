-- Document 02, item 3, as theorems about the definitions: RESET and REINITIAL parted.
-- What a statement, or a group of them, rules out is named by two wrong products that it does not let by.
-- "It refuses with 34, directly after 11, a node that breaks it.": the lists of `first-number-read-schedule`, `-compile`, `-rule-run` and `-examine` have
-- `Sentence34` between 11 and 12, and `-size` is as reading; `schedule-accepted` has the rule among what an accepted file keeps (`ProperSchedule`).
-- "What is compiled and run is compared for schedules that keep this rule.": `agreement` and `examine-agrees` speak of files that compiling accepts, and these keep it.
use mathlib.Core.Path.{◌≡◌}
use mathlib.Core.Bool.{true, false}
use mathlib.Core.List.{List, [], ◌∷◌, ◌++◌}
use mathlib.Core.Logic.{◌↔◌, ◌⊎◌}
use mathlib.Core.Option.{some}
use Prim.Native.Nat.{ℕ, ◌<◌}
use lib.ListN.{get_elem?}
use Rattle.semantics.specs.Bytes.{All}
use Rattle.semantics.specs.Editions.{Edition, edition1}
use Rattle.semantics.specs.Refusals.{refused, accepted}
use Rattle.semantics.specs.Plant.{Plant, is_driven_in}
use Rattle.semantics.specs.Sections.{Rate, Switch, Mode, Equation, steady, choice}
use Rattle.semantics.specs.Run.{no_counts}
use Rattle.semantics.specs.Proper.{Driven}
use Rattle.semantics.specs.Calls.{read_table_of, table_run_of}
use Rattle.semantics.specs.K1.{k1_file}
use Rattle.semantics.proofs.DrivenPapers as DrivenPapers
use Rattle.semantics.proofs.ProperForms as ProperForms
use Rattle.schedules.specs.Nodes.{Node, sequence, parallel, while_do, if_else, continue_until, reset, reinitial, stop_all}
use Rattle.schedules.specs.Trees.{tree_of}
use Rattle.schedules.specs.Files.{Schedule, judge_file}
use Rattle.schedules.specs.Compiling.{table_of}
use Rattle.schedules.specs.Calls.{read_schedule, size, rule_run_of, compile}
use Rattle.schedules.specs.Exam.{refused_exam, exam_of}
use Rattle.schedules.specs.Writing.{write_file}
use Rattle.schedules.specs.Proper.{Breaks}
use Rattle.schedules.specs.Sentences.{FileSource, FileSourceThere, Sentence34}
use Rattle.schedules.specs.Exchanged.{exchanged_at, exchanged, OneByte}
use Rattle.schedules.specs.AssignmentExamples.{k1_reset_file, k1_plant, k1_nodes, planned, steadily, mode, rate, case_of, switch_on, resets, reinitials, number0, truth0, told, Kinds, Around}
use Rattle.schedules.proofs.ExchangedKinds as ExchangedKinds
use Rattle.schedules.proofs.Number34 as Number34
use Rattle.schedules.proofs.AcceptedKinds as Papers

-- ---- "RESET belongs to variables that no equation drives, REINITIAL to driven ones."
-- driven is a variable that an equation of kind 1 names, or a rate in any mode of a CASE (`Drives`).
-- Ruled out: a test that looks at the initial modes only; one that takes a variable at rate 0 for undriven.
pub driven_is : (es : List Equation) (v : ℕ) → (is_driven_in es v ≡ true) ↔ Driven es v
driven_is = ProperForms.driven_is

-- wherever a rate stands, in an equation of kind 1 or in any mode of any CASE, whatever the rate and whatever stands around it; a switch drives nothing.
-- Ruled out: a test that looks at the first modes or equations only; one that takes a variable with a negative rate for undriven.
pub driven-anywhere : (r : Rate) (before behind : List Equation) → is_driven_in (before ++ (steady r ∷ behind)) r.driven ≡ true
driven-anywhere = ProperForms.driven-anywhere

pub driven-in-any-mode : (r : Rate) (rs qs : List Rate) (ws : List Switch) (ms ns : List Mode) (initial : ℕ) (before behind : List Equation) →
    is_driven_in (before ++ (choice (record { initial = initial; modes = ms ++ (record { rates = rs ++ (r ∷ qs); switches = ws } ∷ ns) }) ∷ behind)) r.driven ≡ true
driven-in-any-mode = ProperForms.driven-in-any-mode

pub switch-drives-nothing : (t : List ℕ) (v : ℕ) → is_driven_in (choice (record { initial = 0; modes = record { rates = []; switches = record { target = 0; truth = t } ∷ [] } ∷ [] }) ∷ []) v ≡ false
switch-drives-nothing = DrivenPapers.switch-drives-nothing

-- 34's sentence: the file has a node that is a RESET of a driven variable or a REINITIAL of one that is not.
-- Ruled out: a sentence about the first such node's branch only; one that does not hold where two nodes break the rule.
pub sentence-34 : (ed : Edition) (file : List ℕ) → Sentence34 ed file ↔ ((x : FileSource) × FileSourceThere ed file x × Breaks x.plant x.nodes)
sentence-34 = Number34.sentence-34

-- of an accepted file every RESET's variable is driven by no equation, and every REINITIAL's by some.
-- Ruled out: a reader that looks at RESETs only; one that looks at the nodes that are reached only.
pub parted : (ed : Edition) (file : List ℕ) (s : Schedule) → judge_file ed file ≡ accepted s → (n v : ℕ) (e : List ℕ) →
    (get_elem? s.nodes n ≡ some (reset v e) → Driven s.plant.equations v → ⊥) × (get_elem? s.nodes n ≡ some (reinitial v e) → Driven s.plant.equations v)
parted = Number34.parted

-- ---- "In K1 node 1 therefore becomes kind 7; its table bytes do not alter.": kinds 6 and 7 of any node of any schedule exchanged, no byte of the table alters, nor does the tree.
-- Ruled out: a table that keeps a node's kind; a compiler that assigns on a RESET and adds to the rate on a REINITIAL.
pub exchanged-table : (ed : Edition) (n : ℕ) (s : Schedule) → table_of ed (exchanged ed n s) ≡ table_of ed s
exchanged-table = ExchangedKinds.exchanged-table

pub exchanged-tree : (n : ℕ) (ns : List Node) → tree_of (exchanged_at n ns) ≡ tree_of ns
exchanged-tree = ExchangedKinds.exchanged-tree

-- the file alters in one byte, 6 to 7 or 7 to 6: the written form of any nodes, and so every accepted file.
-- Ruled out: a REINITIAL that is written with another length; one whose number stands before its variable.
pub exchanged-byte : (ed : Edition) (p : Plant) (ns : List Node) (n v : ℕ) (e : List ℕ) →
    (get_elem? ns n ≡ some (reset v e) → OneByte 6 7 (write_file ed p ns) (write_file ed p (exchanged_at n ns))) ×
    (get_elem? ns n ≡ some (reinitial v e) → OneByte 7 6 (write_file ed p ns) (write_file ed p (exchanged_at n ns)))
exchanged-byte = ExchangedKinds.exchanged-byte

pub accepted-byte : (ed : Edition) (file : List ℕ) (s : Schedule) → All (λ b. b < 256) file → judge_file ed file ≡ accepted s → (n v : ℕ) (e : List ℕ) →
    (get_elem? s.nodes n ≡ some (reset v e) → OneByte 6 7 file (write_file ed s.plant (exchanged_at n s.nodes))) ×
    (get_elem? s.nodes n ≡ some (reinitial v e) → OneByte 7 6 file (write_file ed s.plant (exchanged_at n s.nodes)))
accepted-byte = ExchangedKinds.accepted-byte

-- so of one schedule the two kinds are never both taken: an accepted file with this one byte altered is refused with 34.
-- Ruled out: a reader that takes either kind; one that gives 9 or 12 for the altered byte.
pub exchanged-34 : (ed : Edition) (file : List ℕ) (s : Schedule) → All (λ b. b < 256) file → judge_file ed file ≡ accepted s → (n v : ℕ) (e : List ℕ) →
    (get_elem? s.nodes n ≡ some (reset v e)) ⊎ (get_elem? s.nodes n ≡ some (reinitial v e)) → judge_file ed (write_file ed s.plant (exchanged_at n s.nodes)) ≡ refused 34
exchanged-34 = ExchangedKinds.exchanged-34

-- ---- all calls that check 11 check 34: where reading a schedule gives it, so do size, compiling, the run by the rules and examining, whatever else is lent, and nothing is written.
-- Ruled out: a rule run that takes a schedule which compiling refuses with 34; an examining that gives 14 or 22 first, or a length.
pub read-34 : (ed : Edition) (file : List ℕ) → ((read_schedule ed file).refusal ≡ 34) ↔ (judge_file ed file ≡ refused 34)
read-34 = Number34.read-34

pub every-call-34 : (ed : Edition) (file : List ℕ) → (read_schedule ed file).refusal ≡ 34 →
    (read_schedule ed file ≡ record { refusal = 34; variables = 0; selectors = 0; nodes = 0 }) ×
    (size ed file ≡ record { refusal = 34; locations = 0; entries = 0 }) ×
    ((room : List ℕ) → compile ed file room ≡ record { refusal = 34; written = 0; comparisons = 0; table = room }) ×
    ((start events buffer : List ℕ) → rule_run_of ed file start events buffer ≡ record { refusal = 34; counts = no_counts; records = buffer }) ×
    ((start events table records others : List ℕ) → exam_of ed file start events table records others ≡ refused_exam 34 table records others)
every-call-34 = Number34.every-call-34

-- and they give it nowhere else (size: `first-number-size`).
-- Ruled out: a compiler that gives 34 for a schedule with too many locations; a run that gives 34 where its start is wrong.
pub only-as-reading : (ed : Edition) (file : List ℕ) →
    ((room : List ℕ) → (compile ed file room).refusal ≡ 34 → (read_schedule ed file).refusal ≡ 34) ×
    ((start events buffer : List ℕ) → (rule_run_of ed file start events buffer).refusal ≡ 34 → (read_schedule ed file).refusal ≡ 34) ×
    ((start events table records others : List ℕ) → (exam_of ed file start events table records others).refusal ≡ 34 → (read_schedule ed file).refusal ≡ 34)
only-as-reading ed file = (Number34.compile-34 ed file, Number34.rule-run-34 ed file, Number34.examine-34 ed file)

-- a table's action does not tell its kind: reading a table and running one never give 34, whatever the bytes.
-- Ruled out: a table reader that refuses with 34 an assignment of a variable that no equation drives; a table run that gives 34 in place of 18.
pub tables-never-34 : ((ed : Edition) (table : List ℕ) → (read_table_of ed table).refusal ≡ 34 → ⊥) ×
    ((ed : Edition) (table start events buffer : List ℕ) → (table_run_of ed table start events buffer).refusal ≡ 34 → ⊥)
tables-never-34 = (Number34.read-table-never-34, Number34.table-run-never-34)

-- ---- papers: the number that reading returns
-- K1 with node 1 of kind 6, as document 01 prints it, and of kind 7
-- Ruled out: a reader that takes both; one that refuses both.
pub K1-kind-6 : told k1_reset_file ≡ 34
K1-kind-6 = Papers.K1-kind-6

pub K1-kind-7 : told k1_file ≡ 0
K1-kind-7 = Papers.K1-kind-7

pub K1-one-byte : OneByte 6 7 k1_reset_file k1_file
K1-one-byte = Papers.K1-one-byte

pub K1-exchanged : (k1_reset_file ≡ write_file edition1 k1_plant (exchanged_at 1 k1_nodes)) × (k1_file ≡ write_file edition1 k1_plant (exchanged_at 1 (exchanged_at 1 k1_nodes)))
K1-exchanged = Papers.K1-exchanged

-- a RESET alone and a REINITIAL alone: the variable is driven by an equation of kind 1, by none, another variable is, the last equation drives it
-- Ruled out: a reader that looks at RESETs only; one that takes all variables for driven where there is an equation, or looks at the first equation only.
pub kind-1-drives : Kinds (steadily 0 1 ∷ []) 34 0
kind-1-drives = Papers.kind-1-drives

pub no-equation : Kinds [] 0 34
no-equation = Papers.no-equation

pub other-variable : Kinds (steadily 1 1 ∷ steadily 2 1 ∷ []) 0 34
other-variable = Papers.other-variable

pub last-equation : Kinds (steadily 1 1 ∷ case_of 0 (mode (rate 2 1 ∷ []) [] ∷ []) ∷ steadily 0 1 ∷ []) 34 0
last-equation = Papers.last-equation

-- a rate in any mode of a CASE, the initial one or not; rate 0 drives, too
-- Ruled out: a reader that looks at the rates of the initial mode, or of mode 0, only; one that takes a variable at rate 0 for undriven.
pub other-mode : Kinds (case_of 0 (mode [] [] ∷ mode (rate 0 1 ∷ []) [] ∷ []) ∷ []) 34 0
other-mode = Papers.other-mode

pub initial-mode : Kinds (case_of 0 (mode (rate 0 1 ∷ []) [] ∷ mode [] [] ∷ []) ∷ []) 34 0
initial-mode = Papers.initial-mode

pub mode-before-initial : Kinds (case_of 1 (mode (rate 1 1 ∷ rate 0 1 ∷ []) [] ∷ mode (rate 1 1 ∷ []) [] ∷ []) ∷ []) 34 0
mode-before-initial = Papers.mode-before-initial

pub second-case : Kinds (case_of 0 (mode (rate 1 1 ∷ []) [] ∷ []) ∷ case_of 0 (mode [] [] ∷ mode (rate 0 1 ∷ []) [] ∷ []) ∷ []) 34 0
second-case = Papers.second-case

pub rate-0 : Kinds (steadily 0 0 ∷ []) 34 0
rate-0 = Papers.rate-0

pub rate-0-in-a-mode : Kinds (case_of 0 (mode [] [] ∷ mode (rate 0 0 ∷ []) [] ∷ []) ∷ []) 34 0
rate-0-in-a-mode = Papers.rate-0-in-a-mode

-- a variable that only stands in a switch's truth, in another node's truth or in another node's number is not driven
-- Ruled out: a reader that takes every variable of a CASE for driven; one that takes a variable for driven which another node reads.
pub in-a-switch : Kinds (case_of 0 (mode (rate 1 1 ∷ []) (switch_on truth0 ∷ []) ∷ []) ∷ []) 0 34
in-a-switch = Papers.in-a-switch

pub in-a-truth : Around (λ es x. planned es (sequence 2 ∷ continue_until truth0 ∷ x ∷ [])) 34 0
in-a-truth = Papers.in-a-truth

pub in-a-number : Around (λ es x. planned es (sequence 2 ∷ x ∷ reset 1 number0 ∷ [])) 34 0
in-a-number = Papers.in-a-number

-- reached or not, at whatever depth, the last of several nodes and the first
-- Ruled out: a reader that leaves out what stands behind a STOP; one that looks at the root's children, or at the first assignment, only.
pub after_stop : Around (λ es x. planned es (sequence 2 ∷ stop_all ∷ x ∷ [])) 34 0
after_stop = Papers.after_stop

pub inside : Around (λ es x. planned es (parallel 2 ∷ while_do truth0 ∷ if_else truth0 ∷ x ∷ stop_all ∷ stop_all ∷ [])) 34 0
inside = Papers.inside

pub last-of-many : Around (λ es x. planned (steadily 1 1 ∷ es) (sequence 4 ∷ reinitials 1 ∷ resets 2 ∷ reinitials 1 ∷ x ∷ [])) 34 0
last-of-many = Papers.last-of-many

pub first-of-many : Around (λ es x. planned (steadily 1 1 ∷ es) (sequence 3 ∷ x ∷ resets 2 ∷ reinitials 1 ∷ [])) 34 0
first-of-many = Papers.first-of-many

-- two nodes that break it, of both kinds in either order and of one kind
-- Ruled out: a reader for which two wrongs cancel out; one that gives 12 where several nodes break the rule.
pub two-break : (let file : Node → Node → List ℕ = λ x y. planned (steadily 1 1 ∷ []) (sequence 2 ∷ x ∷ y ∷ []) in
    (told (file (reinitials 0) (resets 1)) ≡ 34) × (told (file (resets 1) (reinitials 0)) ≡ 34)
    × (told (file (resets 1) (resets 1)) ≡ 34) × (told (file (reinitials 0) (reinitials 2)) ≡ 34))
two-break = Papers.two-break

-- 10 and 11 of any node come first, whichever stands in front; a REINITIAL of a missing variable, which nothing drives, is 11
-- Ruled out: a reader that goes node by node, 11 and then 34 of each; 34 before 10, or for a missing variable.
pub no-tree : Around (λ es x. planned es (x ∷ stop_all ∷ [])) 10 10
no-tree = Papers.no-tree

pub missing-behind : Around (λ es x. planned es (sequence 2 ∷ x ∷ resets 3 ∷ [])) 11 11
missing-behind = Papers.missing-behind

pub missing-before : Around (λ es x. planned es (sequence 2 ∷ resets 3 ∷ x ∷ [])) 11 11
missing-before = Papers.missing-before

pub missing-itself : (told (planned [] (reinitials 3 ∷ [])) ≡ 11) × (told (planned (steadily 0 1 ∷ []) (reinitials 3 ∷ [])) ≡ 11) × (told (planned [] (resets 3 ∷ [])) ≡ 11)
missing-itself = Papers.missing-itself

-- 12 of anything comes after: of a node in front or behind, of a switch, of the node itself
-- Ruled out: 34 after 12; 12 of a switch first, since it stands before the nodes.
pub unread-before : Around (λ es x. planned es (sequence 2 ∷ continue_until [] ∷ x ∷ [])) 34 12
unread-before = Papers.unread-before

pub unread-behind : Around (λ es x. planned es (sequence 2 ∷ x ∷ reset 1 [] ∷ [])) 34 12
unread-behind = Papers.unread-behind

pub unread-switch : Around (λ es x. planned (case_of 0 (mode [] (switch_on [] ∷ []) ∷ []) ∷ es) (x ∷ [])) 34 12
unread-switch = Papers.unread-switch

pub unread-itself : (told (planned (steadily 0 1 ∷ []) (reset 0 [] ∷ [])) ≡ 34) × (told (planned (steadily 0 1 ∷ []) (reinitial 0 [] ∷ [])) ≡ 12)
    × (told (planned [] (reset 0 [] ∷ [])) ≡ 12) × (told (planned [] (reinitial 0 [] ∷ [])) ≡ 34)
unread-itself = Papers.unread-itself
