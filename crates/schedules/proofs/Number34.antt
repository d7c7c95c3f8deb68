-- 34 in the calls: each call over a schedule file gives it just where reading does, no call over a table gives it, and an accepted file keeps its rule.
use mathlib.Core.Path.{◌≡◌, refl, sym, ap, subst, ◌∙◌}
use mathlib.Core.Bool.{Bool, false}
use mathlib.Core.List.{List, [], ◌∷◌, ◌++◌}
use mathlib.Core.Logic.{◌↔◌}
use mathlib.Core.Option.{Option, some}
use Prim.Native.Nat.{ℕ, suc}
use borrow.Author.Tests.{not-false}
use native.Mathlib.Omega.{arith}
use lib.ListN.{get_elem?}
use Rattle.semantics.specs.Bytes.{All, every}
use Rattle.semantics.specs.Editions.{Edition}
use Rattle.semantics.specs.Refusals.{Judged, refused, accepted, ◌>>=◌, refusal_of}
use Rattle.semantics.specs.Plant.{Plant}
use Rattle.semantics.specs.Run.{no_counts}
use Rattle.semantics.specs.Calls.{judge_run, report, table_program, table_run_of, read_table_of}
use Rattle.semantics.specs.Conditions.{none_left, Condition, First, here, further, Clear, one_clear, Firsts, refuses, accepts, table_conditions, run_conditions, table_run_conditions}
use Rattle.semantics.specs.Tables.{judge_table}
use Rattle.semantics.specs.Proper.{Driven}
use Rattle.semantics.proofs.Facts.{true-not-false, by_cases, all-mem, at_mem}
use Rattle.semantics.proofs.ProperForms.{driven_is}
use Rattle.semantics.proofs.FirstNumber.{lacks, first-not, table-first, table-run-first, table-refusal, ran-refusal}
use Rattle.schedules.specs.Nodes.{Node, sequence, parallel, while_do, if_else, continue_until, reset, reinitial, switch_to, stop_all, node_parted}
use Rattle.schedules.specs.Proper.{PartedNode, Breaks, reset_of_driven, reinitial_of_undriven}
use Rattle.schedules.specs.Sentences.{FileSource, FileSourceThere, Sentence34}
use Rattle.schedules.specs.Files.{Schedule, judge_file}
use Rattle.schedules.specs.Compiling.{judge_table_of, judge_compile}
use Rattle.schedules.specs.Calls.{schedule_counts, read_schedule, size_counts, size, rule_program, rule_run_of, compiled_into, compile}
use Rattle.schedules.specs.Conditions.{file_plant, file_conditions, compile_conditions, rule_run_conditions}
use Rattle.schedules.specs.Exam.{judge_exam, refused_exam, examined, exam_of}
use Rattle.schedules.proofs.FirstNumber.{passed, file-first, compile-first, rule-run-first, schedule-refusal, compile-refusal}
use Rattle.schedules.proofs.FilesProper.{nodes-parted}
use Rattle.schedules.proofs.ExamHolds.{exam_conditions, exam-judged, exam-refusal}

-- ---- the first number of a list
one-first : {m n : ℕ} {l : List Condition} → First m l → First n l → m ≡ n
one-first (here e h) (here f k) = sym h ∙ k
one-first (here e h) (further f g) = true-not-false (sym e ∙ f)
one-first (further e f) (here g k) = true-not-false (sym g ∙ e)
one-first (further e f) (further g h) = one-first f h

none_first : {n : ℕ} {l : List Condition} → Clear l → First n l → ⊥
none_first none_left f = elim f [ ]
none_first (one_clear e k) (here f h) = true-not-false (sym f ∙ e)
none_first (one_clear e k) (further f g) = none_first k g

-- it stands in the front where it is no number of the rest
in-front : {n : ℕ} (k : List Condition) {l : List Condition} → All (λ (c : Condition). c.refusal ≡ n → ⊥) l → First n (k ++ l) → First n k
in-front [] h f = absurd (first-not h f refl)
in-front (c ∷ k) h (here e r) = here e r
in-front (c ∷ k) h (further e f) = further e (in-front k h f)

refused-with : {A : Type 0} {j : Judged A} {l : List Condition} → Firsts j l → (n : ℕ) → First n l → j ≡ refused n
refused-with (refuses f) n g = ap refused (one-first f g)
refused-with (accepts c) n g = absurd (none_first c g)

first-34 : {A : Type 0} {j : Judged A} {l : List Condition} → Firsts j l → refusal_of j ≡ 34 → First 34 l
unfolding refusal_of
first-34 {l = l} (refuses f) e = subst (λ n. First n l) e f
first-34 (accepts c) e = absurd (omega arith)

-- ---- reading
number-34 : {A : Type 0} (j : Judged A) → (refusal_of j ≡ 34) ↔ (j ≡ refused 34)
unfolding refusal_of
number-34 j = (there j, λ e. ap refusal_of e)
  where
    there : {A : Type 0} (j : Judged A) → refusal_of j ≡ 34 → j ≡ refused 34
    there (refused n) e = ap refused e
    there (accepted a) e = absurd (omega arith)

pub read-34 : (ed : Edition) (file : List ℕ) → ((read_schedule ed file).refusal ≡ 34) ↔ (judge_file ed file ≡ refused 34)
unfolding read_schedule
read-34 ed file =
    let j = judge_file ed file in
    (λ h. (number-34 j).0 (sym (schedule-refusal j) ∙ h), λ e. schedule-refusal j ∙ (number-34 j).1 e)

-- ---- every other call over a schedule file, whatever else is lent
module _ (ed : Edition) (file : List ℕ) where
  pub every-call-34 : (read_schedule ed file).refusal ≡ 34 →
      (read_schedule ed file ≡ record { refusal = 34; variables = 0; selectors = 0; nodes = 0 }) ×
      (size ed file ≡ record { refusal = 34; locations = 0; entries = 0 }) ×
      ((room : List ℕ) → compile ed file room ≡ record { refusal = 34; written = 0; comparisons = 0; table = room }) ×
      ((start events buffer : List ℕ) → rule_run_of ed file start events buffer ≡ record { refusal = 34; counts = no_counts; records = buffer }) ×
      ((start events table records others : List ℕ) → exam_of ed file start events table records others ≡ refused_exam 34 table records others)
  unfolding read_schedule schedule_counts size size_counts compile compiled_into judge_compile judge_table_of rule_run_of report judge_run rule_program exam_of examined judge_exam ◌>>=◌
  every-call-34 h =
      let e = (read-34 ed file).0 h in (
        ap schedule_counts e,
        ap size_counts e,
        λ room. rw e refl,
        λ start events buffer. rw e refl,
        λ start events table records others. rw e refl,
      )

  not-in-run : (plant : Option Plant) (start events buffer : List ℕ) → All (λ (c : Condition). c.refusal ≡ 34 → ⊥) (run_conditions ed plant start events buffer)
  unfolding every run_conditions
  not-in-run plant start events buffer = lacks 34 (run_conditions ed plant start events buffer) refl

  of_file : First 34 (file_conditions ed file) → (read_schedule ed file).refusal ≡ 34
  of_file f = (read-34 ed file).1 (refused-with (file-first ed file) 34 f)

  of-compile : (room : List ℕ) → First 34 (compile_conditions ed file room) → (read_schedule ed file).refusal ≡ 34
  unfolding every compile_conditions
  of-compile room f = of_file (in-front (file_conditions ed file) (lacks 34 _ refl) f)

  -- and none of them gives 34 of its own
  pub compile-34 : (room : List ℕ) → (compile ed file room).refusal ≡ 34 → (read_schedule ed file).refusal ≡ 34
  compile-34 room h = of-compile room (first-34 (compile-first ed file room) (sym (compile-refusal ed file room) ∙ h))

  pub rule-run-34 : (start events buffer : List ℕ) → (rule_run_of ed file start events buffer).refusal ≡ 34 → (read_schedule ed file).refusal ≡ 34
  unfolding rule_run_of rule_run_conditions
  rule-run-34 start events buffer h =
      let j = judge_run ed (rule_program ed file) start events buffer in
      of_file (in-front (file_conditions ed file) (not-in-run (file_plant ed file) start events buffer) (first-34 (rule-run-first ed file start events buffer) (sym (ran-refusal buffer j) ∙ h)))

  pub examine-34 : (start events table records others : List ℕ) → (exam_of ed file start events table records others).refusal ≡ 34 → (read_schedule ed file).refusal ≡ 34
  unfolding every exam_of exam_conditions run_conditions
  examine-34 start events table records others h =
      let j = judge_exam ed file start events table records others in
      of-compile table (in-front (compile_conditions ed file table) (lacks 34 _ refl)
      (first-34 (exam-judged ed file start events table records others) (sym (exam-refusal ed file start events table records others j) ∙ h)))

-- ---- tables
pub read-table-never-34 : (ed : Edition) (table : List ℕ) → (read_table_of ed table).refusal ≡ 34 → ⊥
unfolding every read_table_of table_conditions
read-table-never-34 ed table h =
    first-not (lacks 34 (table_conditions ed table) refl) (first-34 (table-first ed table) (sym (table-refusal (judge_table ed table)) ∙ h)) refl

pub table-run-never-34 : (ed : Edition) (table start events buffer : List ℕ) → (table_run_of ed table start events buffer).refusal ≡ 34 → ⊥
unfolding every table_run_of table_run_conditions table_conditions run_conditions
table-run-never-34 ed table start events buffer h =
    let j = judge_run ed (table_program ed table) start events buffer in
    first-not (lacks 34 (table_run_conditions ed table start events buffer) refl) (first-34 (table-run-first ed table start events buffer) (sym (ran-refusal buffer j) ∙ h)) refl

-- ---- a node that breaks the rule
failing-at : {A : Type 0} (P : A → Bool) (l : List A) → every P l ≡ false → (n : ℕ) × (x : A) × (get_elem? l n ≡ some x) × (P x ≡ false)
unfolding every
failing-at P [] h = true-not-false h
failing-at {A} P (x ∷ l) h = by_cases (P x) (λ e. behind (failing-at P l (rw (e, every) at h))) (λ e. (0, x, refl, e))
  where
    behind : (n : ℕ) × (y : A) × (get_elem? l n ≡ some y) × (P y ≡ false) → (n : ℕ) × (y : A) × (get_elem? (x ∷ l) n ≡ some y) × (P y ≡ false)
    behind q = (suc q.0, q.1, q.2, q.3)

module _ (p : Plant) {ns : List Node} where
  breaking : (x : Node) (n : ℕ) → get_elem? ns n ≡ some x → node_parted p.equations x ≡ false → Breaks p ns
  unfolding node_parted
  breaking (sequence k) n i h = true-not-false h
  breaking (parallel k) n i h = true-not-false h
  breaking (while_do t) n i h = true-not-false h
  breaking (if_else t) n i h = true-not-false h
  breaking (continue_until t) n i h = true-not-false h
  breaking (reset v e) n i h = reset_of_driven n v e i ((driven_is p.equations v).0 (not-false _ h))
  breaking (reinitial v e) n i h = reinitial_of_undriven n v e i (λ d. true-not-false (sym ((driven_is p.equations v).1 d) ∙ h))
  breaking (switch_to s m) n i h = true-not-false h
  breaking stop_all n i h = true-not-false h

  not-all : Breaks p ns → All (PartedNode p) ns → ⊥
  not-all (reset_of_driven n v e i d) a = (all-mem a (at_mem ns n i)).resets v e refl d
  not-all (reinitial_of_undriven n v e i d) a = d ((all-mem a (at_mem ns n i)).reinitials v e refl)

  one-breaks : (All (PartedNode p) ns → ⊥) → Breaks p ns
  one-breaks h = by_cases (every (node_parted p.equations) ns) (λ e. absurd (h ((nodes-parted p ns).0 e)))
      (λ e. (let q = failing-at (node_parted p.equations) ns e in breaking q.1 q.0 q.2 q.3))

-- what 34 says: some node of the file breaks the rule
pub sentence-34 : (ed : Edition) (file : List ℕ) → Sentence34 ed file ↔ ((x : FileSource) × FileSourceThere ed file x × Breaks x.plant x.nodes)
sentence-34 ed file = (λ f. (f.part, f.there, one-breaks f.part.plant f.broken), λ b. record { part = b.0; there = b.1; broken = not-all b.0.plant b.2 })

-- ---- an accepted file
pub parted : (ed : Edition) (file : List ℕ) (s : Schedule) → judge_file ed file ≡ accepted s → (n v : ℕ) (e : List ℕ) →
    (get_elem? s.nodes n ≡ some (reset v e) → Driven s.plant.equations v → ⊥) × (get_elem? s.nodes n ≡ some (reinitial v e) → Driven s.plant.equations v)
parted ed file s h n v e =
    let a = (nodes-parted s.plant s.nodes).0 (passed ed file s h).parted in
    (λ i. (all-mem a (at_mem s.nodes n i)).resets v e refl, λ i. (all-mem a (at_mem s.nodes n i)).reinitials v e refl)
