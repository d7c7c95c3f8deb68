-- What the calls over a schedule file return and leave: on a refusal nothing but the number; where they accept, what the definitions give and the rules derive.
use mathlib.Core.Path.{◌≡◌, refl, sym, ap, ap₂, subst, ◌∙◌}
use mathlib.Core.Bool.{Bool}
use mathlib.Core.List.{List}
use mathlib.Core.Option.{some}
use Prim.Native.Nat.{ℕ, ◌≤◌}
use borrow.Author.Tests.{leb-true}
use lib.ListN.{length}
use Rattle.semantics.specs.Bytes.{every, overwrite}
use Rattle.semantics.specs.Editions.{Edition}
use Rattle.semantics.specs.Refusals.{Judged, refused, accepted}
use Rattle.semantics.specs.Plant.{selectors}
use Rattle.semantics.specs.Run.{no_counts}
use Rattle.semantics.specs.Rules.{Sound}
use Rattle.semantics.specs.Records.{AtFront}
use Rattle.semantics.specs.Calls.{judge_run}
use Rattle.semantics.specs.Conditions.{Condition, run_conditions}
use Rattle.semantics.specs.Statements.{RunHolds}
use Rattle.semantics.proofs.Facts.{All}
use Rattle.semantics.proofs.Judging as Judging
use Rattle.semantics.proofs.FirstNumber.{lacks, ran-refusal}
use Rattle.semantics.proofs.RecordForms.{overwritten}
use Rattle.semantics.proofs.CallsHold.{accepted-of, run-passed, run-built, refused-run}
use Rattle.schedules.specs.Trees.{Tree}
use Rattle.schedules.specs.Residuals.{Residual, fresh}
use Rattle.schedules.specs.Reached.{Leads, stays, goes, Of}
use Rattle.schedules.specs.Files.{Schedule, judge_file, rule_control}
use Rattle.schedules.specs.Compiling.{schedule_comparisons, table_of, judge_compile}
use Rattle.schedules.specs.Calls.{read_schedule, schedule_counts, rule_program, rule_run_of, Compiled, compile, compiled_into, file_comparisons}
use Rattle.schedules.specs.Conditions.{file_schedule, file_conditions, rule_run_conditions}
use Rattle.schedules.proofs.FirstNumber.{passed, file-schedule, rule-run-first, compile-steps, compile-first, compile-refusal}
use Rattle.schedules.proofs.ResidualsKept.{of-fresh, kept-to}
use Rattle.schedules.proofs.ScheduleSound.{schedule-sound}
use Rattle.schedules.proofs.Agreement.{never-0}

-- ---- refused
compile-nothing : (n : ℕ) (buffer : List ℕ) (j : Judged (List ℕ)) → ((compiled_into n buffer j).refusal ≡ 0 → ⊥) →
    compiled_into n buffer j ≡ record { refusal = (compiled_into n buffer j).refusal; written = 0; comparisons = 0; table = buffer }
unfolding compiled_into
compile-nothing n buffer (refused k) h = refl
compile-nothing n buffer (accepted t) h = absurd (h refl)

pub refused-compile : (ed : Edition) (file room : List ℕ) → ((compile ed file room).refusal ≡ 0 → ⊥) →
    compile ed file room ≡ record { refusal = (compile ed file room).refusal; written = 0; comparisons = 0; table = room }
unfolding compile
refused-compile ed file room h = compile-nothing (file_comparisons (judge_file ed file)) room (judge_compile ed file room) h

pub refused-rule-run : (ed : Edition) (file start events buffer : List ℕ) → ((rule_run_of ed file start events buffer).refusal ≡ 0 → ⊥) →
    rule_run_of ed file start events buffer ≡ record { refusal = (rule_run_of ed file start events buffer).refusal; counts = no_counts; records = buffer }
unfolding rule_run_of
refused-rule-run ed file start events buffer h = refused-run buffer (judge_run ed (rule_program ed file) start events buffer) h

counts-nothing : (j : Judged Schedule) → ((schedule_counts j).refusal ≡ 0 → ⊥) → schedule_counts j ≡ record { refusal = (schedule_counts j).refusal; variables = 0; selectors = 0; nodes = 0 }
unfolding schedule_counts
counts-nothing (refused n) h = refl
counts-nothing (accepted s) h = absurd (h refl)

pub refused-read-schedule : (ed : Edition) (file : List ℕ) → ((read_schedule ed file).refusal ≡ 0 → ⊥) →
    read_schedule ed file ≡ record { refusal = (read_schedule ed file).refusal; variables = 0; selectors = 0; nodes = 0 }
unfolding read_schedule
refused-read-schedule ed file h = counts-nothing (judge_file ed file) h

-- ---- accepted
pub read-schedule-result : (ed : Edition) (file : List ℕ) {s : Schedule} → judge_file ed file ≡ accepted s →
    read_schedule ed file ≡ record { refusal = 0; variables = length s.plant.variables; selectors = length (selectors s.plant); nodes = length s.nodes }
unfolding read_schedule schedule_counts
read-schedule-result ed file h = rw h refl

-- the table's bytes at the front of the room, which is long enough, and the rest of it as it was
pub written-table : (ed : Edition) (file room : List ℕ) → (compile ed file room).refusal ≡ 0 →
    (s : Schedule) × (file_schedule ed file ≡ some s) × (length (table_of ed s) ≤ length room) ×
    (compile ed file room ≡ record { refusal = 0; written = length (table_of ed s); comparisons = schedule_comparisons s; table = overwrite (table_of ed s) room })
unfolding compile compiled_into file_comparisons
written-table ed file room z =
    let a = accepted-of (compile-first ed file room) (never-0 ed file room) (sym (compile-refusal ed file room) ∙ z) in
    let b = Judging.passed_then (judge_file ed file) _ (sym (compile-steps ed file room) ∙ a.1) in
    let c = Judging.passed-ensure 13 _ _ b.2 in
    let d = Judging.passed-ensure 14 _ _ c.1 in
    let e = a.1 ∙ ap accepted (sym (Judging.accepted-is d.1)) in (
      b.0,
      file-schedule ed file b.1,
      leb-true (length (table_of ed b.0)) (length room) d.0,
      ap₂ (λ (n : ℕ) (j : Judged (List ℕ)). compiled_into n room j) (ap file_comparisons b.1) e,
    )

-- the same without `overwrite`
pub table-at-front : (ed : Edition) (file room : List ℕ) → (compile ed file room).refusal ≡ 0 →
    (s : Schedule) × (file_schedule ed file ≡ some s) × ((compile ed file room).written ≡ length (table_of ed s)) × AtFront (table_of ed s) room (compile ed file room).table
table-at-front ed file room z =
    let a = written-table ed file room z in
    let e = a.3 in
    (a.0, a.1, ap (λ (c : Compiled). c.written) e, subst (AtFront (table_of ed a.0) room) (sym (ap (λ (c : Compiled). c.table) e)) (overwritten (table_of ed a.0) room a.2))

pub sound-rules : (ed : Edition) (file : List ℕ) (s : Schedule) → judge_file ed file ≡ accepted s → Sound s.plant (rule_control s)
sound-rules ed file s h = schedule-sound ed file s (passed ed file s h)

pub rule-numbers : (ed : Edition) (file start events buffer : List ℕ) → All (λ (c : Condition). c.refusal ≡ 0 → ⊥) (rule_run_conditions ed file start events buffer)
unfolding every rule_run_conditions file_conditions run_conditions
rule-numbers ed file start events buffer = lacks 0 (rule_run_conditions ed file start events buffer) refl

-- also for schedules that compiling refuses with 13
pub rule-run-holds : (ed : Edition) (file start events buffer : List ℕ) → (rule_run_of ed file start events buffer).refusal ≡ 0 →
    (s : Schedule) × (judge_file ed file ≡ accepted s) × RunHolds ed s.plant (rule_control s) start events buffer (rule_run_of ed file start events buffer)
unfolding rule_run_of rule_program
rule-run-holds ed file start events buffer z =
    let a = accepted-of (rule-run-first ed file start events buffer) (rule-numbers ed file start events buffer) (sym (ran-refusal buffer (judge_run ed (rule_program ed file) start events buffer)) ∙ z) in
    let b = run-passed ed (rule_program ed file) start events buffer a.1 in
    let c = Judging.passed_then (judge_file ed file) _ b.is_program in (
      c.0,
      c.1,
      run-built ed c.0.plant (rule_control c.0) (sound-rules ed file c.0 c.1) start events buffer (rule_program ed file) b.program (Judging.accepted-is c.2) b.st b.admits
          (a.1 ∙ ap accepted (sym b.outcome)),
    )

-- what moves lead to from the fresh root is a residual of the tree
pub reached-of : (tests : ℕ → Bool) (t : Tree) (r : Residual) → Leads tests (fresh t) r → Of t r
reached-of tests t r l = go l
  where
    go : {r : Residual} → Leads tests (fresh t) r → Of t r
    go stays = of-fresh t
    go (goes k m) = kept-to (go k) m.node m.outcome m.leads
