-- A run by the rules over a list of whole events: what it is admitted with, and what it returns.
use mathlib.Core.Path.{◌≡◌, sym, ap, subst, ◌∙◌}
use mathlib.Core.List.{List, flat_map, flatten}
use mathlib.Core.Option.{some}
use Prim.Native.Nat.{ℕ}
use lib.ListN.{length}
use Rattle.semantics.specs.Bytes.{All, overwrite}
use Rattle.semantics.specs.Editions.{Edition}
use Rattle.semantics.specs.Refusals.{accepted}
use Rattle.semantics.specs.Starts.{Start, start_in}
use Rattle.semantics.specs.Run.{answers, record_of, answers_in, counts_from}
use Rattle.semantics.specs.Calls.{Program, outcome_of, run_from, judge_run, report, whole_events, event_count, room_for_records}
use Rattle.semantics.proofs.Facts.{some_is}
use Rattle.semantics.proofs.Judging as Judging
use Rattle.semantics.proofs.Admission.{Admits, admission-judged}
use Rattle.semantics.proofs.EventsCut.{events-cut}
use Rattle.semantics.proofs.CallsHold.{accepted-of, run-passed}
use Rattle.semantics.proofs.FirstNumber.{ran-refusal}
use Rattle.schedules.specs.Residuals.{Residual}
use Rattle.schedules.specs.Files.{Schedule, judge_file, rule_control}
use Rattle.schedules.specs.Calls.{rule_program, rule_run_of}
use Rattle.schedules.specs.Independent.{begun}
use Rattle.schedules.proofs.FirstNumber.{rule-run-first}
use Rattle.schedules.proofs.CallsHold.{rule-numbers}

abbrev pub AllWhole : Edition → List (List ℕ) → Type 0
AllWhole ed es = All (λ e. length e ≡ ed.event_bytes) es

module _ (ed : Edition) (s : Schedule) (start buffer : List ℕ) where
  -- 20 to 22 let the list pass, from this start
  abbrev pub Admitted : List (List ℕ) → Start → Type 0
  Admitted es st = Admits ed s.plant start (flatten es) buffer st

  -- as many events are admitted, whichever they are
  pub as-many-admitted : (es fs : List (List ℕ)) {st : Start} → length (flatten es) ≡ length (flatten fs) → Admitted es st → Admitted fs st
  unfolding whole_events room_for_records event_count
  as-many-admitted es fs e a = record { starts = a.starts; whole = rw (sym e) a.whole; room = rw (sym e) a.room }

module _ (ed : Edition) (file : List ℕ) (s : Schedule) (h : judge_file ed file ≡ accepted s) (start buffer : List ℕ) where
  is_program : rule_program ed file ≡ accepted (record { plant = s.plant; control = rule_control s })
  unfolding rule_program
  is_program = Judging.go-then _ h

  -- a run that is not refused was admitted
  pub taken-on : (es : List (List ℕ)) {st : Start} → start_in s.plant start ≡ some st → (rule_run_of ed file start (flatten es) buffer).refusal ≡ 0 → Admitted ed s start buffer es st
  unfolding rule_run_of
  taken-on es k z =
      let events = flatten es in
      let j = judge_run ed (rule_program ed file) start events buffer in
      let a = accepted-of (rule-run-first ed file start events buffer) (rule-numbers ed file start events buffer) (sym (ran-refusal buffer j) ∙ z) in
      let b = run-passed ed (rule_program ed file) start events buffer a.1 in
      let e = Judging.accepted-is (sym b.is_program ∙ is_program) in
      let c = subst (λ (g : Program Residual). Admits ed g.plant start events buffer b.st) e b.admits in
      subst (Admitted ed s start buffer es) (some_is (sym c.starts.is_read ∙ k)) c

  -- and one that was admitted returns this
  pub returned : (es : List (List ℕ)) {st : Start} → AllWhole ed es → Admitted ed s start buffer es st →
      let said = answers ed s.plant (rule_control s) (begun ed s st) es in
      rule_run_of ed file start (flatten es) buffer ≡ record { refusal = 0; counts = counts_from (answers_in said); records = overwrite (flat_map (record_of ed (rule_control s)) said) buffer }
  unfolding rule_run_of judge_run report outcome_of run_from rule_control
  returned es {st} w a =
      ap (report buffer) (Judging.go-then _ is_program ∙ Judging.go-then _ (admission-judged ed s.plant start (flatten es) buffer a))
      ∙ ap (λ es. report buffer (accepted (outcome_of ed (rule_control s) (answers ed s.plant (rule_control s) (begun ed s st) es)))) (events-cut ed es w)
