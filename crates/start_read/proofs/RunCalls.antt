-- The call of a run, for any control: what the program, the admission and the events make of it.
use mathlib.Core.Path.{◌≡◌, sym, ap, ◌∙◌}
use mathlib.Core.List.{List}
use Prim.Native.Nat.{ℕ}
use Rattle.semantics.specs.Editions.{Edition}
use Rattle.semantics.specs.Refusals.{Judged, refused, accepted}
use Rattle.semantics.specs.Calls.{Ran, Outcome, judge_admission, judge_run, report, run_from, outcome_of, Program}
use Rattle.paper.specs.Refusals.{answered}
use Rattle.start_read.specs.Admission.{admitted, values_for, modes_for}
use Rattle.start_read.specs.declared.admission.Admitted.{Admitted}
use Rattle.start_read.proofs.AdmissionLaws.{run-unread, run-refused, RunAdmitted, run-admitted}

module _ (ed : Edition) {S : Type 0} {j : Judged (Program S)} (start events d : List ℕ) where
  -- the program is refused
  pub program-refuses : {n : ℕ} → j ≡ refused n → judge_run ed j start events d ≡ refused n
  program-refuses {n} e = ap (λ j. judge_run ed j start events d) e ∙ run-unread ed S n start events d

  pub by-program : {n : ℕ} → j ≡ refused n → report d (refused n) ≡ report d (judge_run ed j start events d)
  by-program e = sym (ap (report d) (program-refuses e))

  -- the program is accepted
  module _ {g : Program S} (q : j ≡ accepted g) where
    run_is : {o : Judged Outcome} → judge_run ed (accepted g) start events d ≡ o → judge_run ed j start events d ≡ o
    run_is e = ap (λ j. judge_run ed j start events d) q ∙ e

    pub admission-refuses : {n : ℕ} → refused n ≡ answered admitted (judge_admission ed g.plant start events d) → judge_run ed j start events d ≡ refused n
    admission-refuses a = run_is (run-refused ed g start events d a)

    pub by-admission : {n : ℕ} → refused n ≡ answered admitted (judge_admission ed g.plant start events d) → report d (refused n) ≡ report d (judge_run ed j start events d)
    by-admission a = sym (ap (report d) (admission-refuses a))

    module _ {asked : Admitted} (a : accepted asked ≡ answered admitted (judge_admission ed g.plant start events d)) where
      pub run-started : RunAdmitted ed g start events d a
      run-started = run-admitted ed g start events d a

      pub run-accepts : judge_run ed j start events d ≡ accepted (outcome_of ed g.control (run_from ed g (record { values = values_for g.plant asked; modes = modes_for g.plant asked }) events))
      run-accepts = run_is run-started.judged

      pub by-events : {r : Ran} → r ≡ report d (accepted (outcome_of ed g.control (run_from ed g (record { values = values_for g.plant asked; modes = modes_for g.plant asked }) events)))
          → r ≡ report d (judge_run ed j start events d)
      by-events e = e ∙ sym (ap (report d) run-accepts)
