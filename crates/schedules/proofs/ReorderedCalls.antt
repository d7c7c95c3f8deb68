-- Runs of two schedules that are the same but for the order of PARALLELs' children, over the calls: refusals, counts and records.
use mathlib.Core.Path.{◌≡◌, refl, sym, ap, subst, subst₂, ◌∙◌}
use mathlib.Core.List.{List, ◌++◌, flat_map, flatten}
use mathlib.Core.Option.{some}
use Prim.Native.Nat.{ℕ, ◌*◌}
use lib.ListN.{length, take, drop}
use Rattle.semantics.specs.Bytes.{All, overwrite}
use Rattle.semantics.specs.Editions.{Edition}
use Rattle.semantics.specs.Refusals.{accepted}
use Rattle.semantics.specs.Starts.{Start, start_in}
use Rattle.semantics.specs.Run.{Answered, answers, record_of, counts_from}
use Rattle.semantics.specs.Renumbering.{Corresponding, SameButNumbers, RecordsCorrespond, EitherFirstAtTicks}
use Rattle.semantics.specs.Writing.{Each}
use Rattle.semantics.specs.Calls.{Ran, record_size, table_run_of}
use Rattle.semantics.proofs.Admission.{Admits}
use Rattle.semantics.proofs.EventsCut.{flat-length}
use Rattle.semantics.proofs.RunCounts.{answers-length}
use Rattle.semantics.proofs.StartForms.{each-length}
use Rattle.semantics.proofs.CallsHold.{start-values}
use Rattle.semantics.proofs.RecordForms.{RisesAt}
use Rattle.semantics.proofs.RunRecords.{answers-rise}
use Rattle.semantics.proofs.RenumberedRuns.{same-said}
use Rattle.semantics.proofs.RenumberedRecords.{records-long, records-correspond}
use Rattle.schedules.specs.Residuals.{Residual}
use Rattle.schedules.specs.Files.{Schedule, judge_file, rule_control}
use Rattle.schedules.specs.Calls.{rule_run_of, compile}
use Rattle.schedules.specs.Reordered.{new_number, SameButOrder, RunsCorrespond}
use Rattle.schedules.specs.Independent.{begun}
use Rattle.schedules.proofs.Agreement.{agreement}
use Rattle.schedules.proofs.BranchOrder.{branch-order}
use Rattle.schedules.proofs.FirstNumber.{passed}
use Rattle.schedules.proofs.CallsHold.{sound-rules}
use Rattle.schedules.proofs.MovesByRule.{acting-rises}
use Rattle.schedules.proofs.ScheduleSound.{comes_of, root_stands}
use Rattle.schedules.proofs.RuleLists.{AllWhole, Admitted, as-many-admitted, taken-on, returned}
use Rattle.schedules.proofs.ReorderedRuns.{reordered-one-to-one, same_plant, reordered-runs}

-- wherever a run of a schedule stands, its acting nodes rise
acting-rise : (ed : Edition) (file : List ℕ) (s : Schedule) → judge_file ed file ≡ accepted s → (st : Start) (es : List (List ℕ)) →
    All (λ (a : Answered Residual). RisesAt (rule_control s) a.left.place) (answers ed s.plant (rule_control s) (begun ed s st) es)
unfolding rule_control
acting-rise ed file s h st es =
    answers-rise ed s.plant (rule_control s) (sound-rules ed file s h) (λ r k. acting-rises s.nodes s.root r (passed ed file s h).tree (comes_of s k)) (begun ed s st)
    (root_stands s st.values st.modes) es

module _ (ed : Edition) (file other : List ℕ) (o : SameButOrder ed file other) (s u : Schedule) (h : judge_file ed file ≡ accepted s) (k : judge_file ed other ≡ accepted u)
    (start buffer : List ℕ) (st : Start) (r : start_in s.plant start ≡ some st) (es fs : List (List ℕ)) (w : AllWhole ed es) (v : AllWhole ed fs)
    (same : Each (Corresponding ed (new_number o.order)) es fs) (ticks : EitherFirstAtTicks ed s.plant (rule_control s) (begun ed s st) es)
    (z : (rule_run_of ed file start (flatten es) buffer).refusal ≡ 0) where
  abbrev here : List (Answered Residual)
  here = answers ed s.plant (rule_control s) (begun ed s st) es

  abbrev there : List (Answered Residual)
  there = answers ed u.plant (rule_control u) (begun ed u st) fs

  plants : s.plant ≡ u.plant
  plants = same_plant ed file other o s u h k

  admitted : Admitted ed s start buffer es st
  admitted = taken-on ed file s h start buffer es r z

  admitted-other : Admitted ed u start buffer fs st
  admitted-other =
      let n = flat-length ed.event_bytes w ∙ ap (λ n. n * ed.event_bytes) (sym (each-length same)) ∙ sym (flat-length ed.event_bytes v) in
      subst (λ p. Admits ed p start (flatten fs) buffer st) plants (as-many-admitted ed s start buffer es fs n admitted)

  said : Each (SameButNumbers (new_number o.order) (rule_control s) (rule_control u)) here there
  said = reordered-runs ed file other o s u h k st es fs ticks same

  records : RecordsCorrespond ed (new_number o.order) (record_size ed s.plant) (length es) (overwrite (flat_map (record_of ed (rule_control s)) here) buffer)
      (overwrite (flat_map (record_of ed (rule_control u)) there) buffer)
  unfolding overwrite
  records =
      let size = record_size ed s.plant in
      let a = start-values s.plant start r in
      let b = start-values u.plant start admitted-other.starts.is_read in
      let number = new_number o.order in
      let one = flat_map (record_of ed (rule_control s)) here in
      let two = flat_map (record_of ed (rule_control u)) there in
      let long = records-long ed s.plant (rule_control s) (begun ed s st) es a.0 a.1 in
      let there-long = records-long ed u.plant (rule_control u) (begun ed u st) fs b.0 b.1 in
      let as_long = subst (λ p. All (λ q. length (record_of ed (rule_control u) q) ≡ record_size ed p) there) (sym plants) there-long in
      subst (λ n. RecordsCorrespond ed number size n (one ++ drop (length one) buffer) (two ++ drop (length two) buffer)) (answers-length ed s.plant (rule_control s) (begun ed s st) es)
      (records-correspond ed size long as_long said (drop (length one) buffer) (drop (length two) buffer) (reordered-one-to-one o.order)
      (acting-rise ed file s h st es) (acting-rise ed other u k st fs))

  -- the runs by the rules
  pub rules-correspond : RunsCorrespond ed (new_number o.order) (record_size ed s.plant) (length es) (rule_run_of ed file start (flatten es) buffer) (rule_run_of ed other start (flatten fs) buffer)
  rules-correspond = rw (returned ed file s h start buffer es w admitted, returned ed other u k start buffer fs v admitted-other)
      (record { refusal = refl; counts = ap counts_from (same-said said); records = records })

-- the runs of the tables that compiling wrote for the files
pub tables-correspond : (ed : Edition) (file other : List ℕ) (o : SameButOrder ed file other) (s u : Schedule) → judge_file ed file ≡ accepted s → judge_file ed other ≡ accepted u →
    (room : List ℕ) → (compile ed file room).refusal ≡ 0 →
    let table = take (compile ed file room).written (compile ed file room).table in
    let other-table = take (compile ed other room).written (compile ed other room).table in
    (start buffer : List ℕ) (st : Start) → start_in s.plant start ≡ some st → (es fs : List (List ℕ)) → AllWhole ed es → AllWhole ed fs →
    Each (Corresponding ed (new_number o.order)) es fs → EitherFirstAtTicks ed s.plant (rule_control s) (begun ed s st) es → (table_run_of ed table start (flatten es) buffer).refusal ≡ 0 →
    RunsCorrespond ed (new_number o.order) (record_size ed s.plant) (length es) (table_run_of ed table start (flatten es) buffer) (table_run_of ed other-table start (flatten fs) buffer)
tables-correspond ed file other o s u h k room c start buffer st r es fs w v same ticks z =
    let d = sym (branch-order ed file other room o).0 ∙ c in
    let by_one = (agreement ed file room c).same start (flatten es) buffer in
    let by-other = (agreement ed other room d).same start (flatten fs) buffer in
    subst₂ (RunsCorrespond ed (new_number o.order) (record_size ed s.plant) (length es)) by_one by-other
    (rules-correspond ed file other o s u h k start buffer st r es fs w v same ticks (ap (λ (r : Ran). r.refusal) by_one ∙ z))
