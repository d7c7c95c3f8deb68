-- Demand 3: the table of an accepted schedule is accepted, and the run by the rules and the run of the table write the same, which the rule-by-rule relation derives.
use mathlib.Core.Path.{◌≡◌, refl, sym, ap, subst, ◌∙◌}
use mathlib.Core.Bool.{Bool, true, false}
use mathlib.Core.List.{List}
use mathlib.Core.Logic.{◌⊎◌, inl, inr}
use mathlib.Core.Option.{Option, none, some}
use Prim.Native.Nat.{ℕ, ◌*◌, ◌≤◌}
use borrow.Author.Tests.{leb-true, not-false}
use lib.ListN.{length, take, drop}
use lib.Seq.{take-append_seam}
use Rattle.semantics.specs.Bytes.{every, overwrite}
use Rattle.semantics.specs.Editions.{Edition}
use Rattle.semantics.specs.Refusals.{Judged, refused, accepted, ◌>>=◌}
use Rattle.semantics.specs.Events.{events_in}
use Rattle.semantics.specs.Plant.{Plant, selectors}
use Rattle.semantics.specs.Starts.{Start, start_in, fits_start}
use Rattle.semantics.specs.Run.{Action, possible, is_test, Control, Situation, Answered, at, answers, counts_from}
use Rattle.semantics.specs.TableFile.{location_limit}
use Rattle.semantics.specs.Tables.{judge_table, table_control, action_or_stop}
use Rattle.semantics.specs.Calls.{Program, outcome_of, run_from, judge_admission, judge_run, report, table_program, table_run_of, table_counts_of, read_table_of, whole_events, event_count, record_size, room_for_records}
use Rattle.semantics.specs.Conditions.{Condition, given, is20, is21, is22}
use Rattle.semantics.proofs.Facts.{true-not-false, All}
use Rattle.semantics.proofs.Judging as Judging
use Rattle.semantics.proofs.Admission.{Starts, admission-judged}
use Rattle.semantics.proofs.EventsCut.{events-length}
use Rattle.semantics.proofs.CallsHold.{start-values}
use Rattle.semantics.proofs.Simulation.{Agree, runs-agree}
use Rattle.semantics.proofs.RunCounts.{counts-sum, written-length}
use Rattle.semantics.proofs.FirstNumber.{Firsts, refuses, lacks, first-not}
use Rattle.semantics.proofs.StepRules.{answers-derived}
pub use Rattle.schedules.specs.Agreement.{RunsAgree, Agrees}
use Rattle.schedules.specs.Nodes.{actions_of}
use Rattle.schedules.specs.Residuals.{Residual, fresh, same?}
use Rattle.schedules.specs.Files.{Schedule, judge_file, rule_control}
use Rattle.schedules.specs.Compiling.{tests_of, schedule_locations, table_of, judge_compile}
use Rattle.schedules.specs.Calls.{rule_program, rule_run_of, compiled_into, file_comparisons, compile}
use Rattle.schedules.specs.Conditions.{file_conditions, compile_conditions}
use Rattle.schedules.proofs.FirstNumber.{passed, file-schedule, compile-steps, compile-first}
use Rattle.schedules.proofs.OneTree.{one_tree}
use Rattle.schedules.proofs.Numbered.{number_found, number-exists}
use Rattle.schedules.proofs.Reached.{reached, closed-under}
use Rattle.schedules.proofs.ScheduleSound.{schedule-sound, root_stands}
use Rattle.schedules.proofs.TableAgrees.{table_for, table-agrees}
use Rattle.schedules.proofs.TableAccepted.{table-accepted}

-- ---- 20 to 22 passed
starts : (ed : Edition) (p : Plant) (start events buffer : List ℕ) → is20 ed (some p) start events buffer ≡ false → (st : Start) × Starts p start st
unfolding is20 given
starts ed p start events buffer h = go (start_in p start) refl (not-false _ h)
  where
    go : (o : Option Start) → start_in p start ≡ o → given o (fits_start p) ≡ true → (st : Start) × Starts p start st
    go none e h = true-not-false (sym h)
    go (some st) e h = (st, record { is_read = e; fits = h })

-- a run whose start, events and buffer are let pass is accepted with its outcome
module _ {S : Type 0} (ed : Edition) (p : Plant) (c : Control S) (start events buffer : List ℕ) {st : Start} (b : Starts p start st) where
  accepted-run : {j : Judged (Program S)} → j ≡ accepted (record { plant = p; control = c }) →
      whole_events ed.event_bytes events ≡ true → room_for_records ed p events buffer ≡ true →
      judge_run ed j start events buffer ≡ accepted (outcome_of ed c (run_from ed (record { plant = p; control = c }) st events))
  unfolding judge_run
  accepted-run h w r = Judging.go-then _ h ∙ Judging.go-then _ (admission-judged ed p start events buffer (record { starts = b; whole = w; room = r }))

outcomes : (a : Action) (b : Bool) → possible a b ≡ true → (b ≡ true) ⊎ (is_test a ≡ true)
unfolding possible
outcomes a true c = inl refl
outcomes a false c = inr c

-- two programs over one plant, whose outcomes are the same from every start
judged-same : {S R : Type 0} (ed : Edition) (p : Plant) (c : Control S) (d : Control R) (start events buffer : List ℕ) →
    ((st : Start) → outcome_of ed c (run_from ed (record { plant = p; control = c }) st events) ≡ outcome_of ed d (run_from ed (record { plant = p; control = d }) st events)) →
    judge_run ed (accepted (record { plant = p; control = c })) start events buffer ≡ judge_run ed (accepted (record { plant = p; control = d })) start events buffer
unfolding judge_run ◌>>=◌
judged-same ed p c d start events buffer h = go (judge_admission ed p start events buffer)
  where
    go : (j : Judged Start) → (j >>= λ st. accepted (outcome_of ed c (run_from ed (record { plant = p; control = c }) st events))) ≡ (j >>= λ st. accepted (outcome_of ed d (run_from ed (record { plant = p; control = d }) st events)))
    go (refused n) = refl
    go (accepted st) = ap accepted (h st)

-- ---- a schedule that compiling takes
module _ (ed : Edition) (file : List ℕ) (s : Schedule) (h : judge_file ed file ≡ accepted s) (fits : length (schedule_locations s) ≤ location_limit) where
  rule-program : rule_program ed file ≡ accepted (record { plant = s.plant; control = rule_control s })
  unfolding rule_program
  rule-program = Judging.go-then _ h

  pub table-judged : judge_table ed (table_of ed s) ≡ accepted (table_for s)
  table-judged = table-accepted ed file s (passed ed file s h) fits

  table-program : table_program ed (table_of ed s) ≡ accepted (record { plant = s.plant; control = table_control (table_for s) })
  unfolding table_program table_for
  table-program = Judging.go-then _ table-judged

  controls-agree : Agree (rule_control s) (table_control (table_for s)) (λ r k. lib.ListN.get_elem? (schedule_locations s) k ≡ some r)
  unfolding schedule_locations tests_of
  controls-agree = table-agrees s fits (reached (tests_of s.nodes) s.root fits).first
      (λ x y n b m i c e. closed-under (tests_of s.nodes) s.root fits m (record { node = n; outcome = b; is_acting = i; can = outcomes (action_or_stop (actions_of s.nodes) n) b c; leads = e }))
      (λ x k e. number_found same? x (schedule_locations s) k e) (λ x m. number-exists same? m)

  -- whatever is lent, both calls go the same way
  pub same_runs : (start events buffer : List ℕ) → rule_run_of ed file start events buffer ≡ table_run_of ed (table_of ed s) start events buffer
  unfolding rule_run_of table_run_of run_from rule_control
  same_runs start events buffer = ap (report buffer)
      (ap (λ j. judge_run ed j start events buffer) rule-program
      ∙ judged-same ed s.plant (rule_control s) (table_control (table_for s)) start events buffer
      (λ st. runs-agree ed s.plant controls-agree st.values st.modes (events_in ed.event_bytes (event_count ed events) events))
      ∙ sym (ap (λ j. judge_run ed j start events buffer) table-program))

  -- both runs come to one outcome
  module _ (start events by_rules by_table : List ℕ) {st : Start} (b : Starts s.plant start st) (w : whole_events ed.event_bytes events ≡ true)
      (room : room_for_records ed s.plant events by_rules ≡ true) (room-too : room_for_records ed s.plant events by_table ≡ true) where
    abbrev begin : Situation Residual
    begin = at (fresh s.root) st.values st.modes

    abbrev es : List (List ℕ)
    es = events_in ed.event_bytes (event_count ed events) events

    abbrev told : List (Answered Residual)
    told = answers ed s.plant (rule_control s) begin es

    by-the-rules : rule_run_of ed file start events by_rules ≡ report by_rules (accepted (outcome_of ed (rule_control s) told))
    unfolding rule_run_of run_from rule_control
    by-the-rules = ap (report by_rules) (accepted-run ed s.plant (rule_control s) start events by_rules b rule-program w room)

    by-the-table : table_run_of ed (table_of ed s) start events by_table ≡ report by_table (accepted (outcome_of ed (rule_control s) told))
    unfolding table_run_of run_from rule_control
    by-the-table = ap (report by_table) (accepted-run ed s.plant (table_control (table_for s)) start events by_table b table-program w room-too
        ∙ ap accepted (sym (runs-agree ed s.plant controls-agree st.values st.modes es)))

    lengths : (length st.values ≡ length s.plant.variables) × (length st.modes ≡ length (selectors s.plant))
    lengths = start-values s.plant start b.is_read

    both-agree : RunsAgree ed s st events by_rules by_table (rule_run_of ed file start events by_rules) (table_run_of ed (table_of ed s) start events by_table)
    unfolding report outcome_of counts_from
    both-agree = rw (by-the-rules, by-the-table) (record {
      rules_taken_on = refl;
      table_taken_on = refl;
      said = told;
      derived = answers-derived ed s.plant (rule_control s) (schedule-sound ed file s (passed ed file s h)) begin (root_stands s st.values st.modes) es;
      rules_records = refl;
      table_records = refl;
      records_length = written-length ed s.plant (rule_control s) begin es lengths.0 lengths.1 ∙ ap (λ n. n * record_size ed s.plant) (events-length ed.event_bytes (event_count ed events) events);
      rules_counts = refl;
      table_counts = refl;
      counts_add = counts-sum ed s.plant (rule_control s) begin es ∙ events-length ed.event_bytes (event_count ed events) events;
    })

-- ---- no refusal has the number 0
pub never-0 : (ed : Edition) (file buffer : List ℕ) → All (λ (c : Condition). c.refusal ≡ 0 → ⊥) (compile_conditions ed file buffer)
unfolding every compile_conditions file_conditions
never-0 ed file buffer = lacks 0 (compile_conditions ed file buffer) refl

-- what compiling accepted: the schedule, and its locations are no more than a table may hold
pub record Taken (ed : Edition) (file buffer table : List ℕ) : Type 0 where
  pub of : Schedule
  pub of_file : judge_file ed file ≡ accepted of
  pub few : length (schedule_locations of) ≤ location_limit
  pub is_table : table_of ed of ≡ table

pub compile-taken : (ed : Edition) (file buffer : List ℕ) {t : List ℕ} → judge_compile ed file buffer ≡ accepted t → Taken ed file buffer t
compile-taken ed file buffer h =
    let a = Judging.passed_then (judge_file ed file) _ (sym (compile-steps ed file buffer) ∙ h) in
    let b = Judging.passed-ensure 13 _ _ a.2 in
    let c = Judging.passed-ensure 14 _ _ b.1 in
    record { of = a.0; of_file = a.1; few = leb-true (length (schedule_locations a.0)) location_limit b.0; is_table = Judging.accepted-is c.1 }

-- what holds of the table of every accepted schedule holds of the bytes that compiling wrote
pub of-written : (ed : Edition) (file room : List ℕ) (P : List ℕ → Type 0) → ((s : Schedule) → judge_file ed file ≡ accepted s → length (schedule_locations s) ≤ location_limit → P (table_of ed s)) →
    (compile ed file room).refusal ≡ 0 → P (take (compile ed file room).written (compile ed file room).table)
unfolding compile compiled_into overwrite
of-written ed file room P holds = go (judge_compile ed file room) refl (compile-first ed file room)
  where
    go : (j : Judged (List ℕ)) → judge_compile ed file room ≡ j → Firsts j (compile_conditions ed file room) → (compiled_into (file_comparisons (judge_file ed file)) room j).refusal ≡ 0 →
        P (take (compiled_into (file_comparisons (judge_file ed file)) room j).written (compiled_into (file_comparisons (judge_file ed file)) room j).table)
    go (refused n) e (refuses f) z = absurd (first-not (never-0 ed file room) f z)
    go (accepted t) e f z =
        let k = compile-taken ed file room e in
        rw (take-append_seam t (drop (length t) room)) (subst P k.is_table (holds k.of k.of_file k.few))

table-agreement : (ed : Edition) (file : List ℕ) (s : Schedule) → judge_file ed file ≡ accepted s → length (schedule_locations s) ≤ location_limit → Agrees ed file (table_of ed s)
unfolding read_table_of table_counts_of is21 is22 given
table-agreement ed file s h fits = record {
  table_read = ap (λ j. (table_counts_of j).refusal) (table-judged ed file s h fits);
  schedule = s;
  schedule_read = h;
  of_file = file-schedule ed file h;
  tree = (one_tree s.nodes s.root).0 (passed ed file s h).tree;
  same = same_runs ed file s h fits;
  runs = λ start events by_rules by_table c20 c21 c22 d22.
      let b = starts ed s.plant start events by_rules c20 in
      (b.0, b.1.is_read, both-agree ed file s h fits start events by_rules by_table b.1 (not-false _ c21) (not-false _ c22) (not-false _ d22));
}

-- demand 3, for every file, every room lent for its table, and then every start, every list of events and every two record buffers
pub agreement : (ed : Edition) (file buffer : List ℕ) → (compile ed file buffer).refusal ≡ 0 →
    Agrees ed file (take (compile ed file buffer).written (compile ed file buffer).table)
agreement ed file buffer = of-written ed file buffer (Agrees ed file) (table-agreement ed file)
