-- Demand 3 for every valuation within the declared ranges and every choice of existing modes.
use mathlib.Core.Path.{◌≡◌, refl, sym, ap, subst, ◌∙◌}
use mathlib.Core.Bool.{false, not}
use mathlib.Core.List.{List}
use mathlib.Core.Option.{some}
use Prim.Native.Nat.{ℕ, ◌*◌, ◌≤◌}
use borrow.Author.Tests.{le-leb}
use lib.Dec.{leb}
use lib.IntN.{ℤ}
use lib.ListN.{length, take}
use Rattle.semantics.specs.Editions.{Edition}
use Rattle.semantics.specs.Plant.{Plant, selectors}
use Rattle.semantics.specs.Starts.{Start}
use Rattle.semantics.specs.Calls.{record_size, room_for_records, table_run_of}
use Rattle.semantics.specs.Conditions.{given, is21, is22}
use Rattle.semantics.specs.Rules.{InRange}
use Rattle.semantics.specs.Writing.{AllBytes, start_bytes, Each, HasMode}
use Rattle.semantics.proofs.Facts.{some_is}
use Rattle.semantics.proofs.EventsCut.{event-count}
use Rattle.semantics.proofs.TableSentences.{whole-events}
use Rattle.schedules.specs.Files.{Schedule}
use Rattle.schedules.specs.Calls.{rule_run_of, compile}
use Rattle.schedules.specs.Proper.{ScheduleWritten}
use Rattle.schedules.specs.Agreement.{RunsAgree}
use Rattle.schedules.proofs.FilesProper.{schedule-accepted, starts-admitted, start-let-pass}
use Rattle.schedules.proofs.Agreement.{agreement}

no-21 : (ed : Edition) (p : Plant) (start events buffer : List ℕ) (n : ℕ) → length events ≡ n * ed.event_bytes → is21 ed (some p) start events buffer ≡ false
unfolding is21
no-21 ed p start events buffer n e = ap not ((whole-events ed.event_bytes events).1 (n, e))

no-22 : (ed : Edition) (p : Plant) (start events buffer : List ℕ) (n : ℕ) → length events ≡ n * ed.event_bytes → n * record_size ed p ≤ length buffer → is22 ed (some p) start events buffer ≡ false
unfolding is22 given room_for_records
no-22 ed p start events buffer n e h = ap (λ c. not (leb (c * record_size ed p) (length buffer))) (event-count ed events n e) ∙ ap not (le-leb (n * record_size ed p) (length buffer) h)

pub every-start : (ed : Edition) (file room : List ℕ) → AllBytes file → (compile ed file room).refusal ≡ 0 →
    (s : Schedule) × ScheduleWritten ed file s × ((values : List ℤ) (modes : List ℕ) → Each InRange s.plant.variables values → Each HasMode (selectors s.plant) modes →
    (events by_rules by_table : List ℕ) (n : ℕ) → length events ≡ n * ed.event_bytes → n * record_size ed s.plant ≤ length by_rules → n * record_size ed s.plant ≤ length by_table →
    RunsAgree ed s (record { values = values; modes = modes }) events by_rules by_table (rule_run_of ed file (start_bytes (record { values = values; modes = modes })) events by_rules)
    (table_run_of ed (take (compile ed file room).written (compile ed file room).table) (start_bytes (record { values = values; modes = modes })) events by_table))
every-start ed file room z h =
    let a = agreement ed file room h in
    let s = a.schedule in (
      s,
      (schedule-accepted ed file s).0 (z, a.schedule_read),
      λ values modes v m events by_rules by_table n e i j.
          let st : Start = record { values = values; modes = modes } in
          let start = start_bytes st in
          let back = (starts-admitted ed file s z a.schedule_read start st).1 (refl, record { values = v; modes = m }) in
          let pass = (start-let-pass ed file s z a.schedule_read start events by_rules).1 (st, refl, record { values = v; modes = m }) in
          let r = a.runs start events by_rules by_table pass.1 (no-21 ed s.plant start events by_rules n e) (no-22 ed s.plant start events by_rules n e i) (no-22 ed s.plant start events by_table n e j) in
          subst (λ (st : Start). RunsAgree ed s st events by_rules by_table (rule_run_of ed file start events by_rules) (table_run_of ed (take (compile ed file room).written (compile ed file room).table) start events by_table))
          (some_is (sym r.1 ∙ back.1)) r.2,
    )
