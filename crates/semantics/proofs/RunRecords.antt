-- The records of a run: each is the record of its event, byte for byte as document 01 lays it out.
use mathlib.Core.Path.{◌≡◌, refl, subst}
use mathlib.Core.Bool.{true}
use mathlib.Core.List.{List, [], ◌∷◌, flat_map}
use Prim.Native.Nat.{ℕ}
use native.Mathlib.Omega.{arith}
use borrow.Author.Tests.{le-leb}
use lib.IntN.{ℤ, pos, negsuc}
use Rattle.semantics.specs.Editions.{Edition}
use Rattle.semantics.specs.Refusals.{accepted}
use Rattle.semantics.specs.Plant.{Plant}
use Rattle.semantics.specs.Run.{Control, Situation, Answered, step, answers, record_of}
use Rattle.semantics.specs.Rules.{Derives, no-events, one-event, Comes, at_start, Standing, stands_at, stands_over, Sound}
use Rattle.semantics.specs.Tables.{Table, rising_from, judge_table, table_control}
use Rattle.semantics.specs.Records.{AtFront, Fits32, RecordsIn, no_record, one_record}
use Rattle.semantics.specs.Calls.{Ran, table_run_of}
use Rattle.semantics.specs.Statements.{RunHolds}
use Rattle.semantics.proofs.Facts.{none-not-some, some_is, All, all_nil, all_cons, all_map}
use Rattle.semantics.proofs.RecordForms.{RisesAt, record_is}
use Rattle.semantics.proofs.StepRules.{rule-of, step_of, rule-standing}
use Rattle.semantics.proofs.WrittenRecords.{Byte, Bits32, SituationBytes, AnsweredBytes, step-bytes}
use Rattle.semantics.proofs.WrittenSources.{ProgramBytes, start-bytes, table-read-bytes}
use Rattle.semantics.proofs.CallsHold.{sound-table, table-rises, table-run-holds}

fits : (z : ℤ) → Bits32 z → Fits32 z
fits (pos n) h = let k = h.small in (refl, le-leb n 2147483647 (omega arith))
fits (negsuc n) h = let k = h.small in (le-leb n 2147483647 (omega arith), refl)

module _ {S : Type 0} (ed : Edition) (p : Plant) (c : Control S) (sound : Sound p c) (rising : (x : S) → Comes c x → rising_from 0 (c.acting x) ≡ true) where
  rises-there : {s : Situation S} → Standing c s → RisesAt c s.place
  rises-there (stands_at {x = y} k) x e = rising x (subst (Comes c) (some_is e) k)
  rises-there stands_over x e = none-not-some e

  -- at every answer of a run
  pub answers-rise : (s : Situation S) → Standing c s → (es : List (List ℕ)) → All (λ o. RisesAt c o.left.place) (answers ed p c s es)
  unfolding answers
  answers-rise s st [] = all_nil
  answers-rise s st (e ∷ es) =
      let after = rule-standing ed p c st (rule-of ed p c sound s st e) in
      all_cons (rises-there after) (answers-rise (step ed p c s e).left after es)

module _ {S : Type 0} (ed : Edition) (p : Plant) (c : Control S) (sound : Sound p c) (b : ProgramBytes (record { plant = p; control = c }))
    (rising : (x : S) → Comes c x → rising_from 0 (c.acting x) ≡ true) where
  derived-recorded : {s : Situation S} {es : List (List ℕ)} {l : List (Answered S)} → Standing c s → SituationBytes p s → Derives ed p c s es l → RecordsIn ed c l (flat_map (record_of ed c) l)
  unfolding flat_map
  derived-recorded st k no-events = no_record
  derived-recorded st k (one-event {s = s} {t = t} {e = e} {a = a} r d) =
      let after = rule-standing ed p c st r in
      let left : AnsweredBytes p (record { answer = a; left = t }) = subst (AnsweredBytes p) (step_of ed p c sound st r) (step-bytes ed p c b.plant b.control s k e) in
      one_record (record_is ed c (record { answer = a; left = t }) (rises-there ed p c sound rising after) (all_map fits left.left.bits)) (derived-recorded after left.left d)

  pub run-recorded : {start events buffer : List ℕ} {r : Ran} → All Byte start → (h : RunHolds ed p c start events buffer r) → RecordsIn ed c h.said (flat_map (record_of ed c) h.said)
  run-recorded {start} z h = derived-recorded (stands_at at_start) (start-bytes p start h.start_read z) h.derived

pub table-recorded : (ed : Edition) (table start events buffer : List ℕ) → All Byte table → All Byte start → (table_run_of ed table start events buffer).refusal ≡ 0 →
    (t : Table) × (judge_table ed table ≡ accepted t) × (h : RunHolds ed t.plant (table_control t) start events buffer (table_run_of ed table start events buffer)) ×
    (bytes : List ℕ) × RecordsIn ed (table_control t) h.said bytes × AtFront bytes buffer (table_run_of ed table start events buffer).records
table-recorded ed table start events buffer z y e =
    let q = table-run-holds ed table start events buffer e in
    let t = q.0 in
    let c = table_control t in
    let h = q.2 in
    let written = run-recorded ed t.plant c (sound-table ed table t q.1) (table-read-bytes ed table q.1 z) (λ x k. table-rises ed table t q.1 x) y h in
    (t, q.1, h, flat_map (record_of ed c) h.said, written, h.written)
