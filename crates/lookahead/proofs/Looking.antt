-- Three steps of a run one after the other, and the call.
use mathlib.Core.Path.{◌≡◌, refl, sym, ap, subst, ◌∙◌}
use mathlib.Core.List.{List, []}
use mathlib.Core.Option.{some}
use Prim.Native.Nat.{ℕ, ◌^◌, ◌<◌}
use native.Mathlib.Nat.{zero-mul, zero-div, zero-mod}
use lib.IntN.{ℤ, pos}
use lib.ListN.{length, take}
use Rattle.std.specs.Prelude.{Result, Ok, Err}
use Rattle.std.specs.Result.{IsErrAnd}
use Rattle.semantics.specs.Editions.{Edition}
use Rattle.semantics.specs.Refusals.{Judged, refused, accepted, ensure, ◌>>=◌, ◌>>◌}
use Rattle.semantics.specs.Plant.{Plant, selectors}
use Rattle.semantics.specs.Starts.{Start}
use Rattle.semantics.specs.Run.{Answered}
use Rattle.semantics.specs.Tables.{Table, judge_table, table_control}
use Rattle.semantics.specs.Calls.{whole_events, event_count, record_size, room_for_records, judge_start, judge_admission}
use Rattle.semantics.proofs.Admission.{Starts, start-passed}
use Rattle.semantics.proofs.CallsHold.{start-values}
use Rattle.semantics.proofs.Judging.{accepted-is, go-then}
use Rattle.paper.specs.Refusals.{number_of, judged_of, answered}
use Rattle.paper.specs.declared.answers.Answer.{Answer}
use Rattle.paper.specs.declared.refusals.Refusal.{Refusal}
use Rattle.paper.proofs.Answered.{Accepted, was-refused, was-accepted, stops-then}
use Rattle.codec.proofs.Padding.{take-pad}
use Rattle.program.specs.Lent.{Lent, lent}
use Rattle.event.specs.declared.Event.{Event}
use Rattle.table_read.specs.TableIndex.{table_index}
use Rattle.table_read.specs.Lent.{TableLent, TablePrograms}
use Rattle.table_read.specs.declared.call.TableIndex.{TableIndex}
use Rattle.table_read.proofs.Promises.{opened, plant-read}
use Rattle.start_read.specs.StartRead.{Arrays, Room}
use Rattle.start_read.specs.Admission.{admitted}
use Rattle.start_read.specs.declared.admission.Admitted.{Admitted}
use Rattle.start_read.proofs.PlantStart.{arrays-held, room-held}
use Rattle.execution.specs.Ready.{Fits}
use Rattle.execution.proofs.Starts.{fits-start, take-full}
use Rattle.table_step.specs.Situations.{StandsFor, StepsOn}
use Rattle.table_step.specs.declared.steps.Standing.{Standing}
use Rattle.lookahead.specs.declared.Answers.{Answers}
use Rattle.lookahead.specs.Ahead.{numbers_of, step_of_table, answers_from, three_answers}
use Rattle.lookahead.specs.Asked.{Lending, AnswersAll, start_in, Admits, Admitting, AnswersStart}

-- ---- three steps, from location 0
pub three-steps : (ed : Edition) {l : Lent} {t : Table} {at at1 at2 at3 : Standing} → TableLent ed t l → {ms : List ℕ} {vs : List ℤ} → StandsFor t at (some (table_control t).start) → Fits t.plant vs ms
    → (a b c : Event) (x y z : Answer) {ms1 ms2 ms3 : List ℕ} {vs1 vs2 vs3 : List ℤ}
    → StepsOn ed l at vs ms a x at1 vs1 ms1 → StepsOn ed l at1 vs1 ms1 b y at2 vs2 ms2 → StepsOn ed l at2 vs2 ms2 c z at3 vs3 ms3
    → numbers_of (record { first = x; second = y; third = z }) ≡ answers_from ed t (record { values = vs; modes = ms }) a b c
unfolding answers_from
three-steps ed {t = t} d g f a b c x y z k1 k2 k3 =
    let s1 = k1 t (some (table_control t).start) d g f in
    let s2 = k2 t s1.0.place d s1.0.stands s1.1 in
    let s3 = k3 t s2.0.place d s2.0.stands s2.1 in
    let e1 = s1.0.is in
    let e2 = ap (λ (r : Answered ℕ). step_of_table ed t r.left b) e1 ∙ s2.0.is in
    let e3 = ap (λ (r : Answered ℕ). step_of_table ed t r.left c) e2 ∙ s3.0.is in
    sym (λ i. record { first = (e1 i).answer; second = (e2 i).answer; third = (e3 i).answer })

-- ---- a table that was read is lent with its start
module _ (ed : Edition) {f : List ℕ} (small : length f < 2 ^ 64) {x : TableIndex} {start : Admitted} {is : List ℕ} {rs : List ℤ} (k : TablePrograms x is rs) (a : Admitting ed f x start) where
  lends : (t : Table) → Admits ed f x start t → TableLent ed t (lent f is rs)
  lends t m = k ed f t (accepted-is (a.is ∙ ap (answered (table_index ed f)) m.judged)) small m.judged

  pub lending : Lending ed (lent f is rs) (start_in x start).values (start_in x start).modes
  lending = record { table = a.table; lent = lends a.table a.admits; fits = a.admits.fits }

  pub answers-start : (p q r : Event) (n : Answers) → AnswersAll ed (lent f is rs) (start_in x start).values (start_in x start).modes p q r n → AnswersStart ed f x start p q r n
  answers-start p q r n w = λ t m. w t (lends t m) m.fits

-- ---- 20 is all that is judged of a run of no events
only-start : (ed : Edition) (p : Plant) (start : List ℕ) → judge_admission ed p start [] [] ≡ judge_start p start
unfolding judge_admission whole_events room_for_records event_count ensure ◌>>=◌ ◌>>◌
only-start ed p start = go (judge_start p start)
  where
    go : (j : Judged Start) → (j >>= λ st. ensure 21 (whole_events ed.event_bytes []) >> (ensure 22 (room_for_records ed p [] []) >> accepted st)) ≡ j
    go (refused n) = refl
    go (accepted st) = rw (zero-mod ed.event_bytes, zero-div ed.event_bytes, zero-mul (record_size ed p)) refl

-- ---- what a refused call gives
refused-with : (r : Result Answers Refusal) (why : Refusal) → IsErrAnd r (λ w. w ≡ why) → answered numbers_of (judged_of r) ≡ refused (number_of why)
refused-with (Ok x) why is = absurd is
refused-with (Err w) why is = rw is refl

-- ---- one law for each return of the call
module _ (ed : Edition) (f start : List ℕ) (a b c : Event) where
  pub by_table : (r : Result Answers Refusal) (why : Refusal) → IsErrAnd r (λ w. w ≡ why) → refused (number_of why) ≡ answered (table_index ed f) (judge_table ed f) →
      answered numbers_of (judged_of r) ≡ three_answers ed f start a b c
  unfolding three_answers
  by_table r why is h = refused-with r why is ∙ sym (stops-then _ (was-refused (table_index ed f) _ h))

  module _ {x : TableIndex} (h : accepted x ≡ answered (table_index ed f) (judge_table ed f)) where
    read : Accepted (table_index ed f) (judge_table ed f) x
    read = was-accepted (table_index ed f) _ h

    pub room_of : Room x.plant
    room_of = room-held ed _ _ (opened ed f read.judged).plant (plant-read ed f read.value read.is)

    arrays-of : Arrays read.value.plant x.plant
    arrays-of = arrays-held ed _ _ (opened ed f read.judged).plant (plant-read ed f read.value read.is)

    -- what the admission says of the start alone
    told : {j : Judged Admitted} → ((p : Plant) → Arrays p x.plant → (es d : List ℕ) → length es ≡ 0 → length d ≡ 0 → j ≡ answered admitted (judge_admission ed p start es d)) →
        j ≡ answered admitted (judge_start read.value.plant start)
    told g = g read.value.plant arrays-of [] [] refl refl ∙ ap (answered admitted) (only-start ed read.value.plant start)

    pub by-start : (r : Result Answers Refusal) (why : Refusal) → IsErrAnd r (λ w. w ≡ why)
        → ((p : Plant) → Arrays p x.plant → (es d : List ℕ) → length es ≡ 0 → length d ≡ 0 → refused (number_of why) ≡ answered admitted (judge_admission ed p start es d))
        → answered numbers_of (judged_of r) ≡ three_answers ed f start a b c
    unfolding three_answers
    by-start r why is g = refused-with r why is ∙ sym (go-then _ read.judged ∙ stops-then _ (was-refused admitted _ (told g)))

    module _ {asked : Admitted} (g : (p : Plant) → Arrays p x.plant → (es d : List ℕ) → length es ≡ 0 → length d ≡ 0 → accepted asked ≡ answered admitted (judge_admission ed p start es d)) where
      started : Accepted admitted (judge_start read.value.plant start) asked
      started = was-accepted admitted _ (told g)

      passed : Starts read.value.plant start started.value
      passed = start-passed read.value.plant start started.judged

      counted : (length started.value.values ≡ length read.value.plant.variables) × (length started.value.modes ≡ length (selectors read.value.plant))
      counted = start-values read.value.plant start passed.is_read

      -- the arrays hold the start
      held : start_in x asked ≡ started.value
      unfolding admitted
      held =
          let st = started.value in
          let n = counted.0 ∙ sym arrays-of.ranges.count in
          let m = counted.1 ∙ arrays-of.counts.counted in
          let vs = ap (λ (q : Admitted). take x.plant.variables q.values) started.is ∙ take-pad 32 (pos 0) st.values x.plant.variables n in
          let ms = ap (λ (q : Admitted). take x.plant.selectors q.modes) started.is ∙ take-pad 16 0 st.modes x.plant.selectors m in
          λ i. record { values = vs i; modes = ms i }

      admits : Admits ed f x asked read.value
      admits = record {
        judged = read.judged;
        fits = subst (λ (st : Start). Fits read.value.plant st.values st.modes) (sym held) (fits-start read.value.plant started.value counted.0 counted.1 passed.fits);
      }

      pub admitting : Admitting ed f x asked
      admitting = record {
        is = h;
        values = take-full x.plant.variables asked.values (admits.fits.values ∙ sym arrays-of.ranges.count);
        modes = take-full x.plant.selectors asked.modes (admits.fits.modes ∙ arrays-of.counts.counted);
        table = read.value;
        admits = admits;
      }

      pub by-events : (r : Answers) → AnswersStart ed f x asked a b c r → accepted (numbers_of r) ≡ three_answers ed f start a b c
      unfolding three_answers
      by-events r k = ap (λ y. accepted y) (k read.value admits ∙ ap (λ st. answers_from ed read.value st a b c) held) ∙ sym (go-then _ read.judged ∙ go-then _ started.judged)
