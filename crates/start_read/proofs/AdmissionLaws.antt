-- What the answer about 20 to 22 says of a run.
use mathlib.Core.Path.{◌≡◌, refl, sym, ap, ◌∙◌}
use mathlib.Core.Bool.{true, false}
use mathlib.Core.List.{List}
use Prim.Native.Nat.{ℕ, ◌*◌, ◌/◌, ◌%◌, ◌≤◌, ◌<◌}
use native.Mathlib.Nat.{le-div_iff_mul-le}
use native.Mathlib.Omega.{arith}
use borrow.Author.Tests.{ne_eqb, eq-eqb, le-leb, lt-leb}
use lib.Dec.{leb}
use lib.IntN.{pos}
use lib.ListN.{length}
use Rattle.semantics.specs.Editions.{Edition}
use Rattle.semantics.specs.Refusals.{refused, accepted, ensure, ◌>>=◌, ◌>>◌}
use Rattle.semantics.specs.Plant.{Plant, selectors}
use Rattle.semantics.specs.Starts.{Start, fits_start}
use Rattle.semantics.specs.Calls.{whole_events, event_count, record_length_of, record_size, room_for_records, judge_start, judge_admission, Program, run_from, outcome_of, judge_run}
use Rattle.semantics.proofs.Judging.{go-then}
use Rattle.semantics.proofs.Admission.{admission-passed}
use Rattle.semantics.proofs.CallsHold.{start-values}
use Rattle.paper.specs.Refusals.{answered}
use Rattle.paper.proofs.Answered.{Accepted, was-refused, was-accepted, stops-then}
use Rattle.codec.proofs.Padding.{take-pad}
use Rattle.start_read.specs.declared.admission.Admitted.{Admitted}
use Rattle.start_read.specs.Admission.{admitted, values_for, modes_for}

-- ---- room for n records, judged by a quotient
no_room : (n size room : ℕ) → 1 ≤ size → room / size < n → leb (n * size) room ≡ false
no_room n size room h i = lt-leb (n * size) room (elim (native.Mathlib.Decide.dec_lt room (n * size)) [ yes j ↦ j | no j ↦ (let k : n ≤ room / size = (le-div_iff_mul-le h).1 (omega arith) in absurd (omega arith)) ])

enough-room : (n size room : ℕ) → 1 ≤ size → n ≤ room / size → leb (n * size) room ≡ true
enough-room n size room h i = le-leb (n * size) room ((le-div_iff_mul-le h).0 i)

some_bytes : (ed : Edition) (p : Plant) → 1 ≤ record_size ed p
unfolding record_size
some_bytes ed p = omega arith

pub size_is : (ed : Edition) (p : Plant) {variables cases size : ℕ} → variables ≡ length p.variables → cases ≡ length (selectors p)
    → size ≡ record_length_of ed variables cases → size ≡ record_size ed p
unfolding record_size
size_is ed p e f h = omega arith

-- ---- one law for each return
module _ (ed : Edition) (p : Plant) (start es d : List ℕ) where
  pub by-20 : {n : ℕ} → refused n ≡ answered admitted (judge_start p start) → judge_admission ed p start es d ≡ refused n
  unfolding judge_admission
  by-20 h = stops-then _ (was-refused admitted (judge_start p start) h)

  module _ {asked : Admitted} (h : accepted asked ≡ answered admitted (judge_start p start)) {events room bytes : ℕ} (l : length es ≡ events) (k : length d ≡ room) (b : bytes ≡ ed.event_bytes) where
    started : Accepted admitted (judge_start p start) asked
    started = was-accepted admitted (judge_start p start) h

    pub by-21 : (events % bytes ≡ 0 → ⊥) → refused 21 ≡ answered admitted (judge_admission ed p start es d)
    unfolding judge_admission whole_events ensure ◌>>=◌ ◌>>◌
    by-21 i = rw (started.judged, l, ne_eqb (events % ed.event_bytes) 0 (λ z. i (ap (λ n. events % n) b ∙ z))) refl

    module _ (i : events % bytes ≡ 0) {size : ℕ} (s : size ≡ record_size ed p) where
      whole : events % ed.event_bytes ≡ 0
      whole = ap (λ n. events % n) (sym b) ∙ i

      pub by-22 : room / size < events / bytes → refused 22 ≡ answered admitted (judge_admission ed p start es d)
      unfolding judge_admission whole_events room_for_records event_count ensure ◌>>=◌ ◌>>◌
      by-22 j = rw (started.judged, l, k, eq-eqb (events % ed.event_bytes) 0 whole, no_room (events / ed.event_bytes) (record_size ed p) room (some_bytes ed p) (rw (s, b) at j)) refl

      pub by_all : events / bytes ≤ room / size → accepted asked ≡ answered admitted (judge_admission ed p start es d)
      unfolding judge_admission whole_events room_for_records event_count ensure ◌>>=◌ ◌>>◌
      by_all j = rw (started.judged, l, k, eq-eqb (events % ed.event_bytes) 0 whole, enough-room (events / ed.event_bytes) (record_size ed p) room (some_bytes ed p) (rw (s, b) at j)) (ap (λ x. accepted x) started.is)

-- ---- the call
-- 20 to 22 are not judged where the program is refused
pub run-unread : (ed : Edition) (S : Type 0) (n : ℕ) (start events buffer : List ℕ) → judge_run {S = S} ed (refused n) start events buffer ≡ refused n
unfolding judge_run ◌>>=◌
run-unread ed S n start events buffer = refl

module _ (ed : Edition) {S : Type 0} (g : Program S) (start events buffer : List ℕ) where
  pub run-refused : {n : ℕ} → refused n ≡ answered admitted (judge_admission ed g.plant start events buffer) → judge_run ed (accepted g) start events buffer ≡ refused n
  unfolding judge_run
  run-refused h = go-then _ refl ∙ stops-then _ (was-refused admitted (judge_admission ed g.plant start events buffer) h)

  module _ {asked : Admitted} (h : accepted asked ≡ answered admitted (judge_admission ed g.plant start events buffer)) where
    -- the start that the answer's arrays hold
    abbrev pub start_asked : Start
    start_asked = record { values = values_for g.plant asked; modes = modes_for g.plant asked }

    pub record RunAdmitted : Type 0 where
      pub judged : judge_run ed (accepted g) start events buffer ≡ accepted (outcome_of ed g.control (run_from ed g start_asked events))
      pub values : length start_asked.values ≡ length g.plant.variables
      pub modes : length start_asked.modes ≡ length (selectors g.plant)
      pub fits : fits_start g.plant start_asked ≡ true
      pub room : room_for_records ed g.plant events buffer ≡ true

    pub run-admitted : RunAdmitted
    unfolding judge_run admitted
    run-admitted =
        let t = was-accepted admitted (judge_admission ed g.plant start events buffer) h in
        let a = admission-passed ed g.plant start events buffer t.judged in
        let c = start-values g.plant start a.starts.is_read in
        let v = ap (λ (x : Admitted). values_for g.plant x) t.is ∙ take-pad 32 (pos 0) t.value.values (length g.plant.variables) c.0 in
        let m = ap (λ (x : Admitted). modes_for g.plant x) t.is ∙ take-pad 16 0 t.value.modes (length (selectors g.plant)) c.1 in
        let same : start_asked ≡ t.value = λ i. record { values = v i; modes = m i } in
        record {
          judged = go-then _ refl ∙ go-then _ t.judged ∙ ap (λ st. accepted (outcome_of ed g.control (run_from ed g st events))) (sym same);
          values = ap (λ (st : Start). length st.values) same ∙ c.0;
          modes = ap (λ (st : Start). length st.modes) same ∙ c.1;
          fits = ap (fits_start g.plant) same ∙ a.starts.fits;
          room = a.room;
        }
