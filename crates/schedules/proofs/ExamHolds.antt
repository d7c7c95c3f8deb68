-- Examining refuses with the first number that applies, leaves everything as it was where it refuses, and where it does not refuse the two runs agree.
use mathlib.Core.Path.{◌≡◌, refl, sym, ap, ◌∙◌}
use mathlib.Core.Bool.{true, false}
use mathlib.Core.List.{List, [], ◌∷◌, ◌++◌, flat_map}
use mathlib.Core.Logic.{◌⊎◌}
use mathlib.Core.Option.{Option}
use Prim.Native.Nat.{ℕ, ◌*◌}
use lib.ListN.{length, take, drop}
use lib.Seq.{take-append_seam}
use Rattle.semantics.specs.Bytes.{every, overwrite}
use Rattle.semantics.specs.Editions.{Edition}
use Rattle.semantics.specs.Refusals.{Judged, refused, accepted, ◌>>=◌, refusal_of}
use Rattle.semantics.specs.Plant.{Plant}
use Rattle.semantics.specs.Starts.{Start}
use Rattle.semantics.specs.Run.{record_of}
use Rattle.semantics.specs.Calls.{Program, Ran, judge_admission, event_count, record_size, room_for_records}
use Rattle.semantics.specs.Conditions.{Condition, ◌if◌, is20, is21, is22, run_conditions}
use Rattle.semantics.specs.Writing.{AllBytes}
use Rattle.semantics.specs.Sentences.{Clause, FirstHolds, AnyHolds}
use Rattle.semantics.proofs.SentenceSteps as Steps
use Rattle.semantics.proofs.SentenceSteps.{Answers}
use Rattle.semantics.proofs.EventsCut.{room-for-each}
use Rattle.semantics.proofs.TableSentences.{whole-events, admission-answers}
use Rattle.semantics.proofs.Admission.{admission-passed}
use Rattle.semantics.proofs.Facts.{All}
use Rattle.semantics.proofs.Judging as Judging
use Rattle.semantics.proofs.FirstNumber.{Clear, none_left, one_clear, Firsts, refuses, accepts, lacks, first-not, by-then, by-ensure, by_end, given-some, admission-first}
use Rattle.schedules.specs.Residuals.{Residual}
use Rattle.schedules.specs.Files.{Schedule, judge_file, rule_control}
use Rattle.schedules.specs.Compiling.{judge_compile}
use Rattle.schedules.specs.Calls.{rule_program, rule_run_of, compile}
use Rattle.schedules.specs.Conditions.{file_plant, file_conditions, compile_conditions}
use Rattle.schedules.specs.Agreement.{RunsAgree}
use Rattle.schedules.proofs.FirstNumber.{file-plant, compile-first, compile-refusal}
use Rattle.schedules.proofs.Agreement.{agreement, compile-taken}
use Rattle.schedules.specs.Exam.{Examined, judge_exam, agreed, refused_exam, reported, exam_table, examined, exam_of, exam_clauses, ExamHolds}
use Rattle.schedules.proofs.SameRuns.{agreed-true}
use Rattle.schedules.proofs.FileSentences.{compile-answers, plant-of-file}

-- a call that is known to accept adds no number
known : {A B : Type 0} {j : Judged A} {a : A} (f : A → Judged B) {l : List Condition} → j ≡ accepted a → Firsts (f a) l → Firsts (j >>= f) l
unfolding ◌>>=◌
known f e h = rw e h

-- none applies of either list
clear-parts : (k : List Condition) {l : List Condition} → Clear (k ++ l) → Clear k × Clear l
clear-parts [] c = (none_left, c)
clear-parts (x ∷ k) (one_clear e c) = let p = clear-parts k c in (one_clear e p.0, p.1)

pub rule-program : (ed : Edition) (file : List ℕ) {s : Schedule} → judge_file ed file ≡ accepted s → rule_program ed file ≡ accepted (record { plant = s.plant; control = rule_control s })
unfolding rule_program
rule-program ed file h = Judging.go-then _ h

-- four conditions that do not apply
four : {a b c d : Condition} → Clear (a ∷ b ∷ c ∷ d ∷ []) → (a.applies ≡ false) × (b.applies ≡ false) × (c.applies ≡ false) × (d.applies ≡ false)
four (one_clear e (one_clear f (one_clear g (one_clear h k)))) = (e, f, g, h)

-- the records that a run wrote
written-front : (w b : List ℕ) (n : ℕ) → length w ≡ n → take n (overwrite w b) ≡ w
unfolding overwrite
written-front w b n e = ap (λ n. take n (overwrite w b)) (sym e) ∙ take-append_seam w (drop (length w) b)

-- what two such runs say is found to agree
told : {ed : Edition} {s : Schedule} {st : Start} {events by_rules by_table : List ℕ} {r t : Ran} (n : ℕ) (a : RunsAgree ed s st events by_rules by_table r t) →
    length (flat_map (record_of ed (rule_control s)) a.said) ≡ n → agreed n r t ≡ true
told {ed} {s} {by_rules = by_rules} {by_table = by_table} {r = r} {t = t} n a e = agreed-true n r t (record {
  refusal = a.rules_taken_on ∙ sym a.table_taken_on;
  counts = sym a.table_counts;
  records = ap (take n) a.rules_records ∙ written-front _ by_rules n e ∙ sym (ap (take n) a.table_records ∙ written-front _ by_table n e);
})

pub run-numbers : (ed : Edition) (plant : Option Plant) (start events buffer : List ℕ) → All (λ (c : Condition). c.refusal ≡ 0 → ⊥) (run_conditions ed plant start events buffer)
unfolding every run_conditions
run-numbers ed plant start events buffer = lacks 0 (run_conditions ed plant start events buffer) refl

-- the same of sentences
known-answers : {A B : Type 0} {j : Judged A} {a : A} (f : A → Judged B) {l : List Clause} → j ≡ accepted a → Answers (f a) l → Answers (j >>= f) l
unfolding ◌>>=◌
known-answers f e h = rw e h

module _ (ed : Edition) (file start events table records others : List ℕ) where
  -- the call's tests in their order
  unfoldable pub exam_conditions : List Condition
  exam_conditions = compile_conditions ed file table ++ (run_conditions ed (file_plant ed file) start events records ++ ((22 if is22 ed (file_plant ed file) start events others) ∷ []))

  pub exam-judged : Firsts (judge_exam ed file start events table records others) (exam_conditions)
  unfolding judge_exam exam_conditions is22
  exam-judged = by-then (compile-first ed file table) (λ t e.
      let k = compile-taken ed file table e in
      let p = file-plant ed file k.of_file in
      known _ (rule-program ed file k.of_file)
      (by-then (admission-first ed start events records p) (λ st i.
      by-ensure 22 (room_for_records ed k.of.plant events others) (given-some _ p) (λ h22. by_end _))))

  -- no number is 0
  pub exam-numbers : All (λ (c : Condition). c.refusal ≡ 0 → ⊥) (exam_conditions)
  unfolding every exam_conditions compile_conditions file_conditions run_conditions
  exam-numbers = lacks 0 exam_conditions refl

  pub exam-refusal : (j : Judged ℕ) → (examined ed file start events table records others j).refusal ≡ refusal_of j
  unfolding examined refused_exam reported refusal_of
  exam-refusal (refused n) = refl
  exam-refusal (accepted n) = refl

  exam-answers : AllBytes file → AllBytes start → Answers (judge_exam ed file start events table records others) (exam_clauses ed file start events table records others)
  unfolding judge_exam
  exam-answers z y = Steps.by-then (compile-answers ed file z table) (λ t e.
      let k = compile-taken ed file table e in
      let q = plant-of-file ed file z k.of_file in
      known-answers _ (rule-program ed file k.of_file)
      (Steps.by-then (admission-answers ed start events records y k.of.plant q) (λ st i.
      Steps.by-test q.0 q.1 22 (room_for_records ed k.of.plant events others)
      (room-for-each ed k.of.plant events others ((whole-events ed.event_bytes events).0 (admission-passed ed _ start events records i).whole)) (λ h22. Steps.by_end _))))

  -- the refusal is the number of the first sentence that holds, or 0 where none does
  pub exam-first : AllBytes file → AllBytes start → FirstHolds (exam_of ed file start events table records others).refusal (exam_clauses ed file start events table records others) ⊎
      (((exam_of ed file start events table records others).refusal ≡ 0) × (AnyHolds (exam_clauses ed file start events table records others) → ⊥))
  unfolding exam_of
  exam-first z y = rw (exam-refusal (judge_exam ed file start events table records others)) (Steps.first_or_none (exam-answers z y))

  -- on a refusal: the number, and nothing written
  pub exam-refused : ((exam_of ed file start events table records others).refusal ≡ 0 → ⊥) →
      exam_of ed file start events table records others ≡ refused_exam (exam_of ed file start events table records others).refusal table records others
  unfolding exam_of examined refused_exam reported
  exam-refused = go (judge_exam ed file start events table records others)
    where
      go : (j : Judged ℕ) → ((examined ed file start events table records others j).refusal ≡ 0 → ⊥) →
          examined ed file start events table records others j ≡ refused_exam (examined ed file start events table records others j).refusal table records others
      go (refused n) h = refl
      go (accepted n) h = absurd (h refl)

  -- the length of the records that are compared, of a call that accepts
  pub exam-length : {s : Schedule} {n : ℕ} → judge_file ed file ≡ accepted s → judge_exam ed file start events table records others ≡ accepted n → event_count ed events * record_size ed s.plant ≡ n
  unfolding judge_exam
  exam-length {s} h e =
      let a = Judging.passed_then (judge_compile ed file table) _ e in
      let b = Judging.passed_then (rule_program ed file) _ a.2 in
      let c = Judging.passed_then (judge_admission ed b.0.plant start events records) _ b.2 in
      let d = Judging.passed-ensure 22 _ _ c.2 in
      ap (λ (g : Program Residual). event_count ed events * record_size ed g.plant) (Judging.accepted-is (sym (rule-program ed file h) ∙ b.1)) ∙ Judging.accepted-is d.1

  -- compiling accepts where the call does
  exam-compiled : {n : ℕ} → judge_exam ed file start events table records others ≡ accepted n → (compile ed file table).refusal ≡ 0
  unfolding judge_exam refusal_of
  exam-compiled e = let a = Judging.passed_then (judge_compile ed file table) _ e in compile-refusal ed file table ∙ ap refusal_of a.1

  -- demand 3 of the call: where it is not refused, neither run is, and both come to what the rules derive
  pub exam-agrees : (exam_of ed file start events table records others).refusal ≡ 0 → ExamHolds ed file start events table records others
  unfolding exam_of examined refused_exam reported exam_table run_conditions exam_conditions
  exam-agrees = go (judge_exam ed file start events table records others) refl exam-judged
    where
      go : (j : Judged ℕ) → judge_exam ed file start events table records others ≡ j → Firsts j (exam_conditions) →
          (examined ed file start events table records others j).refusal ≡ 0 → ExamHolds ed file start events table records others
      go (refused n) e (refuses f) z = absurd (first-not exam-numbers f z)
      go (accepted n) e (accepts c) z =
          let q = exam-compiled e in
          let a = agreement ed file table q in
          let p = file-plant ed file a.schedule_read in
          let l = exam-length a.schedule_read e in
          let k = four (clear-parts (compile_conditions ed file table) c).1 in
          let r = a.runs start events records others
          (ap (λ o. is20 ed o start events records) (sym p) ∙ k.0)
          (ap (λ o. is21 ed o start events records) (sym p) ∙ k.1)
          (ap (λ o. is22 ed o start events records) (sym p) ∙ k.2)
          (ap (λ o. is22 ed o start events others) (sym p) ∙ k.3) in
          let i : exam_of ed file start events table records others ≡ examined ed file start events table records others (accepted n) = ap (examined ed file start events table records others) e in
          record {
            agree-told = ap (λ (x : Examined). x.agree) i ∙ told n r.2 (r.2.records_length ∙ l);
            compiled = q;
            schedule = a.schedule;
            schedule_read = a.schedule_read;
            st = r.0;
            start_read = r.1;
            runs = r.2;
            result = i ∙ ap (λ n. reported n (compile ed file table).written (compile ed file table).table (rule_run_of ed file start events records) (exam_table ed file start events table records others)) (sym l);
          }
