-- Document 02, item 5, over the bytes that the run by the rules and the run of a table write.
use mathlib.Core.Path.{◌≡◌, refl, sym, ap, ap₂, subst₂, ◌∙◌}
use mathlib.Core.Bool.{true, ◌&&◌}
use mathlib.Core.List.{List, [], ◌∷◌, ◌++◌, flat_map, flatten, append_assoc, map-append}
use mathlib.Core.Option.{some}
use Prim.Native.Nat.{ℕ, suc, ◌*◌}
use native.Mathlib.Nat.{suc-mul}
use native.Mathlib.Omega.{arith}
use lib.ListN.{length, take, drop, length-append}
use lib.Seq.{take_at, drop_at}
use Rattle.semantics.specs.Bytes.{All, all_cons, overwrite}
use Rattle.semantics.specs.Editions.{Edition}
use Rattle.semantics.specs.Refusals.{accepted}
use Rattle.semantics.specs.Records.{record_at}
use Rattle.semantics.specs.Starts.{Start, start_in}
use Rattle.semantics.specs.Run.{Situation, Answered, step, answers, record_of, record_bytes, answers_in, is_taken, counts_from}
use Rattle.semantics.specs.Calls.{Ran, outcome_of, table_run_of, record_size}
use Rattle.semantics.proofs.Facts.{and_left}
use Rattle.semantics.proofs.EventsCut.{flat-length}
use Rattle.semantics.proofs.RunCounts.{written-length, record_length, taken-counted}
use Rattle.schedules.specs.Residuals.{Residual}
use Rattle.schedules.specs.Files.{Schedule, judge_file, rule_control}
use Rattle.schedules.specs.Calls.{rule_run_of, compile}
use Rattle.schedules.specs.Independent.{WithoutCase, left_by, begun, Reachable, Independent, second, both_taken, record_taken, records_taken, EitherOrderReturned}
use Rattle.schedules.proofs.Agreement.{agreement}
use Rattle.schedules.proofs.Places.{flat_append}
use Rattle.schedules.proofs.RuleLists.{AllWhole, Admitted, as-many-admitted, taken-on, returned}
use Rattle.schedules.proofs.IndependentPicks.{Kept, kept_step, reachable-kept, independent-picks}

-- ---- records before, one, and those behind it
module _ (size k : ℕ) (front one rest : List ℕ) (f : length front ≡ k * size) (g : length one ≡ size) where
  record-here : record_at size k (front ++ (one ++ rest)) ≡ one
  unfolding record_at
  record-here = ap (take size) (drop_at front (one ++ rest) (k * size) f) ∙ take_at one rest size g

  records-behind : drop (suc k * size) (front ++ (one ++ rest)) ≡ rest
  records-behind =
      let i = suc-mul k size in
      let j = length-append front one in
      ap (drop (suc k * size)) (sym (append_assoc front one rest)) ∙ drop_at (front ++ one) rest (suc k * size) (omega arith)

-- ---- a run of the whole list
module _ (ed : Edition) (s : Schedule) where
  abbrev recorded : Answered Residual → List ℕ
  recorded o = record_of ed (rule_control s) o

  abbrev said : Situation Residual → List (List ℕ) → List (Answered Residual)
  said x es = answers ed s.plant (rule_control s) x es

  abbrev written : Situation Residual → List (List ℕ) → List ℕ
  written x es = flat_map (record_of ed (rule_control s)) (said x es)

  recorded-taken : (o : Answered Residual) → record_taken (recorded o) ≡ is_taken o.answer
  unfolding record_taken record_of record_bytes
  recorded-taken o = refl

  said-append : (x : Situation Residual) (es fs : List (List ℕ)) → said x (es ++ fs) ≡ said x es ++ said (left_by ed s x es) fs
  unfolding answers left_by
  said-append x [] fs = refl
  said-append x (e ∷ es) fs = ap (λ (l : List (Answered Residual)). step ed s.plant (rule_control s) x e ∷ l) (said-append (step ed s.plant (rule_control s) x e).left es fs)

  -- events, two more, and others
  written-parts : (x : Situation Residual) (es fs : List (List ℕ)) (e f : List ℕ) →
      let y = left_by ed s x es in
      written x (es ++ (e ∷ f ∷ fs)) ≡ written x es ++ (recorded (step ed s.plant (rule_control s) y e) ++ (recorded (second ed s y e f) ++ written (second ed s y e f).left fs))
  unfolding answers second flat_map
  written-parts x es fs e f = ap (flat_map (record_of ed (rule_control s))) (said-append x es (e ∷ f ∷ fs)) ∙ flat_append (record_of ed (rule_control s)) (said x es) (said (left_by ed s x es) (e ∷ f ∷ fs))

  answers-parts : (x : Situation Residual) (es fs : List (List ℕ)) (e f : List ℕ) →
      let y = left_by ed s x es in
      answers_in (said x (es ++ (e ∷ f ∷ fs))) ≡
      answers_in (said x es) ++ ((step ed s.plant (rule_control s) y e).answer ∷ (second ed s y e f).answer ∷ answers_in (said (second ed s y e f).left fs))
  unfolding answers second
  answers-parts x es fs e f = ap answers_in (said-append x es (e ∷ f ∷ fs)) ∙ map-append (λ (o : Answered Residual). o.answer) (said x es) (said (left_by ed s x es) (e ∷ f ∷ fs))

  -- where both are taken, which was the first does not count
  counts-either : (x : Situation Residual) (es fs : List (List ℕ)) (e f : List ℕ) → let y = left_by ed s x es in
      both_taken ed s y e f ≡ true → both_taken ed s y f e ≡ true → second ed s y e f ≡ second ed s y f e →
      counts_from (answers_in (said x (es ++ (e ∷ f ∷ fs)))) ≡ counts_from (answers_in (said x (es ++ (f ∷ e ∷ fs))))
  unfolding both_taken
  counts-either x es fs e f g h i =
      let y = left_by ed s x es in
      let one = (step ed s.plant (rule_control s) y e).answer in
      let other = (step ed s.plant (rule_control s) y f).answer in
      let before = answers_in (said x es) in
      let behind : Answered Residual → List ℕ = λ o. o.answer ∷ answers_in (said o.left fs) in
      ap counts_from (answers-parts x es fs e f)
      ∙ taken-counted before (behind (second ed s y e f)) one other (and_left (is_taken one) _ g) (and_left (is_taken other) _ h)
      ∙ ap (λ o. counts_from (before ++ (other ∷ behind o))) i
      ∙ sym (ap counts_from (answers-parts x es fs f e))

module _ (ed : Edition) (file : List ℕ) (s : Schedule) (h : judge_file ed file ≡ accepted s) (start buffer : List ℕ) where
  module _ {st : Start} where
    reachable : (es fs : List (List ℕ)) → Admitted ed s start buffer fs st → Reachable ed s (left_by ed s (begun ed s st) es)
    reachable es fs a = record { start = start; st = st; start_read = a.starts.is_read; start_fits = a.starts.fits; events = es; reached = refl }

    module _ (es fs : List (List ℕ)) (e f : List ℕ) (w : AllWhole ed (es ++ (e ∷ f ∷ fs))) (a : Admitted ed s start buffer (es ++ (e ∷ f ∷ fs)) st) where
      abbrev x : Situation Residual
      x = left_by ed s (begun ed s st) es

      abbrev first : Answered Residual
      first = step ed s.plant (rule_control s) x e

      abbrev last : Answered Residual
      last = second ed s x e f

      kept : Kept ed file s h x
      kept = reachable-kept ed file s h (reachable es (es ++ (e ∷ f ∷ fs)) a)

      begins : Kept ed file s h (begun ed s st)
      unfolding left_by
      begins = reachable-kept ed file s h (reachable [] (es ++ (e ∷ f ∷ fs)) a)

      -- what follows the record of the first of the two
      rest : List ℕ
      rest = recorded ed s last ++ (written ed s last.left fs ++ drop (length (es ++ (e ∷ f ∷ fs)) * record_size ed s.plant) buffer)

      buffer-holds : (rule_run_of ed file start (flatten (es ++ (e ∷ f ∷ fs))) buffer).records ≡ written ed s (begun ed s st) es ++ (recorded ed s first ++ rest)
      unfolding overwrite rest outcome_of
      buffer-holds =
          let all = es ++ (e ∷ f ∷ fs) in
          let front = written ed s (begun ed s st) es in
          let tail = drop (length all * record_size ed s.plant) buffer in
          let one = recorded ed s first in
          let two = recorded ed s last in
          let more = written ed s last.left fs in
          ap (λ (r : Ran). r.records) (returned ed file s h start buffer all w a)
          ∙ ap (λ n. written ed s (begun ed s st) all ++ drop n buffer) (written-length ed s.plant (rule_control s) (begun ed s st) all begins.as_many begins.all-modes)
          ∙ ap (λ (l : List ℕ). l ++ tail) (written-parts ed s (begun ed s st) es fs e f)
          ∙ append_assoc front (one ++ (two ++ more)) tail
          ∙ ap (λ (l : List ℕ). front ++ l) (append_assoc one (two ++ more) tail ∙ ap (λ (l : List ℕ). one ++ l) (append_assoc two more tail))

      front_length : length (written ed s (begun ed s st) es) ≡ length es * record_size ed s.plant
      unfolding outcome_of
      front_length = written-length ed s.plant (rule_control s) (begun ed s st) es begins.as_many begins.all-modes

      first-length : length (recorded ed s first) ≡ record_size ed s.plant
      first-length = let i = kept_step ed file s h x e kept in record_length ed s.plant (rule_control s) first i.as_many i.all-modes

      last-length : length (recorded ed s last) ≡ record_size ed s.plant
      unfolding second
      last-length =
          let i = kept_step ed file s h first.left f (kept_step ed file s h x e kept) in
          record_length ed s.plant (rule_control s) last i.as_many i.all-modes

      -- the two records tell whether both were taken
      both-recorded : records_taken (record_size ed s.plant) (length es) (rule_run_of ed file start (flatten (es ++ (e ∷ f ∷ fs))) buffer).records ≡ both_taken ed s x e f
      unfolding records_taken record_at both_taken rest
      both-recorded =
          let size = record_size ed s.plant in
          let front = written ed s (begun ed s st) es in
          let one = recorded ed s first in
          let behind = ap (drop (suc (length es) * size)) buffer-holds ∙ records-behind size (length es) front one rest front_length first-length in
          ap₂ (λ (l m : List ℕ). record_taken l && record_taken m)
          (ap (record_at size (length es)) buffer-holds ∙ record-here size (length es) front one rest front_length first-length)
          (ap (take size) behind ∙ take_at (recorded ed s last) _ size last-length)
          ∙ ap₂ ◌&&◌ (recorded-taken ed s first) (recorded-taken ed s last)

-- ---- item 5 over records
exchanged-length : (es fs : List (List ℕ)) (e f : List ℕ) → length (es ++ (e ∷ f ∷ fs)) ≡ length (es ++ (f ∷ e ∷ fs))
exchanged-length es fs e f = length-append es (e ∷ f ∷ fs) ∙ sym (length-append es (f ∷ e ∷ fs))

exchanged-all : {A : Type 0} {P : A → Type 0} (l k : List A) (x y : A) → All P (l ++ (x ∷ y ∷ k)) → All P (l ++ (y ∷ x ∷ k))
exchanged-all [] k x y (all_cons p (all_cons q r)) = all_cons q (all_cons p r)
exchanged-all (z ∷ l) k x y (all_cons p r) = all_cons p (exchanged-all l k x y r)

module _ (ed : Edition) (file : List ℕ) (s : Schedule) (h : judge_file ed file ≡ accepted s) (free : WithoutCase s) (start buffer : List ℕ)
    (es fs : List (List ℕ)) (e f : List ℕ) (w : AllWhole ed (es ++ (e ∷ f ∷ fs)))
    (z : (rule_run_of ed file start (flatten (es ++ (e ∷ f ∷ fs))) buffer).refusal ≡ 0)
    (st : Start) (k : start_in s.plant start ≡ some st) (i : Independent ed s (left_by ed s (begun ed s st) es) e f) where
  abbrev size : ℕ
  size = record_size ed s.plant

  admitted : Admitted ed s start buffer (es ++ (e ∷ f ∷ fs)) st
  admitted = taken-on ed file s h start buffer (es ++ (e ∷ f ∷ fs)) k z

  whole-exchanged : AllWhole ed (es ++ (f ∷ e ∷ fs))
  whole-exchanged = exchanged-all es fs e f w

  admitted-exchanged : Admitted ed s start buffer (es ++ (f ∷ e ∷ fs)) st
  admitted-exchanged =
      let n = flat-length ed.event_bytes w ∙ ap (λ n. n * ed.event_bytes) (exchanged-length es fs e f) ∙ sym (flat-length ed.event_bytes whole-exchanged) in
      as-many-admitted ed s start buffer (es ++ (e ∷ f ∷ fs)) (es ++ (f ∷ e ∷ fs)) n admitted

  -- the run by the rules
  pub rules-either-order : EitherOrderReturned (record_size ed s.plant) (length es)
      (rule_run_of ed file start (flatten (es ++ (e ∷ f ∷ fs))) buffer) (rule_run_of ed file start (flatten (es ++ (f ∷ e ∷ fs))) buffer)
  unfolding rest
  rules-either-order =
      let n = length es in
      let x = left_by ed s (begun ed s st) es in
      let order = independent-picks ed file s h free x (reachable ed file s h start buffer es (es ++ (e ∷ f ∷ fs)) admitted) e f i in
      let here = buffer-holds ed file s h start buffer es fs e f w admitted in
      let there = buffer-holds ed file s h start buffer es fs f e whole-exchanged admitted-exchanged in
      let both = both-recorded ed file s h start buffer es fs e f w admitted in
      let front = written ed s (begun ed s st) es in
      let long = front_length ed file s h start buffer es fs e f w admitted in
      let one = recorded ed s (step ed s.plant (rule_control s) x e) in
      let other = recorded ed s (step ed s.plant (rule_control s) x f) in
      let after_one = rest ed file s h start buffer es fs e f w admitted in
      let after-other = rest ed file s h start buffer es fs f e whole-exchanged admitted-exchanged in
      let ran = returned ed file s h start buffer (es ++ (e ∷ f ∷ fs)) w admitted in
      let ran-exchanged = returned ed file s h start buffer (es ++ (f ∷ e ∷ fs)) whole-exchanged admitted-exchanged in
      record {
        refusal = ap (λ (r : Ran). r.refusal) ran ∙ sym (ap (λ (r : Ran). r.refusal) ran-exchanged);
        counts = λ t.
            let b = sym both ∙ t in
            ap (λ (r : Ran). r.counts) ran ∙ counts-either ed s (begun ed s st) es fs e f b (sym order.taken ∙ b) (order.same b) ∙ sym (ap (λ (r : Ran). r.counts) ran-exchanged);
        taken = both ∙ order.taken ∙ sym (both-recorded ed file s h start buffer es fs f e whole-exchanged admitted-exchanged);
        before = ap (take (n * size)) here ∙ take_at front (one ++ after_one) (n * size) long ∙ sym (ap (take (n * size)) there ∙ take_at front (other ++ after-other) (n * size) long);
        behind = λ t.
            ap (drop (suc n * size)) here ∙ records-behind size n front one after_one long (first-length ed file s h start buffer es fs e f w admitted)
            ∙ ap₂ (λ (o : Answered Residual) (m : ℕ). recorded ed s o ++ (written ed s o.left fs ++ drop (m * size) buffer)) (order.same (sym both ∙ t)) (exchanged-length es fs e f)
            ∙ sym (ap (drop (suc n * size)) there ∙ records-behind size n front other after-other long (first-length ed file s h start buffer es fs f e whole-exchanged admitted-exchanged));
      }

-- the run of the table that compiling wrote for the file
pub table-either-order : (ed : Edition) (file : List ℕ) (s : Schedule) → judge_file ed file ≡ accepted s → WithoutCase s → (room : List ℕ) → (compile ed file room).refusal ≡ 0 →
    let table = take (compile ed file room).written (compile ed file room).table in
    (start buffer : List ℕ) (es fs : List (List ℕ)) (e f : List ℕ) → AllWhole ed (es ++ (e ∷ f ∷ fs)) → (table_run_of ed table start (flatten (es ++ (e ∷ f ∷ fs))) buffer).refusal ≡ 0 →
    (st : Start) → start_in s.plant start ≡ some st → Independent ed s (left_by ed s (begun ed s st) es) e f →
    EitherOrderReturned (record_size ed s.plant) (length es) (table_run_of ed table start (flatten (es ++ (e ∷ f ∷ fs))) buffer) (table_run_of ed table start (flatten (es ++ (f ∷ e ∷ fs))) buffer)
table-either-order ed file s h free room c start buffer es fs e f w z st k i =
    let same = (agreement ed file room c).same in
    let one = same start (flatten (es ++ (e ∷ f ∷ fs))) buffer in
    let other = same start (flatten (es ++ (f ∷ e ∷ fs))) buffer in
    subst₂ (EitherOrderReturned (record_size ed s.plant) (length es)) one other
    (rules-either-order ed file s h free start buffer es fs e f w (ap (λ (r : Ran). r.refusal) one ∙ z) st k i)
