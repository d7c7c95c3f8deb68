-- One answer and one record for each event: the three counts add up to the events, and the records are as long as the buffer needs.
use mathlib.Core.Path.{◌≡◌, refl, sym, ap, ◌∙◌}
use mathlib.Core.Bool.{Bool, true, false}
use mathlib.Core.List.{List, [], ◌∷◌, ◌++◌, map, flat_map}
use mathlib.Core.Option.{Option, none, some}
use Prim.Native.Nat.{ℕ, zero, suc, ◌+◌, ◌*◌, ◌≤◌, ◌<◌}
use native.Mathlib.Nat.{suc-mul, zero-mul, add_comm}
use native.Mathlib.Omega.{arith}
use borrow.Author.Tests.{eqb-true, eqb-false, le-leb, lt-leb}
use lib.Dec.{eqb}
use lib.ListN.{length, length-append}
use lib.IntN.{ℤ}
use Rattle.semantics.specs.Bytes.{within, big_endian, out4}
use Rattle.semantics.specs.Editions.{Edition}
use Rattle.semantics.specs.Expressions.{Side, above, below}
use Rattle.semantics.specs.Plant.{Plant, selectors}
use Rattle.semantics.specs.Events.{event_in}
use Rattle.semantics.specs.Run.{Next, to, finished, halted, idle, Control, Verdict, Moved, nobody, mover, Done, judge, Situation, Answered, fault_answer, turned_away_by, arrive, follow, settle, step, answers, acting_set, value_bytes, record_bytes, record_of, is_taken, is_turned_away, is_faulted, how_many, counts_from}
use Rattle.semantics.specs.Counting.{Counted, no_answer, one_taken, one_away, one_above, one_below}
use Rattle.semantics.specs.Calls.{record_size, outcome_of}
use Rattle.semantics.proofs.Facts.{true-not-false, by_cases, within_low, within-high, within_both}
use Rattle.semantics.proofs.Verdicts.{in_judging, Verdicts, is_away, is_faulty, is_pass, Fair, judge-verdicts}

-- ---- an answer is of just one of the three kinds
pub data Answer (n : ℕ) : Type 0 where
  only_taken : is_taken n ≡ true → is_turned_away n ≡ false → is_faulted n ≡ false → Answer n
  only_away : is_taken n ≡ false → is_turned_away n ≡ true → is_faulted n ≡ false → Answer n
  only_faulted : is_taken n ≡ false → is_turned_away n ≡ false → is_faulted n ≡ true → Answer n

-- 203 and 204
fault-answer : (side : Side) → Answer (fault_answer side)
unfolding fault_answer is_taken is_turned_away is_faulted within
fault-answer above = only_faulted refl refl refl
fault-answer below = only_faulted refl refl refl

away-answer : (n : ℕ) → is_turned_away n ≡ true → Answer n
unfolding is_taken is_turned_away is_faulted within
away-answer n h =
    let low = within_low 23 31 n h in
    let high = within-high 23 31 n h in
    only_away (rw (lt-leb 200 n (omega arith)) refl) h (rw (lt-leb 203 n (omega arith)) refl)

judged-away : (n : ℕ) → in_judging n ≡ true → is_turned_away n ≡ true
unfolding in_judging is_turned_away
judged-away n h = let low = within_low 24 31 n h in within_both 23 31 n (omega arith) (within-high 24 31 n h)

judged-answer : (n : ℕ) → in_judging n ≡ true → Answer n
judged-answer n h = away-answer n (judged-away n h)

module _ {A : Type 0} (f : A → Bool) (x : A) (l : List A) where
  pub counted : f x ≡ true → how_many f (x ∷ l) ≡ suc (how_many f l)
  unfolding how_many
  counted h = rw (h, how_many) refl

  pub uncounted : f x ≡ false → how_many f (x ∷ l) ≡ how_many f l
  unfolding how_many
  uncounted h = rw (h, how_many) refl

one-counted : (n : ℕ) (l : List ℕ) {k : ℕ} → Answer n → how_many is_taken l + how_many is_turned_away l + how_many is_faulted l ≡ k →
    how_many is_taken (n ∷ l) + how_many is_turned_away (n ∷ l) + how_many is_faulted (n ∷ l) ≡ suc k
one-counted n l (only_taken t a f) h =
    let i = counted is_taken n l t in let j = uncounted is_turned_away n l a in let m = uncounted is_faulted n l f in omega arith
one-counted n l (only_away t a f) h =
    let i = uncounted is_taken n l t in let j = counted is_turned_away n l a in let m = uncounted is_faulted n l f in omega arith
one-counted n l (only_faulted t a f) h =
    let i = uncounted is_taken n l t in let j = uncounted is_turned_away n l a in let m = counted is_faulted n l f in omega arith

-- the three counts by the numbers themselves
one-fault : {n taken away faulted : ℕ} {l : List ℕ} → 203 ≤ n → n ≤ 204 → Counted l taken away faulted → Counted (n ∷ l) taken away (suc faulted)
one-fault {n} i j k = by_cases (eqb n 203) (λ e. one_above (eqb-true n 203 e) k) (λ e. one_below (let f = eqb-false n 203 e in omega arith) k)

counted-more : (n : ℕ) (l : List ℕ) → Answer n → Counted l (how_many is_taken l) (how_many is_turned_away l) (how_many is_faulted l) →
    Counted (n ∷ l) (how_many is_taken (n ∷ l)) (how_many is_turned_away (n ∷ l)) (how_many is_faulted (n ∷ l))
unfolding is_taken is_turned_away is_faulted
counted-more n l (only_taken t a f) k =
    rw (counted is_taken n l t, uncounted is_turned_away n l a, uncounted is_faulted n l f) (one_taken (within_low 200 202 n t) (within-high 200 202 n t) k)
counted-more n l (only_away t a f) k =
    rw (uncounted is_taken n l t, counted is_turned_away n l a, uncounted is_faulted n l f) (one_away (within_low 23 31 n a) (within-high 23 31 n a) k)
counted-more n l (only_faulted t a f) k =
    rw (uncounted is_taken n l t, uncounted is_turned_away n l a, counted is_faulted n l f) (one-fault (within_low 203 204 n f) (within-high 203 204 n f) k)

-- and answers that are counted by the numbers are counted so by the tests
module _ (n : ℕ) where
  no-away : 31 < n → is_turned_away n ≡ false
  unfolding is_turned_away within
  no-away h = rw (le-leb 23 n (omega arith), lt-leb n 31 h) refl

  no_fault : n < 203 → is_faulted n ≡ false
  unfolding is_faulted within
  no_fault h = rw (lt-leb 203 n h) refl

-- the answer k, which is neither taken nor turned away, in front of answers that are counted
fault-told : (n : ℕ) (l : List ℕ) {k t a f : ℕ} → n ≡ k → is_taken k ≡ false → is_turned_away k ≡ false → is_faulted k ≡ true →
    (how_many is_taken l ≡ t) × (how_many is_turned_away l ≡ a) × (how_many is_faulted l ≡ f) →
    (how_many is_taken (n ∷ l) ≡ t) × (how_many is_turned_away (n ∷ l) ≡ a) × (how_many is_faulted (n ∷ l) ≡ suc f)
fault-told n l e i j m q =
    (uncounted is_taken n l (ap is_taken e ∙ i) ∙ q.0, uncounted is_turned_away n l (ap is_turned_away e ∙ j) ∙ q.1, counted is_faulted n l (ap is_faulted e ∙ m) ∙ ap suc q.2)

each-told : {l : List ℕ} {taken away faulted : ℕ} → Counted l taken away faulted → (how_many is_taken l ≡ taken) × (how_many is_turned_away l ≡ away) × (how_many is_faulted l ≡ faulted)
unfolding is_taken is_turned_away is_faulted within how_many
each-told no_answer = (refl, refl, refl)
each-told (one_taken {a = n} {l = l} i j k) =
    let q = each-told k in
    (counted is_taken n l (within_both 200 202 n i j) ∙ ap suc q.0, uncounted is_turned_away n l (no-away n (omega arith)) ∙ q.1, uncounted is_faulted n l (no_fault n (omega arith)) ∙ q.2)
each-told (one_away {a = n} {l = l} i j k) =
    let q = each-told k in
    (uncounted is_taken n l (rw (lt-leb 200 n (omega arith)) refl) ∙ q.0, counted is_turned_away n l (within_both 23 31 n i j) ∙ ap suc q.1, uncounted is_faulted n l (no_fault n (omega arith)) ∙ q.2)
each-told (one_above {a = n} {l = l} e k) = fault-told n l e refl refl refl (each-told k)
each-told (one_below {a = n} {l = l} e k) = fault-told n l e refl refl refl (each-told k)

pub counts-told : {l : List ℕ} {taken away faulted : ℕ} → Counted l taken away faulted → counts_from l ≡ record { taken = taken; turned_away = away; faulted = faulted }
unfolding counts_from
counts-told k = let q = each-told k in rw (q.0, q.1, q.2) refl

-- ---- the bytes of a record
pub set-length : (k n : ℕ) → length (big_endian k n) ≡ k
unfolding big_endian
set-length zero n = refl
set-length (suc k) n = ap suc (set-length k n)

values_length : (vs : List ℤ) → length (flat_map value_bytes vs) ≡ 4 * length vs
unfolding flat_map value_bytes out4
values_length [] = refl
values_length (v ∷ vs) = let ih = values_length vs in omega arith

-- an answer that turns away is no fault
away-no-fault : {n : ℕ} → Answer n → is_turned_away n ≡ true → is_faulted n ≡ false
away-no-fault (only_taken t a f) h = f
away-no-fault (only_away t a f) h = f
away-no-fault (only_faulted t a f) h = true-not-false (sym h ∙ a)

-- ---- a step: its answer is of one kind, a fault ends the run, and values and modes stay as many
pub record Stepped {S : Type 0} (s : Situation S) (o : Answered S) : Type 0 where
  pub answered : Answer o.answer
  pub fault_ends : is_faulted o.answer ≡ true → o.left.place ≡ none
  pub values_kept : length o.left.values ≡ length s.values
  pub modes_kept : length o.left.modes ≡ length s.modes

module _ {S : Type 0} (ed : Edition) (p : Plant) (c : Control S) where
  away-stepped : (s : Situation S) (n : ℕ) → Answer n → is_turned_away n ≡ true → Stepped s (turned_away_by n s)
  unfolding turned_away_by
  away-stepped s n h k = record { answered = h; fault_ends = λ f. true-not-false (sym f ∙ away-no-fault h k); values_kept = refl; modes_kept = refl }

  arrive-stepped : (s : Situation S) (x : Next S) (vs : List ℤ) (ms : List ℕ) → length vs ≡ length s.values → length ms ≡ length s.modes →
      Stepped s (arrive s x vs ms)
  unfolding arrive is_taken is_turned_away is_faulted within
  arrive-stepped s (to y) vs ms h k = record { answered = only_taken refl refl refl; fault_ends = λ f. true-not-false (sym f); values_kept = h; modes_kept = k }
  arrive-stepped s finished vs ms h k = record { answered = only_taken refl refl refl; fault_ends = λ f. refl; values_kept = h; modes_kept = k }
  arrive-stepped s halted vs ms h k = record { answered = only_taken refl refl refl; fault_ends = λ f. refl; values_kept = h; modes_kept = k }
  arrive-stepped s idle vs ms h k = away-stepped s 25 (only_away refl refl refl) refl

  follow-stepped : (x : S) (s : Situation S) (m : Moved) (vs : List ℤ) (ms : List ℕ) → length vs ≡ length s.values → length ms ≡ length s.modes →
      Stepped s (follow c x s m vs ms)
  unfolding follow
  follow-stepped x s nobody vs ms h k = arrive-stepped s (to x) vs ms h k
  follow-stepped x s (mover n b) vs ms h k = arrive-stepped s (c.next x n b) vs ms h k

  settle-stepped : (x : S) (s : Situation S) {v : Verdict Done} → Verdicts (Fair c.action (c.acting x) s.values s.modes) v →
      Stepped s (settle c x s v)
  unfolding settle
  settle-stepped x s (is_away {n = n} h) = away-stepped s n (judged-answer n h) (judged-away n h)
  settle-stepped x s (is_faulty {s = side}) = record { answered = fault-answer side; fault_ends = λ f. refl; values_kept = refl; modes_kept = refl }
  settle-stepped x s (is_pass {a = a} f) = follow-stepped x s a.moved a.values a.modes f.values_kept f.modes_kept

  pub step-stepped : (s : Situation S) (e : List ℕ) → Stepped s (step ed p c s e)
  unfolding step is_taken is_turned_away is_faulted within
  step-stepped s e = by_place s.place
    where
      by_place : (o : Option S) → Stepped s
          (elim o [ none ↦ turned_away_by 23 s | some x ↦ settle c x s (judge ed p c.action (c.acting x) s.values s.modes (event_in ed e)) ])
      by_place none = away-stepped s 23 (only_away refl refl refl) refl
      by_place (some x) = settle-stepped x s (judge-verdicts ed p c.action (c.acting x) s.values s.modes (event_in ed e))

  -- ---- as many answers as events
  pub answers-length : (s : Situation S) (es : List (List ℕ)) → length (answers ed p c s es) ≡ length es
  unfolding answers
  answers-length s [] = refl
  answers-length s (e ∷ es) = ap suc (answers-length (step ed p c s e).left es)

  pub counts-sum : (s : Situation S) (es : List (List ℕ)) →
      let said = (outcome_of ed c (answers ed p c s es)).said in
      how_many is_taken said + how_many is_turned_away said + how_many is_faulted said ≡ length es
  unfolding outcome_of answers how_many
  counts-sum s [] = refl
  counts-sum s (e ∷ es) = one-counted (step ed p c s e).answer (map (λ (o : Answered S). o.answer) (answers ed p c (step ed p c s e).left es)) (step-stepped s e).answered (counts-sum (step ed p c s e).left es)

  pub answers-counted : (s : Situation S) (es : List (List ℕ)) →
      let said = map (λ (o : Answered S). o.answer) (answers ed p c s es) in
      Counted said (how_many is_taken said) (how_many is_turned_away said) (how_many is_faulted said)
  unfolding answers how_many
  answers-counted s [] = no_answer
  answers-counted s (e ∷ es) =
      counted-more (step ed p c s e).answer (map (λ (o : Answered S). o.answer) (answers ed p c (step ed p c s e).left es)) (step-stepped s e).answered (answers-counted (step ed p c s e).left es)

  -- ---- as many bytes as the records need
  pub record_length : (o : Answered S) → length o.left.values ≡ length p.variables → length o.left.modes ≡ length (selectors p) →
      length (record_of ed c o) ≡ record_size ed p
  unfolding record_of record_bytes record_size
  record_length o h k =
      let set = big_endian ed.set_bytes (acting_set c o.left.place) in
      let values = flat_map value_bytes o.left.values in
      let a = length-append set (values ++ o.left.modes) in
      let b = length-append values o.left.modes in
      let i = set-length ed.set_bytes (acting_set c o.left.place) in
      let j = values_length o.left.values in
      omega arith

  pub written-length : (s : Situation S) (es : List (List ℕ)) → length s.values ≡ length p.variables → length s.modes ≡ length (selectors p) →
      length (outcome_of ed c (answers ed p c s es)).written ≡ length es * record_size ed p
  unfolding outcome_of answers flat_map
  written-length s [] h k = sym (zero-mul (record_size ed p))
  written-length s (e ∷ es) h k =
      let o = step-stepped s e in
      let ih = written-length (step ed p c s e).left es (o.values_kept ∙ h) (o.modes_kept ∙ k) in
      let one = record_length (step ed p c s e) (o.values_kept ∙ h) (o.modes_kept ∙ k) in
      let rest = flat_map (record_of ed c) (answers ed p c (step ed p c s e).left es) in
      let a = length-append (record_of ed c (step ed p c s e)) rest in
      let m = suc-mul (length es) (record_size ed p) in
      a ∙ rw (one, ih, m) (add_comm _ _)

-- ---- counts do not depend on which taken answer stands at a place
taken-not-away : (n : ℕ) → is_taken n ≡ true → is_turned_away n ≡ false
unfolding is_taken is_turned_away
taken-not-away n h = by_cases (within 23 31 n) (λ e. let a = within_low 200 202 n h in let b = within-high 23 31 n e in absurd (omega arith)) (λ e. e)

taken-no-fault : (n : ℕ) → is_taken n ≡ true → is_faulted n ≡ false
unfolding is_taken is_faulted
taken-no-fault n h = by_cases (within 203 204 n) (λ e. let a = within-high 200 202 n h in let b = within_low 203 204 n e in absurd (omega arith)) (λ e. e)

as_many : {A : Type 0} (f : A → Bool) (l k : List A) {a b : A} → f a ≡ f b → how_many f (l ++ (a ∷ k)) ≡ how_many f (l ++ (b ∷ k))
unfolding how_many
as_many f [] k e = rw e refl
as_many f (x ∷ l) k e = ap (λ n. elim (f x) [ true ↦ suc n | false ↦ n ]) (as_many f l k e)

pub taken-counted : (l k : List ℕ) (a b : ℕ) → is_taken a ≡ true → is_taken b ≡ true → counts_from (l ++ (a ∷ k)) ≡ counts_from (l ++ (b ∷ k))
unfolding counts_from
taken-counted l k a b g h = rw (
  as_many is_taken l k (g ∙ sym h),
  as_many is_turned_away l k (taken-not-away a g ∙ sym (taken-not-away b h)),
  as_many is_faulted l k (taken-no-fault a g ∙ sym (taken-no-fault b h)),
) refl
