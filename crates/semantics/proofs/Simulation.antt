-- Two controls that agree give the same run: the same answers and the same records.
use mathlib.Core.Path.{◌≡◌, refl, ap, ap₂, fun_ext}
use mathlib.Core.Bool.{Bool, true}
use mathlib.Core.List.{List, [], ◌∷◌, ◌++◌, map, flat_map, Memᴰ as Mem}
use mathlib.Core.Option.{Option, none, some}
use Prim.Native.Nat.{ℕ}
use lib.IntN.{ℤ}
use Rattle.semantics.specs.Editions.{Edition}
use Rattle.semantics.specs.Plant.{Plant}
use Rattle.semantics.specs.Events.{Event, event_in}
use Rattle.semantics.specs.Run.{possible, Next, to, finished, halted, idle, Control, Verdict, Moved, Done, judge, Situation, Answered, at, turned_away_by, arrive, follow, settle, step, answers, set_number, acting_set, record_bytes, record_of}
use Rattle.semantics.specs.Calls.{outcome_of}
use Rattle.semantics.proofs.Verdicts.{Verdicts, is_away, is_faulty, is_pass, Movable, nobody_moves, one_moves, Fair, judge-verdicts}

module _ {S R : Type 0} (Sim : S → R → Type 0) where
  pub data NextRel : Next S → Next R → Type 0 where
    to-rel : {x : S} {y : R} → Sim x y → NextRel (to x) (to y)
    finished-rel : NextRel finished finished
    halted-rel : NextRel halted halted
    idle-rel : NextRel idle idle

  pub data PlaceRel : Option S → Option R → Type 0 where
    both-over : PlaceRel none none
    both_at : {x : S} {y : R} → Sim x y → PlaceRel (some x) (some y)

  pub record SituationRel (s : Situation S) (t : Situation R) : Type 0 where
    pub places : PlaceRel s.place t.place
    pub values_same : s.values ≡ t.values
    pub modes-same : s.modes ≡ t.modes

  pub record AnsweredRel (o : Answered S) (q : Answered R) : Type 0 where
    pub answer-same : o.answer ≡ q.answer
    pub lefts : SituationRel o.left q.left

  data AllAnswered : List (Answered S) → List (Answered R) → Type 0 where
    none-answered : AllAnswered [] []
    one-answered : {o : Answered S} {q : Answered R} {l : List (Answered S)} {k : List (Answered R)} →
        AnsweredRel o q → AllAnswered l k → AllAnswered (o ∷ l) (q ∷ k)

  module _ {s : Situation S} {t : Situation R} (r : SituationRel s t) where
    pub away-rel : (n : ℕ) → AnsweredRel (turned_away_by n s) (turned_away_by n t)
    unfolding turned_away_by
    away-rel n = record { answer-same = refl; lefts = r }

    pub arrive-rel : {x : Next S} {y : Next R} (vs : List ℤ) (ms : List ℕ) → NextRel x y → AnsweredRel (arrive s x vs ms) (arrive t y vs ms)
    unfolding arrive
    arrive-rel vs ms (to-rel h) = record { answer-same = refl; lefts = record { places = both_at h; values_same = refl; modes-same = refl } }
    arrive-rel vs ms finished-rel = record { answer-same = refl; lefts = record { places = both-over; values_same = refl; modes-same = refl } }
    arrive-rel vs ms halted-rel = record { answer-same = refl; lefts = record { places = both-over; values_same = refl; modes-same = refl } }
    arrive-rel vs ms idle-rel = away-rel 25

-- what two controls have to agree on
pub record Agree {S R : Type 0} (c : Control S) (d : Control R) (Sim : S → R → Type 0) : Type 0 where
  pub starts : Sim c.start d.start
  pub actions : (n : ℕ) → c.action n ≡ d.action n
  pub acting_same : (x : S) (y : R) → Sim x y → c.acting x ≡ d.acting y
  pub nexts : (x : S) (y : R) → Sim x y → (n : ℕ) → Mem n (c.acting x) → (b : Bool) → possible (c.action n) b ≡ true →
      NextRel Sim (c.next x n b) (d.next y n b)

module _ {S R : Type 0} {c : Control S} {d : Control R} {Sim : S → R → Type 0} (ed : Edition) (p : Plant) (agree : Agree c d Sim) where
  follow-rel : {s : Situation S} {t : Situation R} (x : S) (y : R) {m : Moved} (vs : List ℤ) (ms : List ℕ) → SituationRel Sim s t → Sim x y →
      Movable c.action (c.acting x) m → AnsweredRel Sim (follow c x s m vs ms) (follow d y t m vs ms)
  unfolding follow
  follow-rel x y vs ms r h nobody_moves = arrive-rel Sim r vs ms (to-rel h)
  follow-rel x y vs ms r h (one_moves {n = n} {b = b} m e) = arrive-rel Sim r vs ms (agree.nexts x y h n m b e)

  settle-rel : {s : Situation S} {t : Situation R} (x : S) (y : R) {v : Verdict Done} (vs : List ℤ) (ms : List ℕ) → SituationRel Sim s t → Sim x y →
      Verdicts (Fair c.action (c.acting x) vs ms) v → AnsweredRel Sim (settle c x s v) (settle d y t v)
  unfolding settle
  settle-rel x y vs ms r h (is_away {n = n} e) = away-rel Sim r n
  settle-rel x y vs ms r h is_faulty =
      record { answer-same = refl; lefts = record { places = both-over; values_same = r.values_same; modes-same = r.modes-same } }
  settle-rel x y vs ms r h (is_pass {a = a} f) = follow-rel x y a.values a.modes r h f.mover_acts

  -- both controls judge an event alike, for a verdict does not speak of the place
  judge-same : (x : S) (y : R) → Sim x y → (s : Situation S) (t : Situation R) → SituationRel Sim s t → (e : Event) →
      judge ed p c.action (c.acting x) s.values s.modes e ≡ judge ed p d.action (d.acting y) t.values t.modes e
  judge-same x y h s t r e =
      let actions : c.action ≡ d.action = fun_ext agree.actions in
      rw (actions, agree.acting_same x y h, r.values_same, r.modes-same)

  step-rel : (s : Situation S) (t : Situation R) (e : List ℕ) → SituationRel Sim s t → AnsweredRel Sim (step ed p c s e) (step ed p d t e)
  unfolding step
  step-rel s t e r = by_place r.places
    where
      event : Event
      event = event_in ed e

      by_place : {a : Option S} {b : Option R} → PlaceRel Sim a b → AnsweredRel Sim
          (elim a [ none ↦ turned_away_by 23 s | some x ↦ settle c x s (judge ed p c.action (c.acting x) s.values s.modes (event_in ed e)) ])
          (elim b [ none ↦ turned_away_by 23 t | some y ↦ settle d y t (judge ed p d.action (d.acting y) t.values t.modes (event_in ed e)) ])
      by_place both-over = away-rel Sim r 23
      by_place (both_at {x = x} {y = y} h) =
          rw (← judge-same x y h s t r event)
          (settle-rel x y s.values s.modes r h (judge-verdicts ed p c.action (c.acting x) s.values s.modes event))

  answers-rel : (s : Situation S) (t : Situation R) (es : List (List ℕ)) → SituationRel Sim s t → AllAnswered Sim (answers ed p c s es) (answers ed p d t es)
  unfolding answers
  answers-rel s t [] r = none-answered
  answers-rel s t (e ∷ es) r =
      let o = step-rel s t e r in
      one-answered o (answers-rel (step ed p c s e).left (step ed p d t e).left es o.lefts)

  set_same : {a : Option S} {b : Option R} → PlaceRel Sim a b → acting_set c a ≡ acting_set d b
  unfolding acting_set
  set_same both-over = refl
  set_same (both_at {x = x} {y = y} h) = ap set_number (agree.acting_same x y h)

  record_same : {o : Answered S} {q : Answered R} → AnsweredRel Sim o q → record_of ed c o ≡ record_of ed d q
  unfolding record_of record_bytes
  record_same h = rw (h.answer-same, set_same h.lefts.places, h.lefts.values_same, h.lefts.modes-same)

  written_same : {l : List (Answered S)} {k : List (Answered R)} → AllAnswered Sim l k → flat_map (record_of ed c) l ≡ flat_map (record_of ed d) k
  unfolding flat_map
  written_same none-answered = refl
  written_same (one-answered h r) = ap₂ ◌++◌ (record_same h) (written_same r)

  said_same : {l : List (Answered S)} {k : List (Answered R)} → AllAnswered Sim l k →
      map (λ (o : Answered S). o.answer) l ≡ map (λ (o : Answered R). o.answer) k
  said_same none-answered = refl
  said_same (one-answered h r) = ap₂ ◌∷◌ h.answer-same (said_same r)

  pub runs-agree : (vs : List ℤ) (ms : List ℕ) (es : List (List ℕ)) →
      outcome_of ed c (answers ed p c (at c.start vs ms) es) ≡ outcome_of ed d (answers ed p d (at d.start vs ms) es)
  unfolding outcome_of
  runs-agree vs ms es =
      let r : SituationRel Sim (at c.start vs ms) (at d.start vs ms) = record { places = both_at agree.starts; values_same = refl; modes-same = refl } in
      let all = answers-rel (at c.start vs ms) (at d.start vs ms) es r in
      rw (said_same all, written_same all)
