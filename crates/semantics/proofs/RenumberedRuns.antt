-- Two controls that agree but for the numbers of their nodes and the order in which these are asked: corresponding events get the same answers.
use mathlib.Core.Path.{◌≡◌, refl, sym, ap, ap₂, subst, ◌∙◌}
use mathlib.Core.Bool.{Bool, true, false}
use mathlib.Core.List.Memᴰ
use mathlib.Core.List.Permᴰ
use mathlib.Core.List.Permᴰ.{nil as perm-nil}
use mathlib.Core.List.Permᴰ.{trans as perm-trans}
use mathlib.Core.List.{List, [], ◌∷◌, ◌++◌, map, flat_map, Memᴰ as Mem, map-id, map-map, Permᴰ as Permuted}
use mathlib.Core.Logic.{◌↔◌}
use mathlib.Core.Option.{Option, none, some}
use Prim.Native.Nat.{ℕ, suc, ◌+◌}
use native.Mathlib.Omega.{arith}
use lib.IntN.{ℤ}
use lib.ListN.{get_elem?, take, drop}
use lib.Seq.{drop_at}
use Rattle.semantics.specs.Bytes.{big_endian}
use Rattle.semantics.specs.Editions.{Edition}
use Rattle.semantics.specs.Expressions.{Side, value_of_truth}
use Rattle.semantics.specs.Sections.{Variable}
use Rattle.semantics.specs.Plant.{Plant, among, current_modes, current_truths, rate_of, advance}
use Rattle.semantics.specs.Events.{Event, tick, pick, take_switch, senseless, event_in}
use Rattle.semantics.specs.Run.{Action, test, wait, assign, switch, stop, Next, to, finished, halted, idle, Control, Verdict, away, faulty, pass, ◌>>=◌, ◌>>◌, allow, find, valued, Moved, nobody, mover, Done, walk, check_modes, assigned, act, check_of_switch, judge_pick, judge_switch, judge_tick, judge, Situation, Answered, at, turned_away_by, follow, settle, step, answers, answers_in, acting_set, value_bytes, record_bytes, record_of}
use Rattle.semantics.specs.Rules.{CurrentSwitch, Found, nothing, found_true, found_fault, Checks, Waits}
use Rattle.semantics.specs.Renumbering.{renumbered, Corresponding, acting_now, SameButNumbers, StopAlike, EitherFirst, EitherFirstAtTicks, no-event, one-event}
use Rattle.semantics.specs.Writing.{Each, each_nil, each_cons}
use Rattle.semantics.proofs.Facts.{true-not-false, by_cases, among-mem, mem-among}
use Rattle.semantics.proofs.StepParts.{found_as, walk-found, waits-every, waits-truths, Waiting, all_wait, one_acts, waiting, acts-every}
use Rattle.semantics.proofs.Currents.{check-walk, found-check}
use Rattle.semantics.proofs.RunCounts.{set-length}
use Rattle.semantics.proofs.Simulation.{NextRel, to-rel, finished-rel, halted-rel, idle-rel, PlaceRel, both-over, both_at, SituationRel, AnsweredRel, away-rel, arrive-rel}
use Rattle.semantics.proofs.WalksInAnyOrder.{perm-mem, walk-any-order, waits-reordered, waits-renumbered}

-- what the two have to agree on
pub record AgreeRenumbered {S R : Type 0} (number : ℕ → ℕ) (c : Control S) (d : Control R) (Sim : S → R → Type 0) : Type 0 where
  pub starts : Sim c.start d.start
  pub one_to_one : (m n : ℕ) → number m ≡ number n → m ≡ n
  pub actions : (n : ℕ) → d.action (number n) ≡ c.action n
  pub acting_same : (x : S) (y : R) → Sim x y → Permuted (map number (c.acting x)) (d.acting y)
  pub nexts : (x : S) (y : R) → Sim x y → (n : ℕ) → Mem n (c.acting x) → (b : Bool) → NextRel Sim (c.next x n b) (d.next y (number n) b)

-- ---- verdicts that differ at most in the mover's number
data MovesAlike (number : ℕ → ℕ) (acting : List ℕ) : Moved → Moved → Type 0 where
  nobody_alike : MovesAlike number acting nobody nobody
  mover_alike : {n : ℕ} {b : Bool} → Mem n acting → MovesAlike number acting (mover n b) (mover (number n) b)

data JudgedAlike (number : ℕ → ℕ) (acting : List ℕ) : Verdict Done → Verdict Done → Type 0 where
  both_away : {n : ℕ} → JudgedAlike number acting (away n) (away n)
  both_faulty : {side : Side} → JudgedAlike number acting (faulty side) (faulty side)
  both_pass : {m k : Moved} {vs : List ℤ} {ms : List ℕ} → MovesAlike number acting m k →
      JudgedAlike number acting (pass (record { moved = m; values = vs; modes = ms })) (pass (record { moved = k; values = vs; modes = ms }))

module _ {number : ℕ → ℕ} {acting : List ℕ} where
  bind-alike : {A : Type 0} (v : Verdict A) {f g : A → Verdict Done} → ((a : A) → JudgedAlike number acting (f a) (g a)) → JudgedAlike number acting (v >>= f) (v >>= g)
  unfolding ◌>>=◌
  bind-alike (away n) h = both_away
  bind-alike (faulty s) h = both_faulty
  bind-alike (pass a) h = h a

  then-alike : {A : Type 0} (v : Verdict A) {u w : Verdict Done} → JudgedAlike number acting u w → JudgedAlike number acting (v >> u) (v >> w)
  unfolding ◌>>◌
  then-alike (away n) h = both_away
  then-alike (faulty s) h = both_faulty
  then-alike (pass a) h = h

  allow-alike : (n : ℕ) (b : Bool) {u w : Verdict Done} → (b ≡ true → JudgedAlike number acting u w) → JudgedAlike number acting (allow n b >> u) (allow n b >> w)
  unfolding ◌>>◌ allow
  allow-alike n true h = h refl
  allow-alike n false h = both_away

  act-alike : (ed : Edition) (xs : List Variable) (vs : List ℤ) (ms : List ℕ) {n : ℕ} → Mem n acting → (a : Action) →
      JudgedAlike number acting (act ed xs vs ms n a) (act ed xs vs ms (number n) a)
  unfolding act
  act-alike ed xs vs ms m (test t) = bind-alike (valued (value_of_truth ed vs t)) (λ b. both_pass (mover_alike m))
  act-alike ed xs vs ms m (wait t) = bind-alike (valued (value_of_truth ed vs t)) (λ b. then-alike (allow 29 b) (both_pass (mover_alike m)))
  act-alike ed xs vs ms m (assign v t) = bind-alike (valued (assigned ed xs vs v t)) (λ ys. both_pass (mover_alike m))
  act-alike ed xs vs ms m (switch s k) = both_pass (mover_alike m)
  act-alike ed xs vs ms m stop = both_pass (mover_alike m)

  switch-alike : (ed : Edition) (p : Plant) (vs : List ℤ) (ms : List ℕ) (s k : ℕ) →
      JudgedAlike number acting (judge_switch ed (current_modes p ms) vs ms s k) (judge_switch ed (current_modes p ms) vs ms s k)
  unfolding judge_switch
  switch-alike ed p vs ms s k =
      bind-alike (find 26 (get_elem? (current_modes p ms) s)) (λ m. bind-alike (find 26 (get_elem? m.switches k)) (λ w.
      bind-alike (valued (value_of_truth ed vs w.truth)) (λ b. then-alike (allow 30 b) (both_pass nobody_alike))))

-- the nodes of a set and of its renumbered one
pub renumbered-mem : {number : ℕ → ℕ} → ((m n : ℕ) → number m ≡ number n → m ≡ n) → {l k : List ℕ} → Permuted (map number l) k → (n : ℕ) → Mem n l ↔ Mem (number n) k
renumbered-mem {number} one_to_one {l} p n = (
  λ m. perm-mem p (Memᴰ.map number m),
  λ m. (let q = Memᴰ.of_map number l (perm-mem (Permᴰ.symm p) m) in Memᴰ.cast (sym (one_to_one q.0 n q.2)) q.1),
)

-- ---- one event
module _ {S R : Type 0} {number : ℕ → ℕ} {c : Control S} {d : Control R} {Sim : S → R → Type 0} (ed : Edition) (p : Plant) (agree : AgreeRenumbered number c d Sim) where
  module _ (x : S) (y : R) (h : Sim x y) where
    acting-there : {n : ℕ} → Mem n (c.acting x) → Mem (number n) (d.acting y)
    acting-there {n} m = (renumbered-mem agree.one_to_one (agree.acting_same x y h) n).0 m

    acting-here : {n : ℕ} → Mem (number n) (d.acting y) → Mem n (c.acting x)
    acting-here {n} m = (renumbered-mem agree.one_to_one (agree.acting_same x y h) n).1 m

    among_same : (n : ℕ) → among (number n) (d.acting y) ≡ among n (c.acting x)
    among_same n = by_cases (among n (c.acting x))
        (λ e. mem-among (number n) (d.acting y) (acting-there (among-mem n (c.acting x) e)) ∙ sym e)
        (λ e. by_cases (among (number n) (d.acting y))
        (λ k. true-not-false (sym (mem-among n (c.acting x) (acting-here (among-mem (number n) (d.acting y) k))) ∙ e))
        (λ k. k ∙ sym e))

    module _ (vs : List ℤ) (ms : List ℕ) where
      -- the verdicts at both places on two events
      abbrev Alike : Event → Event → Type 0
      Alike e f = JudgedAlike number (c.acting x) (judge ed p c.action (c.acting x) vs ms e) (judge ed p d.action (d.acting y) vs ms f)

      pick-alike : (n : ℕ) → Alike (pick n) (pick (number n))
      unfolding judge judge_pick
      pick-alike n =
          rw (among_same n, agree.actions n)
          (allow-alike 25 (among n (c.acting x)) (λ e.
          then-alike (check_of_switch ed p vs ms) (act-alike ed p.variables vs ms (among-mem n (c.acting x) e) (c.action n))))

      -- all acting nodes wait: where the switch check stops, nobody is asked
      waits-alike : {ts : List (List ℕ)} → Waits c.action (c.acting x) ts → (f : Found) → Checks ed vs (CurrentSwitch p ms) f → (f ≡ nothing → StopAlike ed vs ts) → Alike tick tick
      unfolding judge judge_tick check_of_switch check_modes found_as ◌>>◌ allow
      waits-alike {ts} w nothing k a =
          let r = waits-reordered {action = d.action} (agree.acting_same x y h) (waits-renumbered number agree.actions w) in
          rw (waits-every w, waits-truths w, waits-every r.waits, waits-truths r.waits, ← walk-any-order ed 31 vs r.permuted (a refl))
          (then-alike (walk ed 28 vs (current_truths (current_modes p ms))) (then-alike (walk ed 31 vs ts)
          (bind-alike (valued (advance p.variables (rate_of p ms) vs)) (λ ys. both_pass nobody_alike))))
      waits-alike w found_true k a =
          let r = waits-reordered {action = d.action} (agree.acting_same x y h) (waits-renumbered number agree.actions w) in
          rw (waits-every w, waits-every r.waits, walk-found (check-walk k) 28) both_away
      waits-alike w (found_fault side) k a =
          let r = waits-reordered {action = d.action} (agree.acting_same x y h) (waits-renumbered number agree.actions w) in
          rw (waits-every w, waits-every r.waits, walk-found (check-walk k) 28) both_faulty

      -- what the order of the acting nodes asks of a tick
      abbrev AskedAlike : Type 0
      AskedAlike = (ts : List (List ℕ)) → Waits c.action (c.acting x) ts → Checks ed vs (CurrentSwitch p ms) nothing → StopAlike ed vs ts

      tick-alike : AskedAlike → Alike tick tick
      unfolding judge judge_tick
      tick-alike a = go (waiting c.action (c.acting x)) (found-check ed p vs ms)
        where
          go : Waiting c.action (c.acting x) → (f : Found) × Checks ed vs (CurrentSwitch p ms) f → Alike tick tick
          go (all_wait {ts = ts} w) k = waits-alike w k.0 k.1 (λ e. a ts w (subst (Checks ed vs (CurrentSwitch p ms)) e k.1))
          go (one_acts {n = n} m f) k =
              rw (acts-every c.action (c.acting x) m f, acts-every d.action (d.acting y) (acting-there m) (λ t e. f t (sym (agree.actions n) ∙ e)))
              (allow-alike 27 false (λ e. true-not-false (sym e)))

      judge-alike : (e : Event) → (e ≡ tick → AskedAlike) → Alike e (renumbered number e)
      unfolding judge renumbered
      judge-alike tick a = tick-alike (a refl)
      judge-alike (pick n) a = pick-alike n
      judge-alike (take_switch s k) a = switch-alike ed p vs ms s k
      judge-alike senseless a = both_away

    module _ {s : Situation S} {t : Situation R} (r : SituationRel Sim s t) where
      follow-alike : {m k : Moved} (vs : List ℤ) (ms : List ℕ) → MovesAlike number (c.acting x) m k → AnsweredRel Sim (follow c x s m vs ms) (follow d y t k vs ms)
      unfolding follow
      follow-alike vs ms nobody_alike = arrive-rel Sim r vs ms (to-rel h)
      follow-alike vs ms (mover_alike {n = n} {b = b} m) = arrive-rel Sim r vs ms (agree.nexts x y h n m b)

      settle-alike : {v w : Verdict Done} → JudgedAlike number (c.acting x) v w → AnsweredRel Sim (settle c x s v) (settle d y t w)
      unfolding settle
      settle-alike (both_away {n = n}) = away-rel Sim r n
      settle-alike both_faulty = record { answer-same = refl; lefts = record { places = both-over; values_same = r.values_same; modes-same = r.modes-same } }
      settle-alike (both_pass {vs = vs} {ms = ms} m) = follow-alike vs ms m

  step-alike : (s : Situation S) (t : Situation R) (e f : List ℕ) → (event_in ed e ≡ tick → EitherFirst ed p c s) → Corresponding ed number e f → SituationRel Sim s t →
      AnsweredRel Sim (step ed p c s e) (step ed p d t f)
  unfolding step
  step-alike s t e f a q r = by_place refl r.places
    where
      by_place : {u : Option S} {v : Option R} → s.place ≡ u → PlaceRel Sim u v → AnsweredRel Sim
          (elim u [ none ↦ turned_away_by 23 s | some x ↦ settle c x s (judge ed p c.action (c.acting x) s.values s.modes (event_in ed e)) ])
          (elim v [ none ↦ turned_away_by 23 t | some y ↦ settle d y t (judge ed p d.action (d.acting y) t.values t.modes (event_in ed f)) ])
      by_place i both-over = away-rel Sim r 23
      by_place i (both_at {x = x} {y = y} h) =
          settle-alike x y h r
          (rw (q, ← r.values_same, ← r.modes-same) (judge-alike x y h s.values s.modes (event_in ed e) (λ k ts w. (a k).asked x ts i w)))

  -- ---- a run
  acting-alike : {u : Option S} {v : Option R} → PlaceRel Sim u v → Permuted (map number (acting_now c u)) (acting_now d v)
  unfolding acting_now
  acting-alike both-over = perm-nil
  acting-alike (both_at {x = x} {y = y} h) = agree.acting_same x y h

  same-but-numbers : {o : Answered S} {q : Answered R} → AnsweredRel Sim o q → SameButNumbers number c d o q
  same-but-numbers h = record {
    answer = h.answer-same;
    values = h.lefts.values_same;
    modes = h.lefts.modes-same;
    acting = acting-alike h.lefts.places;
  }

  answers-alike : {s : Situation S} {t : Situation R} {es fs : List (List ℕ)} → EitherFirstAtTicks ed p c s es → Each (Corresponding ed number) es fs → SituationRel Sim s t →
      Each (SameButNumbers number c d) (answers ed p c s es) (answers ed p d t fs)
  unfolding answers
  answers-alike no-event each_nil r = each_nil
  answers-alike {s} {t} (one-event {e = e} a m) (each_cons {b = f} q k) r =
      let o = step-alike s t e f a q r in
      each_cons (same-but-numbers o) (answers-alike m k o.lefts)

  pub runs-renumbered : (vs : List ℤ) (ms : List ℕ) (es fs : List (List ℕ)) → EitherFirstAtTicks ed p c (at c.start vs ms) es → Each (Corresponding ed number) es fs →
      Each (SameButNumbers number c d) (answers ed p c (at c.start vs ms) es) (answers ed p d (at d.start vs ms) fs)
  runs-renumbered vs ms es fs m k = answers-alike m k (record { places = both_at agree.starts; values_same = refl; modes-same = refl })

pub same-said : {S R : Type 0} {number : ℕ → ℕ} {c : Control S} {d : Control R} {l : List (Answered S)} {k : List (Answered R)} →
    Each (SameButNumbers number c d) l k → answers_in l ≡ answers_in k
same-said each_nil = refl
same-said (each_cons h r) = ap₂ ◌∷◌ h.answer (same-said r)

-- ---- records
-- what stands behind the set of acting nodes
behind-set : {S : Type 0} (ed : Edition) (c : Control S) (o : Answered S) → drop (1 + ed.set_bytes) (record_of ed c o) ≡ flat_map value_bytes o.left.values ++ o.left.modes
unfolding record_of record_bytes
behind-set ed c o =
    let set = acting_set c o.left.place in
    let e : 1 + ed.set_bytes ≡ suc ed.set_bytes = omega arith in
    rw e (drop_at (big_endian ed.set_bytes set) (flat_map value_bytes o.left.values ++ o.left.modes) ed.set_bytes (set-length ed.set_bytes set))

-- two records differ at most in the set
pub records-but-numbers : {S R : Type 0} {number : ℕ → ℕ} {c : Control S} {d : Control R} {o : Answered S} {q : Answered R} (ed : Edition) → SameButNumbers number c d o q →
    (take 1 (record_of ed c o) ≡ take 1 (record_of ed d q)) × (drop (1 + ed.set_bytes) (record_of ed c o) ≡ drop (1 + ed.set_bytes) (record_of ed d q))
unfolding record_of record_bytes
records-but-numbers {c = c} {d = d} {o = o} {q = q} ed h =
    (ap (λ n. n ∷ []) h.answer, behind-set ed c o ∙ ap₂ (λ vs ms. flat_map value_bytes vs ++ ms) h.values h.modes ∙ sym (behind-set ed d q))

-- ---- agreement of a control with itself, and through a third
next-same : {S : Type 0} (x : Next S) → NextRel (λ (a b : S). a ≡ b) x x
next-same (to x) = to-rel refl
next-same finished = finished-rel
next-same halted = halted-rel
next-same idle = idle-rel

pub agree-unchanged : {S : Type 0} (c : Control S) → AgreeRenumbered (λ n. n) c c (λ (x y : S). x ≡ y)
agree-unchanged c = record {
  starts = refl;
  one_to_one = λ m n e. e;
  actions = λ n. refl;
  acting_same = λ x y e. rw (map-id (c.acting x), e) (Permᴰ.refl (c.acting y));
  nexts = λ x y e n m b. rw e (next-same (c.next y n b));
}

-- two relations, one after the other
abbrev pub Through : {S R T : Type 0} → (S → R → Type 0) → (R → T → Type 0) → S → T → Type 0
Through {R = R} Sim Sim' x z = (y : R) × Sim x y × Sim' y z

next-through : {S R T : Type 0} {Sim : S → R → Type 0} {Sim' : R → T → Type 0} {x : Next S} {y : Next R} {z : Next T} →
    NextRel Sim x y → NextRel Sim' y z → NextRel (Through Sim Sim') x z
next-through (to-rel {y = y} h) (to-rel k) = to-rel (y, h, k)
next-through finished-rel finished-rel = finished-rel
next-through halted-rel halted-rel = halted-rel
next-through idle-rel idle-rel = idle-rel

pub agree_then : {S R T : Type 0} {f g : ℕ → ℕ} {c : Control S} {d : Control R} {e : Control T} {Sim : S → R → Type 0} {Sim' : R → T → Type 0} →
    AgreeRenumbered f c d Sim → AgreeRenumbered g d e Sim' → AgreeRenumbered (λ n. g (f n)) c e (Through Sim Sim')
agree_then {f = f} {g = g} {c = c} {d = d} {e = e} a b = record {
  starts = (d.start, a.starts, b.starts);
  one_to_one = λ m n h. a.one_to_one m n (b.one_to_one (f m) (f n) h);
  actions = λ n. b.actions (f n) ∙ a.actions n;
  acting_same = λ x z h. rw (← map-map g f (c.acting x)) (perm-trans (Permᴰ.map g (a.acting_same x h.0 h.1)) (b.acting_same h.0 z h.2));
  nexts = λ x z h n m o. next-through (a.nexts x h.0 h.1 n m o) (b.nexts h.0 z h.2 (f n) (perm-mem (a.acting_same x h.0 h.1) (Memᴰ.map f m)) o);
}
