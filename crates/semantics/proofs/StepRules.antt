-- One event by `step` is one event by the rules.
use mathlib.Core.Path.{◌≡◌, refl, sym, ap, subst₂, ◌∙◌}
use mathlib.Core.Bool.{Bool, true, false}
use mathlib.Core.List.{List, [], ◌∷◌, Memᴰ as Mem}
use mathlib.Core.Logic.{◌↔◌}
use mathlib.Core.Option.{Option, none, some}
use Prim.Native.Nat.{ℕ}
use native.Mathlib.Omega.{arith}
use lib.IntN.{ℤ}
use lib.ListN.{get_elem?, set}
use Rattle.semantics.specs.Editions.{Edition}
use Rattle.semantics.specs.Expressions.{Side, above, below, Value, ok, fault, value_of_number, value_of_truth, then_value}
use Rattle.semantics.specs.Sections.{Variable, Switch, Mode}
use Rattle.semantics.specs.Plant.{Plant, among, current_modes, declared, declared_at, stored, advance, added, rate_of}
use Rattle.semantics.specs.Events.{Event, senseless, event_in}
use Rattle.semantics.specs.Run.{Action, test, wait, assign, switch, stop, is_test, possible, Next, to, finished, halted, idle, Control, Verdict, away, pass, ◌>>=◌, ◌>>◌, allow, find, valued, nobody, Done, walk, check_modes, assigned, act, judge_switch, check_of_switch, judge_pick, judge_tick, judge, Situation, Answered, at, over, fault_answer, turned_away_by, arrive, follow, settle, step, answers}
use Rattle.semantics.specs.Evaluating.{NumberComesTo, TruthComesTo}
use Rattle.semantics.specs.Rules.{SaysTick, SaysPick, SaysSwitch, Found, nothing, found_true, found_fault, Walks, Waits, InRange, Added, AllInRange, FirstOutside, Goes, goes_on, finishes, Faults, Rule, fault-above, fault-below, when-over, when-senseless, pick-idle, pick-switch-true, pick-switch-fault, pick-test, pick-test-fault, pick-wait, pick-wait-false, pick-wait-fault, pick-assign, pick-assign-fault, pick-assign-outside, pick-switch, pick-stop, switch-missing, switch-taken, switch-false, switch-fault, tick-busy, tick-switch-true, tick-switch-fault, tick-wait-true, tick-wait-fault, tick-taken, tick-outside, Derives, no-events, one-event, CurrentSwitch, Checks, Comes, by_move, Standing, stands_at, stands_over, Sound, Stopping}
use Rattle.semantics.proofs.Facts.{true-not-false, none-not-some, some_is, by_cases, among-mem, mem-among, at-exists}
use Rattle.semantics.proofs.ComesTo.{number-comes-to, number-value, truth-comes-to, truth-value}
use Rattle.semantics.proofs.EventDecoding.{decoded-tick, decoded-pick, decoded-switch, Said, says_tick, says_pick, says_switch, says_nothing, said_of}
use Rattle.semantics.proofs.Currents.{check-walk, found-check, is_current, current-is, rates-added, added-rates}
use Rattle.semantics.proofs.StepParts.{found_as, walk-found, found-walk, waits-every, waits-truths, Waiting, all_wait, one_acts, waiting, acts-every, inside-declared, outside-declared, Lies, lies_inside, lies_outside, lies, AllLie, all_inside, first_outside, all_lie, inside-all, outside-first}

-- ---- verdicts
declared-at : (xs : List Variable) (v : ℕ) {d : Variable} (z : ℤ) → get_elem? xs v ≡ some d → declared_at xs v z ≡ declared d z
unfolding declared_at
declared-at xs v z h = rw (h, declared_at) refl

-- the last stage of a tick
move_on : Plant → List ℤ → List ℕ → Verdict Done
move_on p vs ms = do
  ys ← valued (advance p.variables (rate_of p ms) vs)
  pass (record { moved = nobody; values = ys; modes = ms })

-- the stages of a switch event once the switch exists
switched : Edition → List ℤ → List ℕ → ℕ → Switch → Verdict Done
switched ed vs ms s w = do
  b ← valued (value_of_truth ed vs w.truth)
  allow 30 b
  pass (record { moved = nobody; values = vs; modes = set ms s w.target })

module _ (ed : Edition) (p : Plant) where
  idle-verdict : (action : ℕ → Action) (ns : List ℕ) (vs : List ℤ) (ms : List ℕ) {n : ℕ} → (Mem n ns → ⊥) → judge_pick ed p action ns vs ms n ≡ away 25
  unfolding judge_pick ◌>>◌ allow
  idle-verdict action ns vs ms {n} f = rw not-among refl
    where
      not-among : among n ns ≡ false
      not-among = by_cases (among n ns) (λ h. absurd (f (among-mem n ns h))) (λ h. h)

  pick-verdict : (action : ℕ → Action) (ns : List ℕ) (vs : List ℤ) (ms : List ℕ) {n : ℕ} {f : Found} → Mem n ns → Checks ed vs (CurrentSwitch p ms) f →
      judge_pick ed p action ns vs ms n ≡ (found_as 28 f >> act ed p.variables vs ms n (action n))
  unfolding judge_pick ◌>>◌ allow check_of_switch check_modes
  pick-verdict action ns vs ms {n} m w = rw (mem-among n ns m, walk-found (check-walk w) 28) refl

  busy-verdict : (action : ℕ → Action) (ns : List ℕ) (vs : List ℤ) (ms : List ℕ) {n : ℕ} → Mem n ns → ((t : List ℕ) → action n ≡ wait t → ⊥) → judge_tick ed p action ns vs ms ≡ away 27
  unfolding judge_tick ◌>>◌ allow
  busy-verdict action ns vs ms m f = rw (acts-every action ns m f) refl

  tick-verdict : (action : ℕ → Action) (ns : List ℕ) (vs : List ℤ) (ms : List ℕ) {ts : List (List ℕ)} {f : Found} → Waits action ns ts → Checks ed vs (CurrentSwitch p ms) f →
      judge_tick ed p action ns vs ms ≡ (found_as 28 f >> (walk ed 31 vs ts >> move_on p vs ms))
  unfolding judge_tick ◌>>◌ allow check_of_switch check_modes move_on
  tick-verdict action ns vs ms w k = rw (waits-every w, walk-found (check-walk k) 28, waits-truths w) refl

  missing-verdict : (vs : List ℤ) (ms : List ℕ) (s k : ℕ) → ((w : Switch) → CurrentSwitch p ms s k w → ⊥) → judge_switch ed (current_modes p ms) vs ms s k ≡ away 26
  unfolding judge_switch ◌>>=◌ find
  missing-verdict vs ms s k f = go (get_elem? (current_modes p ms) s) refl
    where
      no_switch : (m : Mode) → get_elem? (current_modes p ms) s ≡ some m → (o : Option Switch) → get_elem? m.switches k ≡ o → o ≡ none
      no_switch m h none g = refl
      no_switch m h (some w) g = absurd (f w (is_current p ms s k h g))

      go : (o : Option Mode) → get_elem? (current_modes p ms) s ≡ o → judge_switch ed (current_modes p ms) vs ms s k ≡ away 26
      go none h = rw h refl
      go (some m) h = rw (h, no_switch m h (get_elem? m.switches k) refl) refl

  switch-verdict : (vs : List ℤ) (ms : List ℕ) (s k : ℕ) {w : Switch} → CurrentSwitch p ms s k w → judge_switch ed (current_modes p ms) vs ms s k ≡ switched ed vs ms s w
  unfolding judge_switch ◌>>=◌ find switched
  switch-verdict vs ms s k c = let q = current-is p ms s k c in rw (q.1, q.2) refl

-- ---- a rule's answer is the step's
goes-arrive : {S : Type 0} {vs : List ℤ} {ms : List ℕ} {n : Next S} {a : ℕ} {t : Situation S} → Goes vs ms n a t → (s : Situation S) → arrive s n vs ms ≡ record { answer = a; left = t }
unfolding arrive
goes-arrive goes_on s = refl
goes-arrive finishes s = refl

-- where this situation is, a STOP that acts halts
abbrev pub StopsHalt : {S : Type 0} → Control S → Situation S → Type 0
StopsHalt {S} c s = (x : S) → s.place ≡ some x → (n : ℕ) → Mem n (c.acting x) → c.action n ≡ stop → c.next x n true ≡ halted

senseless-event : (ed : Edition) (e : List ℕ) → (SaysTick ed e → ⊥) → ((n : ℕ) → SaysPick ed e n → ⊥) → ((s k : ℕ) → SaysSwitch ed e s k → ⊥) → event_in ed e ≡ senseless
senseless-event ed e f g h = go (said_of ed e)
  where
    go : {m : Event} → Said ed e m → m ≡ senseless
    go (says_tick w) = absurd (f w)
    go (says_pick w) = absurd (g _ w)
    go (says_switch w) = absurd (h _ _ w)
    go (says_nothing f g h) = refl

inside-advance : (p : Plant) (ms : List ℕ) (vs : List ℤ) {ys : List ℤ} → Added p ms vs ys → AllInRange p.variables ys → advance p.variables (rate_of p ms) vs ≡ ok ys
unfolding advance
inside-advance p ms vs {ys} h i = rw (← added-rates h) (inside-all p.variables ys i)

outside-advance : (p : Plant) (ms : List ℕ) (vs : List ℤ) {ys : List ℤ} {side : Side} → Added p ms vs ys → FirstOutside p.variables ys side → advance p.variables (rate_of p ms) vs ≡ fault side
unfolding advance
outside-advance p ms vs {ys} h o = rw (← added-rates h) (outside-first p.variables ys o)

module _ {S : Type 0} (ed : Edition) (p : Plant) (c : Control S) where
  by-event : (x : S) (vs : List ℤ) (ms e : List ℕ) {m : Event} {v : Verdict Done} → event_in ed e ≡ m → judge ed p c.action (c.acting x) vs ms m ≡ v →
      step ed p c (at x vs ms) e ≡ settle c x (at x vs ms) v
  unfolding step
  by-event x vs ms e h k = rw (h, k) refl

  -- once the picked node acts, and once all acting nodes wait, the switch check decides how it goes on
  by-pick : (x : S) (vs : List ℤ) (ms : List ℕ) {e : List ℕ} {n : ℕ} {f : Found} → SaysPick ed e n → Mem n (c.acting x) → Checks ed vs (CurrentSwitch p ms) f →
      step ed p c (at x vs ms) e ≡ settle c x (at x vs ms) (found_as 28 f >> act ed p.variables vs ms n (c.action n))
  unfolding judge
  by-pick x vs ms {e} w m k = by-event x vs ms e (decoded-pick ed w) (pick-verdict ed p c.action (c.acting x) vs ms m k)

  by-tick : (x : S) (vs : List ℤ) (ms : List ℕ) {e : List ℕ} {ts : List (List ℕ)} {f : Found} → SaysTick ed e → Waits c.action (c.acting x) ts → Checks ed vs (CurrentSwitch p ms) f →
      step ed p c (at x vs ms) e ≡ settle c x (at x vs ms) (found_as 28 f >> (walk ed 31 vs ts >> move_on p vs ms))
  unfolding judge
  by-tick x vs ms {e} w q k = by-event x vs ms e (decoded-tick ed w) (tick-verdict ed p c.action (c.acting x) vs ms q k)

  by-switch : (x : S) (vs : List ℤ) (ms : List ℕ) {e : List ℕ} {s k : ℕ} {w : Switch} → SaysSwitch ed e s k → CurrentSwitch p ms s k w →
      step ed p c (at x vs ms) e ≡ settle c x (at x vs ms) (switched ed vs ms s w)
  unfolding judge
  by-switch x vs ms {e} {s} {k} h c = by-event x vs ms e (decoded-switch ed h) (switch-verdict ed p vs ms s k c)

  -- a fault is answered by its side
  pub fault-step : {x : S} {vs : List ℤ} {ms e : List ℕ} {side : Side} → Faults ed p c x vs ms e side → step ed p c (at x vs ms) e ≡ record { answer = fault_answer side; left = over vs ms }
  unfolding settle found_as ◌>>◌ ◌>>=◌ valued act assigned stored then_value move_on switched
  fault-step {x} {vs} {ms} (pick-switch-fault w m k) = by-pick x vs ms w m k
  fault-step {x} {vs} {ms} (pick-test-fault w m k a h) = rw (by-pick x vs ms w m k, a, truth-value ed vs h) refl
  fault-step {x} {vs} {ms} (pick-wait-fault w m k a h) = rw (by-pick x vs ms w m k, a, truth-value ed vs h) refl
  fault-step {x} {vs} {ms} (pick-assign-fault w m k a h) = rw (by-pick x vs ms w m k, a, number-value ed vs h) refl
  fault-step {x} {vs} {ms} (pick-assign-outside {v = v} {z = z} w m k a h d o) =
      rw (by-pick x vs ms w m k, a, number-value ed vs h, declared-at p.variables v z d, outside-declared o) refl
  fault-step {x} {vs} {ms} (switch-fault w c g) = rw (by-switch x vs ms w c, truth-value ed vs g) refl
  fault-step {x} {vs} {ms} (tick-switch-fault w q k) = by-tick x vs ms w q k
  fault-step {x} {vs} {ms} (tick-wait-fault w q k l) = rw (by-tick x vs ms w q k, walk-found l 31) refl
  fault-step {x} {vs} {ms} (tick-outside w q k l h o) = rw (by-tick x vs ms w q k, walk-found l 31, outside-advance p ms vs h o) refl

  pub rule-step : {s t : Situation S} {e : List ℕ} {a : ℕ} → StopsHalt c s → Rule ed p c s e a t → step ed p c s e ≡ record { answer = a; left = t }
  unfolding step judge settle turned_away_by follow arrive found_as ◌>>◌ ◌>>=◌ valued allow act assigned stored then_value move_on switched fault_answer
  rule-step y when-over = refl
  rule-step y (when-senseless {x = x} {vs} {ms} {e} f g h) = by-event x vs ms e (senseless-event ed e f g h) refl
  rule-step y (pick-idle {x = x} {vs} {ms} {e} w f) = by-event x vs ms e (decoded-pick ed w) (idle-verdict ed p c.action (c.acting x) vs ms f)
  rule-step y (pick-switch-true {x = x} {vs} {ms} w m k) = by-pick x vs ms w m k
  rule-step y (pick-test {x = x} {vs} {ms} w m k a h g) = rw (by-pick x vs ms w m k, a, truth-value ed vs h) (goes-arrive g _)
  rule-step y (pick-wait {x = x} {vs} {ms} w m k a h g) = rw (by-pick x vs ms w m k, a, truth-value ed vs h) (goes-arrive g _)
  rule-step y (pick-wait-false {x = x} {vs} {ms} w m k a h) = rw (by-pick x vs ms w m k, a, truth-value ed vs h) refl
  rule-step y (pick-assign {x = x} {vs} {ms} {v = v} {z = z} w m k a h d i g) =
      rw (by-pick x vs ms w m k, a, number-value ed vs h, declared-at p.variables v z d, inside-declared i) (goes-arrive g _)
  rule-step y (pick-switch {x = x} {vs} {ms} w m k a g) = rw (by-pick x vs ms w m k, a) (goes-arrive g _)
  rule-step y (pick-stop {x = x} {vs} {ms} {n = n} w m k a) = rw (by-pick x vs ms w m k, a, y x refl n m a) refl
  rule-step y (switch-missing {x = x} {vs} {ms} {e} {s} {k} w f) = by-event x vs ms e (decoded-switch ed w) (missing-verdict ed p vs ms s k f)
  rule-step y (switch-taken {x = x} {vs} {ms} w c g) = rw (by-switch x vs ms w c, truth-value ed vs g) refl
  rule-step y (switch-false {x = x} {vs} {ms} w c g) = rw (by-switch x vs ms w c, truth-value ed vs g) refl
  rule-step y (tick-busy {x = x} {vs} {ms} {e} w m f) = by-event x vs ms e (decoded-tick ed w) (busy-verdict ed p c.action (c.acting x) vs ms m f)
  rule-step y (tick-switch-true {x = x} {vs} {ms} w q k) = by-tick x vs ms w q k
  rule-step y (tick-wait-true {x = x} {vs} {ms} w q k l) = rw (by-tick x vs ms w q k, walk-found l 31) refl
  rule-step y (tick-taken {x = x} {vs} {ms = ms} w q k l h i) = rw (by-tick x vs ms w q k, walk-found l 31, inside-advance p ms vs h i) refl
  rule-step y (fault-above f) = fault-step f
  rule-step y (fault-below f) = fault-step f

-- ---- some rule applies
data Going {S : Type 0} (vs : List ℤ) (ms : List ℕ) (n : Next S) : Type 0 where
  going : {a : ℕ} {t : Situation S} → Goes vs ms n a t → Going vs ms n

goings : {S : Type 0} (vs : List ℤ) (ms : List ℕ) (n : Next S) → (n ≡ idle → ⊥) → (n ≡ halted → ⊥) → Going vs ms n
goings vs ms (to y) f g = going goes_on
goings vs ms finished f g = going finishes
goings vs ms halted f g = absurd (g refl)
goings vs ms idle f g = absurd (f refl)

test-no-stop : {a : Action} {t : List ℕ} → a ≡ test t → a ≡ stop → ⊥
test-no-stop e h = let z : ◌≡◌ {A = ℕ} 0 1 = cc in omega arith

wait-no-stop : {a : Action} {t : List ℕ} → a ≡ wait t → a ≡ stop → ⊥
wait-no-stop e h = let z : ◌≡◌ {A = ℕ} 0 1 = cc in omega arith

assign-no-stop : {a : Action} {v : ℕ} {t : List ℕ} → a ≡ assign v t → a ≡ stop → ⊥
assign-no-stop e h = let z : ◌≡◌ {A = ℕ} 0 1 = cc in omega arith

switch-no-stop : {a : Action} {s m : ℕ} → a ≡ switch s m → a ≡ stop → ⊥
switch-no-stop e h = let z : ◌≡◌ {A = ℕ} 0 1 = cc in omega arith

-- done and true are possible for every node
done-possible : (a : Action) → possible a true ≡ true
unfolding possible
done-possible a = refl

test-possible : {a : Action} {t : List ℕ} (b : Bool) → a ≡ test t → possible a b ≡ true
unfolding possible is_test
test-possible true e = refl
test-possible false e = rw (e, possible) refl

module _ {S : Type 0} (ed : Edition) (p : Plant) (c : Control S) where
  data Ruled (s : Situation S) (e : List ℕ) : Type 0 where
    ruled : {a : ℕ} {t : Situation S} → Rule ed p c s e a t → Ruled s e

  module _ (sound : Sound p c) (x : S) (come : Comes c x) (vs : List ℤ) (ms e : List ℕ) where
    -- what is no STOP goes on or finishes
    gone : {n : ℕ} (b : Bool) → Mem n (c.acting x) → possible (c.action n) b ≡ true → (c.action n ≡ stop → ⊥) → (ys : List ℤ) (ks : List ℕ) → Going ys ks (c.next x n b)
    gone {n} b m q f ys ks = goings ys ks (c.next x n b) (sound.moves x n b come m q) (λ h. f ((sound.halts x n b come m q).0 h))

    ruled-fault : (side : Side) → Faults ed p c x vs ms e side → Ruled (at x vs ms) e
    ruled-fault above f = ruled (fault-above f)
    ruled-fault below f = ruled (fault-below f)

    ruled-act : {n : ℕ} → SaysPick ed e n → Mem n (c.acting x) → Checks ed vs (CurrentSwitch p ms) nothing → (a : Action) → c.action n ≡ a → Ruled (at x vs ms) e
    ruled-act {n} w m k (test t) q = go (value_of_truth ed vs t) (truth-comes-to ed vs t refl)
      where
        taken : (b : Bool) → TruthComesTo ed vs t (ok b) → Going vs ms (c.next x n b) → Ruled (at x vs ms) e
        taken b h (going g) = ruled (pick-test w m k q h g)

        go : (v : Value Bool) → TruthComesTo ed vs t v → Ruled (at x vs ms) e
        go (ok b) h = taken b h (gone b m (test-possible b q) (test-no-stop q) vs ms)
        go (fault s) h = ruled-fault s (pick-test-fault w m k q h)
    ruled-act {n} w m k (wait t) q = go (value_of_truth ed vs t) (truth-comes-to ed vs t refl)
      where
        taken : TruthComesTo ed vs t (ok true) → Going vs ms (c.next x n true) → Ruled (at x vs ms) e
        taken h (going g) = ruled (pick-wait w m k q h g)

        go : (v : Value Bool) → TruthComesTo ed vs t v → Ruled (at x vs ms) e
        go (ok true) h = taken h (gone true m (done-possible (c.action n)) (wait-no-stop q) vs ms)
        go (ok false) h = ruled (pick-wait-false w m k q h)
        go (fault s) h = ruled-fault s (pick-wait-fault w m k q h)
    ruled-act {n} w m k (assign v t) q = go (value_of_number ed vs t) (number-comes-to ed vs t refl)
      where
        taken : (z : ℤ) {d : Variable} → NumberComesTo ed vs t (ok z) → get_elem? p.variables v ≡ some d → InRange d z → Going (set vs v z) ms (c.next x n true) → Ruled (at x vs ms) e
        taken z h d i (going g) = ruled (pick-assign w m k q h d i g)

        lying : (z : ℤ) {d : Variable} → NumberComesTo ed vs t (ok z) → get_elem? p.variables v ≡ some d → Lies d z → Ruled (at x vs ms) e
        lying z h d (lies_inside i) = taken z h d i (gone true m (done-possible (c.action n)) (assign-no-stop q) (set vs v z) ms)
        lying z h d (lies_outside {side = s} o) = ruled-fault s (pick-assign-outside w m k q h d o)

        go : (y : Value ℤ) → NumberComesTo ed vs t y → Ruled (at x vs ms) e
        go (ok z) h =
            let d = at-exists p.variables v (sound.declares x n v t m q) in
            lying z h d.1 (lies d.0 z)
        go (fault s) h = ruled-fault s (pick-assign-fault w m k q h)
    ruled-act {n} w m k (switch s i) q = taken (gone true m (done-possible (c.action n)) (switch-no-stop q) vs (set ms s i))
      where
        taken : Going vs (set ms s i) (c.next x n true) → Ruled (at x vs ms) e
        taken (going g) = ruled (pick-switch w m k q g)
    ruled-act w m k stop q = ruled (pick-stop w m k q)

    ruled-pick : {n : ℕ} → SaysPick ed e n → Ruled (at x vs ms) e
    ruled-pick {n} w = by_cases (among n (c.acting x)) (λ h. acting (among-mem n (c.acting x) h) (found-check ed p vs ms)) (λ h. ruled (pick-idle w (λ m. true-not-false (sym (mem-among n (c.acting x) m) ∙ h))))
      where
        checked : Mem n (c.acting x) → (f : Found) → Checks ed vs (CurrentSwitch p ms) f → Ruled (at x vs ms) e
        checked m nothing k = ruled-act w m k (c.action n) refl
        checked m found_true k = ruled (pick-switch-true w m k)
        checked m (found_fault s) k = ruled-fault s (pick-switch-fault w m k)

        acting : Mem n (c.acting x) → ((f : Found) × Checks ed vs (CurrentSwitch p ms) f) → Ruled (at x vs ms) e
        acting m f = checked m f.0 f.1

    ruled-switch : {s k : ℕ} → SaysSwitch ed e s k → Ruled (at x vs ms) e
    ruled-switch {s} {k} w = go (get_elem? (current_modes p ms) s) refl
      where
        valid : {i : Switch} → CurrentSwitch p ms s k i → (v : Value Bool) → TruthComesTo ed vs i.truth v → Ruled (at x vs ms) e
        valid c (ok true) q = ruled (switch-taken w c q)
        valid c (ok false) q = ruled (switch-false w c q)
        valid c (fault s) q = ruled-fault s (switch-fault w c q)

        -- the switch that is named, if there is one
        named : (i : Switch) → CurrentSwitch p ms s k i → (m : Mode) × (get_elem? (current_modes p ms) s ≡ some m) × (get_elem? m.switches k ≡ some i)
        named i c = current-is p ms s k c

        found : (m : Mode) → get_elem? (current_modes p ms) s ≡ some m → (o : Option Switch) → get_elem? m.switches k ≡ o → Ruled (at x vs ms) e
        found m h none g = ruled (switch-missing w (λ i c. let q = named i c in none-not-some (sym g ∙ (rw (some_is (sym q.1 ∙ h)) at q.2))))
        found m h (some i) g = valid (is_current p ms s k h g) (value_of_truth ed vs i.truth) (truth-comes-to ed vs i.truth refl)

        go : (o : Option Mode) → get_elem? (current_modes p ms) s ≡ o → Ruled (at x vs ms) e
        go none h = ruled (switch-missing w (λ i c. none-not-some (sym h ∙ (named i c).1)))
        go (some m) h = found m h (get_elem? m.switches k) refl

    ruled-tick : SaysTick ed e → Ruled (at x vs ms) e
    ruled-tick w = go (waiting c.action (c.acting x)) (found-check ed p vs ms)
      where
        moving : {ts : List (List ℕ)} → Waits c.action (c.acting x) ts → Checks ed vs (CurrentSwitch p ms) nothing → Walks ed vs ts nothing → (ys : List ℤ) → Added p ms vs ys → AllLie p.variables ys → Ruled (at x vs ms) e
        moving q k l ys a (all_inside i) = ruled (tick-taken w q k l a i)
        moving q k l ys a (first_outside {side = s} o) = ruled-fault s (tick-outside w q k l a o)

        checked : {ts : List (List ℕ)} → Waits c.action (c.acting x) ts → Checks ed vs (CurrentSwitch p ms) nothing → (f : Found) → Walks ed vs ts f → Ruled (at x vs ms) e
        checked q k nothing l = moving q k l (added (rate_of p ms) 0 vs) (rates-added p ms vs (sound.one_rate ms)) (all_lie p.variables (added (rate_of p ms) 0 vs))
        checked q k found_true l = ruled (tick-wait-true w q k l)
        checked q k (found_fault s) l = ruled-fault s (tick-wait-fault w q k l)

        quiet : (ts : List (List ℕ)) → Waits c.action (c.acting x) ts → (f : Found) → Checks ed vs (CurrentSwitch p ms) f → Ruled (at x vs ms) e
        quiet ts q nothing k = let l = found-walk ed vs ts in checked q k l.0 l.1
        quiet ts q found_true k = ruled (tick-switch-true w q k)
        quiet ts q (found_fault s) k = ruled-fault s (tick-switch-fault w q k)

        go : Waiting c.action (c.acting x) → ((f : Found) × Checks ed vs (CurrentSwitch p ms) f) → Ruled (at x vs ms) e
        go (all_wait {ts = ts} q) f = quiet ts q f.0 f.1
        go (one_acts m f) g = ruled (tick-busy w m f)

    ruled-said : {m : Event} → Said ed e m → Ruled (at x vs ms) e
    ruled-said (says_tick w) = ruled-tick w
    ruled-said (says_pick w) = ruled-pick w
    ruled-said (says_switch w) = ruled-switch w
    ruled-said (says_nothing f g h) = ruled (when-senseless f g h)

  some-rule : Sound p c → {s : Situation S} → Standing c s → (e : List ℕ) → Ruled s e
  some-rule sound (stands_at {x = x} {vs} {ms} come) e = ruled-said sound x come vs ms e (said_of ed e)
  some-rule sound stands_over e = ruled when-over

-- ---- the step is just the rules
module _ {S : Type 0} (ed : Edition) (p : Plant) (c : Control S) where
  stops-halt : Sound p c → {s : Situation S} → Standing c s → StopsHalt c s
  stops-halt sound (stands_at {x = x} come) y e n m q =
      let i : y ≡ x = sym (some_is e) in
      rw i ((sound.halts x n true come (rw i at m) (done-possible (c.action n))).1 q)
  stops-halt sound stands_over y e n m q = none-not-some e

  pub step-rules : Sound p c → (s : Situation S) → Standing c s → (e : List ℕ) (a : ℕ) (t : Situation S) → (step ed p c s e ≡ record { answer = a; left = t }) ↔ Rule ed p c s e a t
  step-rules sound s stand e a t = (go (some-rule ed p c sound stand e), rule-step ed p c (stops-halt sound stand))
    where
      go : Ruled ed p c s e → step ed p c s e ≡ record { answer = a; left = t } → Rule ed p c s e a t
      go (ruled {a = b} {t = u} r) h =
          let q : ◌≡◌ {A = Answered S} (record { answer = b; left = u }) (record { answer = a; left = t }) = sym (rule-step ed p c (stops-halt sound stand) r) ∙ h in
          subst₂ (λ a t. Rule ed p c s e a t) (ap (λ (o : Answered S). o.answer) q) (ap (λ (o : Answered S). o.left) q) r

  -- the rule of the step
  pub rule-of : Sound p c → (s : Situation S) → Standing c s → (e : List ℕ) → Rule ed p c s e (step ed p c s e).answer (step ed p c s e).left
  rule-of sound s stand e = (step-rules sound s stand e (step ed p c s e).answer (step ed p c s e).left).0 refl

  -- the step of a rule
  pub step_of : Sound p c → {s t : Situation S} → Standing c s → {e : List ℕ} {a : ℕ} → Rule ed p c s e a t → step ed p c s e ≡ record { answer = a; left = t }
  step_of sound stand r = rule-step ed p c (stops-halt sound stand) r

  -- ---- a run stays where it can be
  comes_of : {x : S} {vs : List ℤ} {ms : List ℕ} → Standing c (at x vs ms) → Comes c x
  comes_of (stands_at h) = h

  goes-standing : {vs : List ℤ} {ms : List ℕ} {x : Next S} {a : ℕ} {t : Situation S} → Goes vs ms x a t → ((y : S) → x ≡ to y → Comes c y) → Standing c t
  goes-standing (goes_on {y = y}) f = stands_at (f y refl)
  goes-standing finishes f = stands_over

  pub rule-standing : {s t : Situation S} {e : List ℕ} {a : ℕ} → Standing c s → Rule ed p c s e a t → Standing c t
  rule-standing st when-over = st
  rule-standing st (when-senseless f g h) = st
  rule-standing st (pick-idle w f) = st
  rule-standing st (pick-switch-true w m k) = st
  rule-standing st (pick-test {b = b} w m k q h g) = goes-standing g (λ y i. by_move (comes_of st) m (test-possible b q) i)
  rule-standing st (pick-wait {n = n} w m k q h g) = goes-standing g (λ y i. by_move (comes_of st) m (done-possible (c.action n)) i)
  rule-standing st (pick-wait-false w m k q h) = st
  rule-standing st (pick-assign {n = n} w m k q h d i g) = goes-standing g (λ y i. by_move (comes_of st) m (done-possible (c.action n)) i)
  rule-standing st (pick-switch {n = n} w m k q g) = goes-standing g (λ y i. by_move (comes_of st) m (done-possible (c.action n)) i)
  rule-standing st (pick-stop w m k q) = stands_over
  rule-standing st (switch-missing w f) = st
  rule-standing st (switch-taken w h g) = stands_at (comes_of st)
  rule-standing st (switch-false w h g) = st
  rule-standing st (tick-busy w m f) = st
  rule-standing st (tick-switch-true w q k) = st
  rule-standing st (tick-wait-true w q k l) = st
  rule-standing st (tick-taken w q k l h i) = stands_at (comes_of st)
  rule-standing st (fault-above f) = stands_over
  rule-standing st (fault-below f) = stands_over

  -- ---- the whole list
  pub answers-derived : Sound p c → (s : Situation S) → Standing c s → (es : List (List ℕ)) → Derives ed p c s es (answers ed p c s es)
  unfolding answers
  answers-derived sound s stand [] = no-events
  answers-derived sound s stand (e ∷ es) = let r = rule-of sound s stand e in one-event r (answers-derived sound (step ed p c s e).left (rule-standing stand r) es)

-- ---- the rules derive one list only, over any control
-- the same control, but a STOP halts
stopped : {S : Type 0} → Action → Next S → Next S
stopped (test t) x = x
stopped (wait t) x = x
stopped (assign v t) x = x
stopped (switch s m) x = x
stopped stop x = halted

strict : {S : Type 0} → Control S → Control S
strict c = record { start = c.start; acting = c.acting; action = c.action; next = λ x n b. stopped (c.action n) (c.next x n b) }

strict-halts : {S : Type 0} (c : Control S) (s : Situation S) → StopsHalt (strict c) s
unfolding strict stopped
strict-halts c s x e n m q = rw q refl

module _ {S : Type 0} {ed : Edition} {p : Plant} {c : Control S} where
  strict-fault : {x : S} {vs : List ℤ} {ms e : List ℕ} {side : Side} → Faults ed p c x vs ms e side → Faults ed p (strict c) x vs ms e side
  unfolding strict
  strict-fault (pick-switch-fault w m k) = pick-switch-fault w m k
  strict-fault (pick-test-fault w m k q h) = pick-test-fault w m k q h
  strict-fault (pick-wait-fault w m k q h) = pick-wait-fault w m k q h
  strict-fault (pick-assign-fault w m k q h) = pick-assign-fault w m k q h
  strict-fault (pick-assign-outside w m k q h d o) = pick-assign-outside w m k q h d o
  strict-fault (switch-fault w h g) = switch-fault w h g
  strict-fault (tick-switch-fault w q k) = tick-switch-fault w q k
  strict-fault (tick-wait-fault w q k l) = tick-wait-fault w q k l
  strict-fault (tick-outside w q k l h o) = tick-outside w q k l h o

  strict-rule : {s t : Situation S} {e : List ℕ} {a : ℕ} → Rule ed p c s e a t → Rule ed p (strict c) s e a t
  unfolding strict stopped
  strict-rule when-over = when-over
  strict-rule (when-senseless f g h) = when-senseless f g h
  strict-rule (pick-idle w f) = pick-idle w f
  strict-rule (pick-switch-true w m k) = pick-switch-true w m k
  strict-rule (pick-test {a = a} {b = b} {after = u} w m k q h g) = pick-test {a = a} {b = b} {after = u} w m k q h (rw q g)
  strict-rule (pick-wait {a = a} {after = u} w m k q h g) = pick-wait {a = a} {after = u} w m k q h (rw q g)
  strict-rule (pick-wait-false w m k q h) = pick-wait-false w m k q h
  strict-rule (pick-assign {a = a} {after = u} w m k q h d i g) = pick-assign {a = a} {after = u} w m k q h d i (rw q g)
  strict-rule (pick-switch {a = a} {after = u} w m k q g) = pick-switch {a = a} {after = u} w m k q (rw q g)
  strict-rule (pick-stop w m k q) = pick-stop w m k q
  strict-rule (switch-missing w f) = switch-missing w f
  strict-rule (switch-taken w h g) = switch-taken w h g
  strict-rule (switch-false w h g) = switch-false w h g
  strict-rule (tick-busy w m f) = tick-busy w m f
  strict-rule (tick-switch-true w q k) = tick-switch-true w q k
  strict-rule (tick-wait-true w q k l) = tick-wait-true w q k l
  strict-rule (tick-taken w q k l h i) = tick-taken w q k l h i
  strict-rule (fault-above f) = fault-above (strict-fault f)
  strict-rule (fault-below f) = fault-below (strict-fault f)

  derived-strict : {s : Situation S} {es : List (List ℕ)} {l : List (Answered S)} → Derives ed p c s es l → l ≡ answers ed p (strict c) s es
  unfolding answers
  derived-strict no-events = refl
  derived-strict (one-event {s = s} r d) = rw (rule-step ed p (strict c) (strict-halts c s) (strict-rule r), derived-strict d) refl

  pub derives-one : {s : Situation S} {es : List (List ℕ)} {l m : List (Answered S)} → Derives ed p c s es l → Derives ed p c s es m → l ≡ m
  derives-one d e = derived-strict d ∙ sym (derived-strict e)

  pub derived-answers : Sound p c → {s : Situation S} → Standing c s → {es : List (List ℕ)} {l : List (Answered S)} → Derives ed p c s es l → l ≡ answers ed p c s es
  derived-answers sound {s} stand {es} d = derives-one d (answers-derived ed p c sound s stand es)

-- ---- 202 is the answer to a STOP, over any control
not-202 : {C : Type 0} {S : Type 0} {vs : List ℤ} {ms : List ℕ} {x : Next S} {a : ℕ} {t : Situation S} → Goes vs ms x a t → a ≡ 202 → C
not-202 goes_on h = absurd (omega arith)
not-202 finishes h = absurd (omega arith)

module _ {S : Type 0} {ed : Edition} {p : Plant} {c : Control S} where
  by-stop : {s t : Situation S} {e : List ℕ} {a : ℕ} → Rule ed p c s e a t → a ≡ 202 → Stopping ed c s e
  by-stop when-over z = absurd (omega arith)
  by-stop (when-senseless f g h) z = absurd (omega arith)
  by-stop (pick-idle w f) z = absurd (omega arith)
  by-stop (pick-switch-true w m k) z = absurd (omega arith)
  by-stop (pick-test w m k q h g) z = not-202 g z
  by-stop (pick-wait w m k q h g) z = not-202 g z
  by-stop (pick-wait-false w m k q h) z = absurd (omega arith)
  by-stop (pick-assign w m k q h d i g) z = not-202 g z
  by-stop (pick-switch w m k q g) z = not-202 g z
  by-stop (pick-stop {x = x} {n = n} w m k q) z = record { place = x; node = n; stands = refl; says = w; acts = m; is_stop = q }
  by-stop (switch-missing w f) z = absurd (omega arith)
  by-stop (switch-taken w h g) z = absurd (omega arith)
  by-stop (switch-false w h g) z = absurd (omega arith)
  by-stop (tick-busy w m f) z = absurd (omega arith)
  by-stop (tick-switch-true w q k) z = absurd (omega arith)
  by-stop (tick-wait-true w q k l) z = absurd (omega arith)
  by-stop (tick-taken w q k l h i) z = absurd (omega arith)
  by-stop (fault-above f) z = absurd (omega arith)
  by-stop (fault-below f) z = absurd (omega arith)

  pub halts-by-stop : {s t : Situation S} {e : List ℕ} → Rule ed p c s e 202 t → Stopping ed c s e
  halts-by-stop r = by-stop r refl
