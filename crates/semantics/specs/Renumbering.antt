-- Two runs over one plant, with other node numbers and another order of asking: how their events and answers correspond.
-- Runs of two schedules that differ only in the listed order of PARALLELs' children are such.
use Rattle.std.specs.Prelude.{◌≡◌, ◌↔◌, ℕ, ◌+◌, ◌*◌, ◌<◌, take, drop, ℤ}
use mathlib.Core.List.{List, [], ◌∷◌, map, Memᴰ as Mem, Permᴰ as Permuted}
use Rattle.std.proofs.Math.Option.{Option, none, some}
use Rattle.semantics.specs.Editions.{Edition}
use Rattle.semantics.specs.Plant.{Plant}
use Rattle.semantics.specs.Events.{Event, tick, pick, take_switch, senseless, event_in}
use Rattle.semantics.specs.Run.{Control, Situation, Answered, step}
use Rattle.semantics.specs.Records.{InSet, record_at}
use Rattle.semantics.specs.Rules.{SaysTick, SaysPick, SaysSwitch, CurrentSwitch, Found, nothing, Stops, Checks, Waits}

-- the same event, with a picked node's other number
unfoldable pub renumbered : (ℕ → ℕ) → Event → Event
renumbered number tick = tick
renumbered number (pick n) = pick (number n)
renumbered number (take_switch s k) = take_switch s k
renumbered number senseless = senseless

-- two events of a list, by their bytes
abbrev pub Corresponding : Edition → (ℕ → ℕ) → List ℕ → List ℕ → Type 0
Corresponding ed number e f = event_in ed f ≡ renumbered number (event_in ed e)

-- no event of the three kinds: 24
pub record SaysNothing (ed : Edition) (e : List ℕ) : Type 0 where
  pub no_tick : SaysTick ed e → ⊥
  pub no_pick : (n : ℕ) → SaysPick ed e n → ⊥
  pub no_switch : (s k : ℕ) → SaysSwitch ed e s k → ⊥

-- the same in the words of the rules: both say the same, a pick by the other number
pub data SameEvent (ed : Edition) (number : ℕ → ℕ) (e f : List ℕ) : Type 0 where
  both_tick : SaysTick ed e → SaysTick ed f → SameEvent ed number e f
  both_pick : {n : ℕ} → SaysPick ed e n → SaysPick ed f (number n) → SameEvent ed number e f
  both_switch : {s k : ℕ} → SaysSwitch ed e s k → SaysSwitch ed f s k → SameEvent ed number e f
  both_senseless : SaysNothing ed e → SaysNothing ed f → SameEvent ed number e f

-- the acting nodes; none once the run is over
unfoldable pub acting_now : {S : Type 0} → Control S → Option S → List ℕ
acting_now c none = []
acting_now c (some x) = c.acting x

-- two answers: the same number, values and modes, and the same nodes act, each by its other number
pub record SameButNumbers {S R : Type 0} (number : ℕ → ℕ) (c : Control S) (d : Control R) (o : Answered S) (q : Answered R) : Type 0 where
  pub answer : o.answer ≡ q.answer
  pub values : o.left.values ≡ q.left.values
  pub modes : o.left.modes ≡ q.left.modes
  pub acting : Permuted (map number (acting_now c o.left.place)) (acting_now d q.left.place)

-- so many records in two buffers: of each the answer is the same, so are all bytes behind the set of acting nodes, and the sets have the same nodes, each by its other number
pub record RecordsCorrespond (ed : Edition) (number : ℕ → ℕ) (size count : ℕ) (bytes other : List ℕ) : Type 0 where
  pub answer : (k : ℕ) → k < count → take 1 (record_at size k bytes) ≡ take 1 (record_at size k other)
  pub behind : (k : ℕ) → k < count → drop (1 + ed.set_bytes) (record_at size k bytes) ≡ drop (1 + ed.set_bytes) (record_at size k other)
  pub acting : (k n : ℕ) → k < count → n < 8 * ed.set_bytes → number n < 8 * ed.set_bytes → InSet ed (record_at size k bytes) n ↔ InSet ed (record_at size k other) (number n)

-- ---- "their truths in node order up to the first that is true or faults": a tick's answer can depend on which CONTINUE is asked first, and so on numbers
-- truths that would stop a tick all in one way: all by being true, or all by a fault above, or all by one below
pub record StopAlike (ed : Edition) (vs : List ℤ) (ts : List (List ℕ)) : Type 0 where
  pub alike : (t u : List ℕ) (f g : Found) → Mem t ts → Mem u ts → Stops ed vs t f → Stops ed vs u g → f ≡ g

module _ {S : Type 0} (ed : Edition) (p : Plant) (c : Control S) where
  -- where a tick comes to ask the acting CONTINUEs, their truths are such
  pub record EitherFirst (s : Situation S) : Type 0 where
    pub asked : (x : S) (ts : List (List ℕ)) → s.place ≡ some x → Waits c.action (c.acting x) ts → Checks ed s.values (CurrentSwitch p s.modes) nothing →
        StopAlike ed s.values ts

  -- at each tick of a run
  pub data EitherFirstAtTicks : Situation S → List (List ℕ) → Type 0 where
    no-event : {s : Situation S} → EitherFirstAtTicks s []
    one-event : {s : Situation S} {e : List ℕ} {es : List (List ℕ)} → (event_in ed e ≡ tick → EitherFirst s) →
        EitherFirstAtTicks (step ed p c s e).left es → EitherFirstAtTicks s (e ∷ es)

-- an answer to a tick that no CONTINUE gave: neither 31 nor a fault
pub record NotStopped (answer : ℕ) : Type 0 where
  pub no_31 : answer ≡ 31 → ⊥
  pub no_203 : answer ≡ 203 → ⊥
  pub no_204 : answer ≡ 204 → ⊥
