-- A run, event by event and as a loop, for any control.
use Rattle.std.specs.Prelude.{◌≡◌, true, List, [], ◌++◌, ℕ, ◌-◌, ◌*◌, ◌≤◌, ℤ, length, drop, Ok}
use Rattle.std.proofs.Math.Option.{Option, none, some}
use Rattle.semantics.specs.Editions.{Edition}
use Rattle.semantics.specs.Refusals.{accepted}
use Rattle.semantics.specs.Events.{events_in}
use Rattle.semantics.specs.Starts.{Start}
use Rattle.semantics.specs.Plant.{Plant}
use Rattle.semantics.specs.Run.{Next, Control, Situation, Answered, arrive, step_on, answers}
use Rattle.semantics.specs.Calls.{event_count, record_size, room_for_records, Program, run_from, outcome_of, report}
use Rattle.codec.specs.Strides.{Ahead}
use Rattle.nodeset.specs.Sets.{members, Words}
use Rattle.event.specs.Decoded.{event_of}
use Rattle.event.specs.declared.Event.{Event}
use Rattle.records.specs.Reported.{ran_with}
use Rattle.records.specs.declared.Counts.{Counts}
use Rattle.execution.specs.Ready.{Fits}

-- an event is answered so, and leaves the run there
abbrev pub leaves : {S : Type 0} → ℕ → Option S → List ℤ → List ℕ → Answered S
leaves n o vs ms = record { answer = n; left = record { place = o; values = vs; modes = ms } }

-- ---- where a run stands
-- by the set of acting nodes: those of the place, or none once the run is over; here says what places there are
pub data Shows {S : Type 0} (c : Control S) (here : S → Type 0) (ws : List ℕ) : Option S → Type 0 where
  at_place : {x : S} → here x → members ws ≡ c.acting x → Words ws → Shows c here ws (some x)
  at_end : members ws ≡ [] → Words ws → Shows c here ws none

-- ---- one event
-- a move that leads there is answered n, and the run then stands so
pub record Arrives {S : Type 0} (Stood : Option S → Type 0) (x : Next S) (n : ℕ) : Type 0 where
  pub place : Option S
  pub is : (s : Situation S) (vs : List ℤ) (ms : List ℕ) → arrive s x vs ms ≡ leaves n place vs ms
  pub stands : Stood place

-- the event e at place o, with these values and modes, is answered n and leaves that; the run then stands so
pub record Steps {S : Type 0} (ed : Edition) (g : Program S) (Stood : Option S → Type 0) (o : Option S) (vs : List ℤ) (ms : List ℕ) (e : Event) (n : ℕ) (vs' : List ℤ) (ms' : List ℕ) : Type 0 where
  pub place : Option S
  pub is : step_on ed g.plant g.control (record { place = o; values = vs; modes = ms }) (event_of e) ≡ leaves n place vs' ms'
  pub stands : Stood place

-- ---- the loop
-- a run may start with these values and modes, and d has room for its records
pub record MayRun (ed : Edition) (p : Plant) (vs : List ℤ) (ms events d : List ℕ) : Type 0 where
  pub fits : Fits p vs ms
  pub room : room_for_records ed p events d ≡ true

-- the counts and d, which was d₀, are those of a run with these answers
pub record Reports {S : Type 0} (ed : Edition) (c : Control S) (l : List (Answered S)) (d₀ : List ℕ) (cs : Counts) (d : List ℕ) : Type 0 where
  pub is : ran_with (Ok cs) d ≡ report d₀ (accepted (outcome_of ed c l))

-- all events of a run from these values and modes are answered
abbrev pub Whole : {S : Type 0} → Edition → Program S → List ℤ → (ms events d₀ : List ℕ) → Counts → List ℕ → Type 0
Whole ed g vs ms events d₀ cs d = Reports ed g.control (run_from ed g (record { values = vs; modes = ms }) events) d₀ cs d

-- k events are answered, and the next stands at place p: where the run stands, its counts, and d, which was d₀, with their records up to place i
pub record RunSoFar {S : Type 0} (ed : Edition) (g : Program S) (st₀ : Start) (events d₀ : List ℕ) (k p i : ℕ) (st : Situation S) (cs : Counts) (d : List ℕ) : Type 0 where
  pub said : List (Answered S)
  pub rest : run_from ed g st₀ events ≡
      said ++ answers ed g.plant g.control st (events_in ed.event_bytes (event_count ed events - k) (drop p events))
  pub ahead : Ahead ed.event_bytes (event_count ed events - k) p (length events)
  pub many : length said ≡ k
  pub few : k ≤ event_count ed events
  pub reports : Reports ed g.control said d₀ cs d
  pub size : length (outcome_of ed g.control said).written ≡ k * record_size ed g.plant
  pub place : i ≡ k * record_size ed g.plant
  pub fits : Fits g.plant st.values st.modes

-- the same, and where the run stands
pub record Going {S : Type 0} (ed : Edition) (g : Program S) (Stood : Option S → Type 0) (st₀ : Start) (events d₀ : List ℕ) (k p i : ℕ) (cs : Counts) (vs : List ℤ) (ms d : List ℕ) : Type 0 where
  pub place : Option S
  pub stands : Stood place
  pub so_far : RunSoFar ed g st₀ events d₀ k p i (record { place = place; values = vs; modes = ms }) cs d
