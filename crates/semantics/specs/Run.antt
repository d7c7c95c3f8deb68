-- Document 01, "Run by the rules", with document 02, item 2: one event, the run, its records and counts, over any control.
use Rattle.std.specs.Prelude.{Bool, true, false, not, ℕ, suc, ◌+◌, ◌^◌, set, ℤ}
use mathlib.Core.List.{List, [], ◌∷◌, ◌++◌, map, flat_map}
use Rattle.std.proofs.Math.Option.{Option, none, some}
use Rattle.std.proofs.Math.ListN.{get_elem?}
use Rattle.semantics.specs.Bytes.{every, within, big_endian, out4, unsigned}
use Rattle.semantics.specs.Editions.{Edition}
use Rattle.semantics.specs.Expressions.{Side, above, below, Value, ok, fault, then_value, value_of_number, value_of_truth}
use Rattle.semantics.specs.Sections.{Variable, Mode}
use Rattle.semantics.specs.Plant.{Plant, among, current_modes, current_truths, stored, rate_of, advance}
use Rattle.semantics.specs.Events.{Event, tick, pick, take_switch, senseless, event_in}

-- ---- control
-- what a node does; the lists are the bytes of its truth or number
pub data Action : Type 0 where
  -- a WHILE or an IF
  test : List ℕ → Action
  -- a CONTINUE UNTIL
  wait : List ℕ → Action
  assign : ℕ → List ℕ → Action
  switch : ℕ → ℕ → Action
  stop : Action

-- "tests take two" targets, any other node one
unfoldable pub is_test : Action → Bool
is_test (test t) = true
is_test (wait t) = false
is_test (assign v e) = false
is_test (switch s m) = false
is_test stop = false

-- the outcomes that a node can move on: done or true, and false where it is a test
unfoldable pub possible : Action → Bool → Bool
possible a true = true
possible a false = is_test a

-- where a move leads
pub data Next (S : Type 0) : Type 0 where
  to : S → Next S
  finished halted : Next S
  -- the node does not act
  idle : Next S

-- what a run asks of a schedule or of a table: S are its places
pub record Control (S : Type 0) : Type 0 where
  pub start : S
  pub acting : S → List ℕ
  pub action : ℕ → Action
  -- the move of a node, on done or true, or on false
  pub next : S → ℕ → Bool → Next S

-- ---- how an event is judged
pub data Verdict (A : Type 0) : Type 0 where
  away : ℕ → Verdict A
  faulty : Side → Verdict A
  pass : A → Verdict A

infixl 1 ◌>>=◌ ◌>>◌
unfoldable pub ◌>>=◌ : {A B : Type 0} → Verdict A → (A → Verdict B) → Verdict B
◌>>=◌ (away n) f = away n
◌>>=◌ (faulty s) f = faulty s
◌>>=◌ (pass a) f = f a

unfoldable pub ◌>>◌ : {A B : Type 0} → Verdict A → Verdict B → Verdict B
◌>>◌ (away n) b = away n
◌>>◌ (faulty s) b = faulty s
◌>>◌ (pass a) b = b

-- turned away with n where the test fails
unfoldable pub allow : ℕ → Bool → Verdict (Unit {0})
allow n true = pass tt
allow n false = away n

-- turned away with n where there is none
unfoldable pub find : {A : Type 0} → ℕ → Option A → Verdict A
find n none = away n
find n (some a) = pass a

unfoldable pub valued : {A : Type 0} → Value A → Verdict A
valued (ok a) = pass a
valued (fault s) = faulty s

-- whose move a taken event is
pub data Moved : Type 0 where
  nobody : Moved
  mover : ℕ → Bool → Moved

-- what a taken event does
pub record Done : Type 0 where
  pub moved : Moved
  pub values : List ℤ
  pub modes : List ℕ

-- a CONTINUE
unfoldable pub is_wait : Action → Bool
is_wait (test t) = false
is_wait (wait t) = true
is_wait (assign v e) = false
is_wait (switch s m) = false
is_wait stop = false

unfoldable pub wait_truth : Action → List ℕ
wait_truth (test t) = []
wait_truth (wait t) = t
wait_truth (assign v e) = []
wait_truth (switch s m) = []
wait_truth stop = []

module _ (ed : Edition) where
  -- evaluates truths in order and "stops at the first that is true or faults": n where it is true
  unfoldable pub walk : ℕ → List ℤ → List (List ℕ) → Verdict (Unit {0})
  walk n vs [] = pass tt
  walk n vs (t ∷ ts) = do
    b ← valued (value_of_truth ed vs t)
    allow n (not b)
    walk n vs ts

  -- the switch check over the current modes. 28: "The switch check of a pick or tick stops at a true switch."
  unfoldable pub check_modes : List Mode → List ℤ → Verdict (Unit {0})
  check_modes modes vs = walk 28 vs (current_truths modes)

  -- the truths of acting CONTINUEs. 31: "A tick whose walk over the CONTINUE truths stops at a true one."
  abbrev pub check_waits : List ℤ → List (List ℕ) → Verdict (Unit {0})
  check_waits vs ts = walk 31 vs ts

  -- "Kinds 6 and 7 both assign.": variable v becomes the number, or the number or its range faults
  unfoldable pub assigned : List Variable → List ℤ → ℕ → List ℕ → Value (List ℤ)
  assigned xs vs v e = then_value (value_of_number ed vs e) (stored xs vs v)

  -- the picked node's truth or assignment; it asks the plant for its variables' ranges alone
  unfoldable pub act : List Variable → List ℤ → List ℕ → ℕ → Action → Verdict Done
  act xs vs ms n (test t) = do
    b ← valued (value_of_truth ed vs t)
    pass (record { moved = mover n b; values = vs; modes = ms })
  act xs vs ms n (wait t) = do
    b ← valued (value_of_truth ed vs t)
    -- 29: "The CONTINUE is not yet true."
    allow 29 b
    pass (record { moved = mover n true; values = vs; modes = ms })
  act xs vs ms n (assign v e) = do
    ys ← valued (assigned xs vs v e)
    pass (record { moved = mover n true; values = ys; modes = ms })
  act xs vs ms n (switch s m) = pass (record { moved = mover n true; values = vs; modes = set ms s m })
  act xs vs ms n stop = pass (record { moved = mover n true; values = vs; modes = ms })

  -- "The switch check evaluates the switches of all current modes"
  unfoldable pub check_of_switch : Plant → List ℤ → List ℕ → Verdict (Unit {0})
  check_of_switch p vs ms = check_modes (current_modes p ms) vs

  -- "Pick: acting, switch check, then the node's truth or assignment."
  unfoldable pub judge_pick : Plant → (ℕ → Action) → List ℕ → List ℤ → List ℕ → ℕ → Verdict Done
  judge_pick p action acting vs ms n = do
    -- 25: "The picked node is not acting."
    allow 25 (among n acting)
    check_of_switch p vs ms
    act p.variables vs ms n (action n)

  -- "Switch (no switch check): it exists, its truth holds, the mode changes." The first list is the current modes.
  unfoldable pub judge_switch : List Mode → List ℤ → List ℕ → ℕ → ℕ → Verdict Done
  judge_switch modes vs ms s k = do
    -- 26: "There is no such switch."
    m ← find 26 (get_elem? modes s)
    w ← find 26 (get_elem? m.switches k)
    b ← valued (value_of_truth ed vs w.truth)
    -- 30: "The switch's truth is false."
    allow 30 b
    pass (record { moved = nobody; values = vs; modes = set ms s w.target })

  -- "Tick: all acting nodes are CONTINUE, switch check, their truths in node order up to the first that is true or faults,
  -- then each driven variable adds its current rate"
  unfoldable pub judge_tick : Plant → (ℕ → Action) → List ℕ → List ℤ → List ℕ → Verdict Done
  judge_tick p action acting vs ms = do
    -- 27: "A tick while some acting node is no CONTINUE."
    allow 27 (every (λ n. is_wait (action n)) acting)
    check_of_switch p vs ms
    check_waits vs (map (λ n. wait_truth (action n)) acting)
    ys ← valued (advance p.variables (rate_of p ms) vs)
    pass (record { moved = nobody; values = ys; modes = ms })

  unfoldable pub judge : Plant → (ℕ → Action) → List ℕ → List ℤ → List ℕ → Event → Verdict Done
  judge p action acting vs ms tick = judge_tick p action acting vs ms
  judge p action acting vs ms (pick n) = judge_pick p action acting vs ms n
  judge p action acting vs ms (take_switch s k) = judge_switch (current_modes p ms) vs ms s k
  -- 24: "The event's kind is unknown or an unused byte is not 0."
  judge p action acting vs ms senseless = away 24

-- ---- situations
-- "the residual, values and modes that the one before it left, and .. whether the run is over"
pub record Situation (S : Type 0) : Type 0 where
  -- none once the run is over
  pub place : Option S
  pub values : List ℤ
  pub modes : List ℕ

-- an event's answer, and the situation that it leaves
pub record Answered (S : Type 0) : Type 0 where
  pub answer : ℕ
  pub left : Situation S

-- "The answer 203 means above and a new answer 204 means below, for expressions and for declared ranges alike."
unfoldable pub fault_answer : Side → ℕ
fault_answer above = 203
fault_answer below = 204

module _ {S : Type 0} where
  abbrev pub at : S → List ℤ → List ℕ → Situation S
  at x vs ms = record { place = some x; values = vs; modes = ms }

  abbrev pub over : List ℤ → List ℕ → Situation S
  over vs ms = record { place = none; values = vs; modes = ms }

  -- "An event turned away leaves them all as they were."
  unfoldable pub turned_away_by : ℕ → Situation S → Answered S
  turned_away_by n s = record { answer = n; left = s }

  -- "A taken pick that finishes the root is answered 201 and one of a STOP 202, and both end the run;
  -- any other taken event is answered 200."
  unfoldable pub arrive : Situation S → Next S → List ℤ → List ℕ → Answered S
  arrive s (to y) vs ms = record { answer = 200; left = at y vs ms }
  arrive s finished vs ms = record { answer = 201; left = over vs ms }
  arrive s halted vs ms = record { answer = 202; left = over vs ms }
  -- no acting node is idle: 25 has turned the others away
  arrive s idle vs ms = turned_away_by 25 s

  unfoldable pub follow : Control S → S → Situation S → Moved → List ℤ → List ℕ → Answered S
  follow c x s nobody vs ms = arrive s (to x) vs ms
  follow c x s (mover n b) vs ms = arrive s (c.next x n b) vs ms

  unfoldable pub settle : Control S → S → Situation S → Verdict Done → Answered S
  settle c x s (away n) = turned_away_by n s
  -- "A fault leaves values and modes as before the event and ends the run."
  settle c x s (faulty side) = record { answer = fault_answer side; left = over s.values s.modes }
  settle c x s (pass d) = follow c x s d.moved d.values d.modes

  module _ (ed : Edition) (p : Plant) (c : Control S) where
    -- one event
    abbrev pub step_on : Situation S → Event → Answered S
    step_on s e = elim s.place [
      -- 23: "The run is over."
      | none ↦ turned_away_by 23 s
      | some x ↦ settle c x s (judge ed p c.action (c.acting x) s.values s.modes e)
    ]

    -- the same, its bytes as they came
    unfoldable pub step : Situation S → List ℕ → Answered S
    step s e = step_on s (event_in ed e)

    -- the whole list: "Each event is judged on the residual, values and modes that the one before it left"
    unfoldable pub answers : Situation S → List (List ℕ) → List (Answered S)
    answers s [] = []
    answers s (e ∷ es) = step s e ∷ answers (step s e).left es

-- ---- records and counts
-- bit n for node n
unfoldable pub set_number : List ℕ → ℕ
set_number [] = 0
set_number (n ∷ ns) = 2 ^ n + set_number ns

-- "0 once the run is over"
unfoldable pub acting_set : {S : Type 0} → Control S → Option S → ℕ
acting_set c none = 0
acting_set c (some x) = set_number (c.acting x)

unfoldable pub value_bytes : ℤ → List ℕ
value_bytes z = out4 (unsigned z)

-- "The record of an event: answer byte, set of acting nodes (..), values (4 bytes each), modes (1 byte each)."
unfoldable pub record_bytes : Edition → ℕ → ℕ → List ℤ → List ℕ → List ℕ
record_bytes ed answer set vs ms = answer ∷ big_endian ed.set_bytes set ++ (flat_map value_bytes vs ++ ms)

unfoldable pub record_of : {S : Type 0} → Edition → Control S → Answered S → List ℕ
record_of ed c o = let s = o.left in record_bytes ed o.answer (acting_set c s.place) s.values s.modes

-- the answer of each event
abbrev pub answers_in : {S : Type 0} → List (Answered S) → List ℕ
answers_in {S} l = map (λ (o : Answered S). o.answer) l

-- "taken (200..202), turned away (23..31) and faulted (203)", and of 203 and 204 "Both count as faulted."
unfoldable pub is_taken : ℕ → Bool
is_taken n = within 200 202 n

unfoldable pub is_turned_away : ℕ → Bool
is_turned_away n = within 23 31 n

unfoldable pub is_faulted : ℕ → Bool
is_faulted n = within 203 204 n

unfoldable pub how_many : {A : Type 0} → (A → Bool) → List A → ℕ
how_many f [] = 0
how_many f (a ∷ l) = elim (f a) [ true ↦ suc (how_many f l) | false ↦ how_many f l ]

-- "The run keeps one short record of taken (200..202), turned away (23..31) and faulted (203)"; faulted is 203 and 204
pub record Counts : Type 0 where
  pub taken : ℕ
  pub turned_away : ℕ
  pub faulted : ℕ

-- "and returns these counts, each the number of the run's events with such an answer": of these answers
unfoldable pub counts_from : List ℕ → Counts
counts_from l = record { taken = how_many is_taken l; turned_away = how_many is_turned_away l; faulted = how_many is_faulted l }

-- of a refused run
abbrev pub no_counts : Counts
no_counts = record { taken = 0; turned_away = 0; faulted = 0 }
