-- Document 01, "Run by the rules", with document 02, item 2, rule by rule: a relation between a situation, an event's bytes, its answer and the situation after it.
-- It is written from the paper, one constructor for each rule, in the manner of source 001's rules; `step` of Run is shown to be just it.
use Rattle.std.specs.Prelude.{◌≡◌, Bool, true, false, ◌↔◌, ℕ, suc, ◌+◌, ◌*◌, ◌<◌, length, set, ℤ, pos, ◌+ℤ◌}
use mathlib.Core.List.{List, [], ◌∷◌, ◌++◌, Memᴰ as Mem}
use Rattle.std.proofs.Math.Option.{some}
use Rattle.std.proofs.Math.ListN.{get_elem?}
use Rattle.std.specs.Int.Signed.{le_z, lt_z}
use Rattle.semantics.specs.Bytes.{Width, one_byte, two_bytes}
use Rattle.semantics.specs.Editions.{Edition}
use Rattle.semantics.specs.Expressions.{Side, above, below, ok, fault}
use Rattle.semantics.specs.Evaluating.{NumberComesTo, TruthComesTo}
use Rattle.semantics.specs.Sections.{Variable, Rate, Switch, Mode, Selector, Equation, steady, choice}
use Rattle.semantics.specs.Plant.{Plant}
use Rattle.semantics.specs.Run.{Action, test, wait, assign, switch, stop, possible, Next, to, finished, halted, idle, Control, Situation, Answered, at, over}

-- ---- what an event's bytes say
pub data Zeros : List ℕ → Type 0 where
  no_zeros : Zeros []
  one_zero : {l : List ℕ} → Zeros l → Zeros (0 ∷ l)

-- a number and its big-endian bytes
pub data Names : Width → List ℕ → ℕ → Type 0 where
  by_one : {n : ℕ} → Names one_byte (n ∷ []) n
  by_two : {a b : ℕ} → Names two_bytes (a ∷ b ∷ []) (a * 256 + b)

-- ---- what is current
-- "CASEs are selectors 0, 1, .. in order"
pub data CaseAt : List Equation → ℕ → Selector → Type 0 where
  this_case : {c : Selector} {es : List Equation} → CaseAt (choice c ∷ es) 0 c
  past_case : {c d : Selector} {es : List Equation} {s : ℕ} → CaseAt es s c → CaseAt (choice d ∷ es) (suc s) c
  past_rate : {c : Selector} {r : Rate} {es : List Equation} {s : ℕ} → CaseAt es s c → CaseAt (steady r ∷ es) s c

-- selector s's current mode
pub record CurrentMode (p : Plant) (ms : List ℕ) (s : ℕ) (m : Mode) : Type 0 where
  pub selector : Selector
  pub number : ℕ
  pub is_selector : CaseAt p.equations s selector
  pub is_number : get_elem? ms s ≡ some number
  pub is_mode : get_elem? selector.modes number ≡ some m

-- "switch k (from 0) of selector s's current mode"
pub record CurrentSwitch (p : Plant) (ms : List ℕ) (s k : ℕ) (w : Switch) : Type 0 where
  pub mode : Mode
  pub is_current : CurrentMode p ms s mode
  pub is_switch : get_elem? mode.switches k ≡ some w

-- "its current rate": that of its own equation, or the one that its CASE's current mode gives
pub data CurrentRate (p : Plant) (ms : List ℕ) (v : ℕ) (z : ℤ) : Type 0 where
  own_rate : {r : Rate} → Mem (steady r) p.equations → r.driven ≡ v → r.rate ≡ z → CurrentRate p ms v z
  mode_rate : {s : ℕ} {m : Mode} {r : Rate} → CurrentMode p ms s m → Mem r m.rates → r.driven ≡ v → r.rate ≡ z → CurrentRate p ms v z

-- "selectors rising and each mode's as listed": switch k of selector s comes before switch l of selector t
pub data Before (s k t l : ℕ) : Type 0 where
  lower_selector : s < t → Before s k t l
  listed_before : s ≡ t → k < l → Before s k t l

-- what a walk over truths stops at
pub data Found : Type 0 where
  nothing found_true : Found
  found_fault : Side → Found

module _ (ed : Edition) where
  -- "0,0,0 tick"
  pub record SaysTick (e : List ℕ) : Type 0 where
    pub unused : List ℕ
    pub bytes : e ≡ 0 ∷ unused
    pub zeros : Zeros unused

  -- "1,n,0 pick node n"
  pub record SaysPick (e : List ℕ) (n : ℕ) : Type 0 where
    pub name : List ℕ
    pub unused : List ℕ
    pub bytes : e ≡ 1 ∷ (name ++ unused)
    pub names : Names ed.width name n
    pub zeros : Zeros unused

  -- "2,s,k take switch k (from 0) of selector s's current mode"
  pub record SaysSwitch (e : List ℕ) (s k : ℕ) : Type 0 where
    pub unused : List ℕ
    pub bytes : e ≡ 2 ∷ s ∷ k ∷ unused
    pub zeros : Zeros unused

  -- "up to the first that is true or faults"
  pub data Walks (vs : List ℤ) : List (List ℕ) → Found → Type 0 where
    walk_ends : Walks vs [] nothing
    walk-on : {t : List ℕ} {ts : List (List ℕ)} {f : Found} → TruthComesTo ed vs t (ok false) → Walks vs ts f → Walks vs (t ∷ ts) f
    stops-at-truth : {t : List ℕ} {ts : List (List ℕ)} → TruthComesTo ed vs t (ok true) → Walks vs (t ∷ ts) found_true
    stops-at-fault : {t : List ℕ} {ts : List (List ℕ)} {s : Side} → TruthComesTo ed vs t (fault s) → Walks vs (t ∷ ts) (found_fault s)

  -- a truth that is true or faults
  pub data Stops (vs : List ℤ) (t : List ℕ) : Found → Type 0 where
    by-truth : TruthComesTo ed vs t (ok true) → Stops vs t found_true
    by-fault : {side : Side} → TruthComesTo ed vs t (fault side) → Stops vs t (found_fault side)

  -- "The switch check evaluates the switches of all current modes, .., and stops at the first that is true or faults.": all before it are false
  pub data Checks (vs : List ℤ) (current : ℕ → ℕ → Switch → Type 0) : Found → Type 0 where
    check-ends : ((s k : ℕ) (w : Switch) → current s k w → TruthComesTo ed vs w.truth (ok false)) → Checks vs current nothing
    check-stops : {s k : ℕ} {w : Switch} {f : Found} → current s k w →
        ((t l : ℕ) (u : Switch) → Before t l s k → current t l u → TruthComesTo ed vs u.truth (ok false)) → Stops vs w.truth f → Checks vs current f

-- "all acting nodes are CONTINUE", with their truths in node order
pub data Waits (action : ℕ → Action) : List ℕ → List (List ℕ) → Type 0 where
  none_waits : Waits action [] []
  one_waits : {n : ℕ} {t : List ℕ} {ns : List ℕ} {ts : List (List ℕ)} → action n ≡ wait t → Waits action ns ts → Waits action (n ∷ ns) (t ∷ ts)

-- ---- "A value outside its declared range faults."
pub record InRange (x : Variable) (z : ℤ) : Type 0 where
  pub not_below : le_z x.minimum z ≡ true
  pub not_above : le_z z x.maximum ≡ true

-- "for expressions and for declared ranges alike": on which side of its range a value lies.
-- Where 5 lets a variable pass, what is above the maximum is not below the minimum: the first condition of `above_maximum` says nothing more there.
pub data Outside (x : Variable) (z : ℤ) : Side → Type 0 where
  below_minimum : lt_z z x.minimum ≡ true → Outside x z below
  above_maximum : le_z x.minimum z ≡ true → lt_z x.maximum z ≡ true → Outside x z above

-- "each driven variable adds its current rate (0 where its CASE's mode gives none)"; a variable that no equation drives adds 0 as well
pub record Added (p : Plant) (ms : List ℕ) (vs ys : List ℤ) : Type 0 where
  pub as_many : length ys ≡ length vs
  pub driven : (v : ℕ) (x z : ℤ) → get_elem? vs v ≡ some x → CurrentRate p ms v z → get_elem? ys v ≡ some (x +ℤ z)
  pub others : (v : ℕ) (x : ℤ) → get_elem? vs v ≡ some x → ((z : ℤ) → CurrentRate p ms v z → ⊥) → get_elem? ys v ≡ some (x +ℤ pos 0)

pub record AllInRange (xs : List Variable) (ys : List ℤ) : Type 0 where
  pub each : (v : ℕ) (x : Variable) (y : ℤ) → get_elem? xs v ≡ some x → get_elem? ys v ≡ some y → InRange x y

-- "On a tick the lowest variable number out of range decides."
pub record FirstOutside (xs : List Variable) (ys : List ℤ) (side : Side) : Type 0 where
  pub which : ℕ
  pub variable : Variable
  pub value : ℤ
  pub is_variable : get_elem? xs which ≡ some variable
  pub is_value : get_elem? ys which ≡ some value
  pub outside : Outside variable value side
  pub lower : (v : ℕ) (x : Variable) (y : ℤ) → v < which → get_elem? xs v ≡ some x → get_elem? ys v ≡ some y → InRange x y

-- ---- "A taken pick that finishes the root is answered 201 and one of a STOP 202, and both end the run; any other taken event is answered 200."
-- where the move of a node leads that is no STOP: a STOP's pick has a rule of its own, `pick-stop`, and no other rule gives 202
pub data Goes {S : Type 0} (vs : List ℤ) (ms : List ℕ) : Next S → ℕ → Situation S → Type 0 where
  goes_on : {y : S} → Goes vs ms (to y) 200 (at y vs ms)
  finishes : Goes vs ms finished 201 (over vs ms)

module _ {S : Type 0} (ed : Edition) (p : Plant) (c : Control S) where
  -- how an event faults, and on which side: "the run's steps are taken in their order", and the first fault decides;
  -- where a tick takes values out of their ranges "the lowest variable number out of range decides"
  pub data Faults (x : S) (vs : List ℤ) (ms e : List ℕ) (side : Side) : Type 0 where
    -- a pick of a node that acts: in its switch check
    pick-switch-fault : {n : ℕ} → SaysPick ed e n → Mem n (c.acting x) → Checks ed vs (CurrentSwitch p ms) (found_fault side) → Faults x vs ms e side
    -- in the truth of a WHILE or an IF
    pick-test-fault : {t : List ℕ} {n : ℕ} → SaysPick ed e n → Mem n (c.acting x) → Checks ed vs (CurrentSwitch p ms) nothing → c.action n ≡ test t →
        TruthComesTo ed vs t (fault side) → Faults x vs ms e side
    -- in that of a CONTINUE
    pick-wait-fault : {t : List ℕ} {n : ℕ} → SaysPick ed e n → Mem n (c.acting x) → Checks ed vs (CurrentSwitch p ms) nothing → c.action n ≡ wait t →
        TruthComesTo ed vs t (fault side) → Faults x vs ms e side
    -- a RESET or REINITIAL: in its number, then at the declared range of its variable
    pick-assign-fault : {t : List ℕ} {n v : ℕ} → SaysPick ed e n → Mem n (c.acting x) → Checks ed vs (CurrentSwitch p ms) nothing → c.action n ≡ assign v t →
        NumberComesTo ed vs t (fault side) → Faults x vs ms e side
    pick-assign-outside : {t : List ℕ} {n v : ℕ} {z : ℤ} {d : Variable} → SaysPick ed e n → Mem n (c.acting x) → Checks ed vs (CurrentSwitch p ms) nothing → c.action n ≡ assign v t →
        NumberComesTo ed vs t (ok z) → get_elem? p.variables v ≡ some d → Outside d z side → Faults x vs ms e side
    -- a switch that exists: in its truth
    switch-fault : {s k : ℕ} {w : Switch} → SaysSwitch ed e s k → CurrentSwitch p ms s k w → TruthComesTo ed vs w.truth (fault side) → Faults x vs ms e side
    -- a tick while all acting nodes wait: in its switch check, in the walk over the CONTINUE truths, then at the declared ranges
    tick-switch-fault : {ts : List (List ℕ)} → SaysTick ed e → Waits c.action (c.acting x) ts → Checks ed vs (CurrentSwitch p ms) (found_fault side) → Faults x vs ms e side
    tick-wait-fault : {ts : List (List ℕ)} → SaysTick ed e → Waits c.action (c.acting x) ts → Checks ed vs (CurrentSwitch p ms) nothing →
        Walks ed vs ts (found_fault side) → Faults x vs ms e side
    tick-outside : {ys : List ℤ} {ts : List (List ℕ)} → SaysTick ed e → Waits c.action (c.acting x) ts → Checks ed vs (CurrentSwitch p ms) nothing →
        Walks ed vs ts nothing → Added p ms vs ys → FirstOutside p.variables ys side → Faults x vs ms e side

  pub data Rule : Situation S → List ℕ → ℕ → Situation S → Type 0 where
    -- 23: "The run is over."
    when-over : {vs : List ℤ} {ms e : List ℕ} → Rule (over vs ms) e 23 (over vs ms)
    -- 24: "The event's kind is unknown or an unused byte is not 0."
    when-senseless : {x : S} {vs : List ℤ} {ms e : List ℕ} →
        (SaysTick ed e → ⊥) → ((n : ℕ) → SaysPick ed e n → ⊥) → ((s k : ℕ) → SaysSwitch ed e s k → ⊥) →
        Rule (at x vs ms) e 24 (at x vs ms)
    -- "Pick: acting, switch check, then the node's truth or assignment."
    -- 25: "The picked node is not acting."
    pick-idle : {x : S} {vs : List ℤ} {ms e : List ℕ} {n : ℕ} → SaysPick ed e n →
        (Mem n (c.acting x) → ⊥) → Rule (at x vs ms) e 25 (at x vs ms)
    -- 28: "The switch check of a pick or tick stops at a true switch."
    pick-switch-true : {x : S} {vs : List ℤ} {ms e : List ℕ} {n : ℕ} → SaysPick ed e n → Mem n (c.acting x) →
        Checks ed vs (CurrentSwitch p ms) found_true → Rule (at x vs ms) e 28 (at x vs ms)
    -- a WHILE or an IF
    pick-test : {x : S} {vs : List ℤ} {ms e t : List ℕ} {n a : ℕ} {b : Bool} {after : Situation S} → SaysPick ed e n → Mem n (c.acting x) →
        Checks ed vs (CurrentSwitch p ms) nothing → c.action n ≡ test t → TruthComesTo ed vs t (ok b) →
        Goes vs ms (c.next x n b) a after → Rule (at x vs ms) e a after
    -- a CONTINUE
    pick-wait : {x : S} {vs : List ℤ} {ms e t : List ℕ} {n a : ℕ} {after : Situation S} → SaysPick ed e n → Mem n (c.acting x) →
        Checks ed vs (CurrentSwitch p ms) nothing → c.action n ≡ wait t → TruthComesTo ed vs t (ok true) →
        Goes vs ms (c.next x n true) a after → Rule (at x vs ms) e a after
    -- 29: "The CONTINUE is not yet true."
    pick-wait-false : {x : S} {vs : List ℤ} {ms e t : List ℕ} {n : ℕ} → SaysPick ed e n → Mem n (c.acting x) →
        Checks ed vs (CurrentSwitch p ms) nothing → c.action n ≡ wait t → TruthComesTo ed vs t (ok false) →
        Rule (at x vs ms) e 29 (at x vs ms)
    -- a RESET or REINITIAL
    pick-assign : {x : S} {vs : List ℤ} {ms e t : List ℕ} {n v a : ℕ} {z : ℤ} {d : Variable} {after : Situation S} → SaysPick ed e n → Mem n (c.acting x) →
        Checks ed vs (CurrentSwitch p ms) nothing → c.action n ≡ assign v t → NumberComesTo ed vs t (ok z) →
        get_elem? p.variables v ≡ some d → InRange d z →
        Goes (set vs v z) ms (c.next x n true) a after → Rule (at x vs ms) e a after
    -- a SWITCH
    pick-switch : {x : S} {vs : List ℤ} {ms e : List ℕ} {n s m a : ℕ} {after : Situation S} → SaysPick ed e n → Mem n (c.acting x) →
        Checks ed vs (CurrentSwitch p ms) nothing → c.action n ≡ switch s m →
        Goes vs (set ms s m) (c.next x n true) a after → Rule (at x vs ms) e a after
    -- a STOP: 202, and the run is over, whatever the control
    pick-stop : {x : S} {vs : List ℤ} {ms e : List ℕ} {n : ℕ} → SaysPick ed e n → Mem n (c.acting x) →
        Checks ed vs (CurrentSwitch p ms) nothing → c.action n ≡ stop → Rule (at x vs ms) e 202 (over vs ms)
    -- "Switch (no switch check): it exists, its truth holds, the mode changes."
    -- 26: "There is no such switch."
    switch-missing : {x : S} {vs : List ℤ} {ms e : List ℕ} {s k : ℕ} → SaysSwitch ed e s k →
        ((w : Switch) → CurrentSwitch p ms s k w → ⊥) →
        Rule (at x vs ms) e 26 (at x vs ms)
    switch-taken : {x : S} {vs : List ℤ} {ms e : List ℕ} {s k : ℕ} {w : Switch} → SaysSwitch ed e s k →
        CurrentSwitch p ms s k w → TruthComesTo ed vs w.truth (ok true) →
        Rule (at x vs ms) e 200 (at x vs (set ms s w.target))
    -- 30: "The switch's truth is false."
    switch-false : {x : S} {vs : List ℤ} {ms e : List ℕ} {s k : ℕ} {w : Switch} → SaysSwitch ed e s k →
        CurrentSwitch p ms s k w → TruthComesTo ed vs w.truth (ok false) →
        Rule (at x vs ms) e 30 (at x vs ms)
    -- "Tick: all acting nodes are CONTINUE, switch check, their truths in node order up to the first that is true or faults,
    -- then each driven variable adds its current rate"
    -- 27: "A tick while some acting node is no CONTINUE."
    tick-busy : {x : S} {vs : List ℤ} {ms e : List ℕ} {n : ℕ} → SaysTick ed e → Mem n (c.acting x) →
        ((t : List ℕ) → c.action n ≡ wait t → ⊥) → Rule (at x vs ms) e 27 (at x vs ms)
    -- 28
    tick-switch-true : {x : S} {vs : List ℤ} {ms e : List ℕ} {ts : List (List ℕ)} → SaysTick ed e → Waits c.action (c.acting x) ts →
        Checks ed vs (CurrentSwitch p ms) found_true → Rule (at x vs ms) e 28 (at x vs ms)
    -- 31: "A tick whose walk over the CONTINUE truths stops at a true one."
    tick-wait-true : {x : S} {vs : List ℤ} {ms e : List ℕ} {ts : List (List ℕ)} → SaysTick ed e → Waits c.action (c.acting x) ts →
        Checks ed vs (CurrentSwitch p ms) nothing → Walks ed vs ts found_true → Rule (at x vs ms) e 31 (at x vs ms)
    tick-taken : {x : S} {vs ys : List ℤ} {ms e : List ℕ} {ts : List (List ℕ)} → SaysTick ed e → Waits c.action (c.acting x) ts →
        Checks ed vs (CurrentSwitch p ms) nothing → Walks ed vs ts nothing → Added p ms vs ys → AllInRange p.variables ys →
        Rule (at x vs ms) e 200 (at x ys ms)
    -- "A fault leaves values and modes as before the event and ends the run."; "The answer 203 means above and a new answer 204 means below"
    fault-above : {x : S} {vs : List ℤ} {ms e : List ℕ} → Faults x vs ms e above → Rule (at x vs ms) e 203 (over vs ms)
    fault-below : {x : S} {vs : List ℤ} {ms e : List ℕ} → Faults x vs ms e below → Rule (at x vs ms) e 204 (over vs ms)

  -- ---- 23 to 31, each by itself: its sentence, in the situation before the event; 24 to 31 speak of a run that is not over
  pub data Sentence : ℕ → Situation S → List ℕ → Type 0 where
    -- 23: "The run is over."
    is-over : {vs : List ℤ} {ms e : List ℕ} → Sentence 23 (over vs ms) e
    -- 24: "The event's kind is unknown or an unused byte is not 0."
    is-senseless : {x : S} {vs : List ℤ} {ms e : List ℕ} →
        (SaysTick ed e → ⊥) → ((n : ℕ) → SaysPick ed e n → ⊥) → ((s k : ℕ) → SaysSwitch ed e s k → ⊥) → Sentence 24 (at x vs ms) e
    -- 25: "The picked node is not acting."
    is-idle : {x : S} {vs : List ℤ} {ms e : List ℕ} {n : ℕ} → SaysPick ed e n → (Mem n (c.acting x) → ⊥) → Sentence 25 (at x vs ms) e
    -- 26: "There is no such switch."
    is-missing : {x : S} {vs : List ℤ} {ms e : List ℕ} {s k : ℕ} → SaysSwitch ed e s k →
        ((w : Switch) → CurrentSwitch p ms s k w → ⊥) → Sentence 26 (at x vs ms) e
    -- 27: "A tick while some acting node is no CONTINUE."
    is-busy : {x : S} {vs : List ℤ} {ms e : List ℕ} {n : ℕ} → SaysTick ed e → Mem n (c.acting x) →
        ((t : List ℕ) → c.action n ≡ wait t → ⊥) → Sentence 27 (at x vs ms) e
    -- 28: "The switch check of a pick or tick stops at a true switch."
    is-checked-pick : {x : S} {vs : List ℤ} {ms e : List ℕ} {n : ℕ} → SaysPick ed e n →
        Checks ed vs (CurrentSwitch p ms) found_true → Sentence 28 (at x vs ms) e
    is-checked-tick : {x : S} {vs : List ℤ} {ms e : List ℕ} → SaysTick ed e →
        Checks ed vs (CurrentSwitch p ms) found_true → Sentence 28 (at x vs ms) e
    -- 29: "The CONTINUE is not yet true."
    is-early : {x : S} {vs : List ℤ} {ms e t : List ℕ} {n : ℕ} → SaysPick ed e n → c.action n ≡ wait t →
        TruthComesTo ed vs t (ok false) → Sentence 29 (at x vs ms) e
    -- 30: "The switch's truth is false."
    is_false : {x : S} {vs : List ℤ} {ms e : List ℕ} {s k : ℕ} {w : Switch} → SaysSwitch ed e s k →
        CurrentSwitch p ms s k w → TruthComesTo ed vs w.truth (ok false) → Sentence 30 (at x vs ms) e
    -- 31: "A tick whose walk over the CONTINUE truths stops at a true one."
    is-due : {x : S} {vs : List ℤ} {ms e : List ℕ} {ts : List (List ℕ)} → SaysTick ed e → Waits c.action (c.acting x) ts →
        Walks ed vs ts found_true → Sentence 31 (at x vs ms) e

  -- the switch check of this pick or tick would fault: "a fault in the switch check is 203 before 29 or 31 is looked at", or 204 where it lies below
  pub data CheckFaults : Situation S → List ℕ → Type 0 where
    pick-check : {x : S} {vs : List ℤ} {ms e : List ℕ} {n : ℕ} {side : Side} → SaysPick ed e n →
        Checks ed vs (CurrentSwitch p ms) (found_fault side) → CheckFaults (at x vs ms) e
    tick-check : {x : S} {vs : List ℤ} {ms e : List ℕ} {side : Side} → SaysTick ed e →
        Checks ed vs (CurrentSwitch p ms) (found_fault side) → CheckFaults (at x vs ms) e

  -- the whole list, "from the start to its last event"
  pub data Derives : Situation S → List (List ℕ) → List (Answered S) → Type 0 where
    no-events : {s : Situation S} → Derives s [] []
    one-event : {s t : Situation S} {e : List ℕ} {es : List (List ℕ)} {a : ℕ} {l : List (Answered S)} →
        Rule s e a t → Derives t es l → Derives s (e ∷ es) (record { answer = a; left = t } ∷ l)

-- sentence n is the first that holds, and no fault of the switch check comes before it
pub record Decides {S : Type 0} (ed : Edition) (p : Plant) (c : Control S) (s : Situation S) (e : List ℕ) (n : ℕ) : Type 0 where
  pub applies : Sentence ed p c n s e
  pub least : (m : ℕ) → m < n → Sentence ed p c m s e → ⊥
  pub unfaulted : 28 < n → CheckFaults ed p c s e → ⊥

-- a STOP that acts is picked
pub record Stopping {S : Type 0} (ed : Edition) (c : Control S) (s : Situation S) (e : List ℕ) : Type 0 where
  pub place : S
  pub node : ℕ
  pub stands : s.place ≡ some place
  pub says : SaysPick ed e node
  pub acts : Mem node (c.acting place)
  pub is_stop : c.action node ≡ stop

-- ---- where a run can be
-- the places that moves lead to from the start
pub data Comes {S : Type 0} (c : Control S) : S → Type 0 where
  at_start : Comes c c.start
  by_move : {x y : S} {n : ℕ} {b : Bool} → Comes c x → Mem n (c.acting x) → possible (c.action n) b ≡ true → c.next x n b ≡ to y → Comes c y

pub data Standing {S : Type 0} (c : Control S) : Situation S → Type 0 where
  stands_at : {x : S} {vs : List ℤ} {ms : List ℕ} → Comes c x → Standing c (at x vs ms)
  stands_over : {vs : List ℤ} {ms : List ℕ} → Standing c (over vs ms)

-- what an accepted schedule or table gives to its run: wherever it comes to, an acting node has its moves and just a STOP's halts;
-- what is assigned is declared; and no variable has two rates
pub record Sound {S : Type 0} (p : Plant) (c : Control S) : Type 0 where
  pub moves : (x : S) (n : ℕ) (b : Bool) → Comes c x → Mem n (c.acting x) → possible (c.action n) b ≡ true → c.next x n b ≡ idle → ⊥
  pub halts : (x : S) (n : ℕ) (b : Bool) → Comes c x → Mem n (c.acting x) → possible (c.action n) b ≡ true → (c.next x n b ≡ halted) ↔ (c.action n ≡ stop)
  pub declares : (x : S) (n v : ℕ) (t : List ℕ) → Mem n (c.acting x) → c.action n ≡ assign v t → v < length p.variables
  pub one_rate : (ms : List ℕ) (v : ℕ) (y z : ℤ) → CurrentRate p ms v y → CurrentRate p ms v z → y ≡ z
