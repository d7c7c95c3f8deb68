-- What the calls over a table return and leave: on a refusal nothing but the number; where they accept, what the rules derive.
use mathlib.Core.Path.{◌≡◌, refl, sym, ap, subst, subst₂, ◌∙◌}
use mathlib.Core.Bool.{Bool, true, false, cond}
use mathlib.Core.List.Memᴰ
use mathlib.Core.List.{List, [], ◌∷◌, map, flat_map, Memᴰ as Mem}
use mathlib.Core.Logic.{◌↔◌, ◌⊎◌, inl, inr}
use mathlib.Core.Option.{Option, none, some}
use Prim.Native.Nat.{ℕ, zero, suc, ◌*◌, ◌≤◌, ◌<◌}
use native.Mathlib.Omega.{arith}
use borrow.Author.Tests.{leb-true, eqb-true, eqb-false, ne_eqb, ltb-true}
use lib.Dec.{ltb, eqb}
use lib.ListN.{length, get_or}
use Rattle.semantics.specs.Bytes.{every, byte, nat2, int4, times}
use Rattle.semantics.specs.Editions.{Edition}
use Rattle.semantics.specs.Events.{events_in}
use Rattle.semantics.specs.Refusals.{Judged, refused, accepted, refusal_of}
use Rattle.semantics.specs.Plant.{Plant, selectors}
use Rattle.semantics.specs.Starts.{Start, start_in, read_start}
use Rattle.semantics.specs.Run.{Action, test, wait, assign, switch, stop, possible, is_test, halted, Control, at, answers, record_of, counts_from, no_counts}
use Rattle.semantics.specs.Rules.{at_start, stands_at, Sound}
use Rattle.semantics.specs.TableFile.{NodeAction, Entry, FINISHED, HALTED, NONE, location_limit, read_location, locations_in}
use Rattle.semantics.specs.Tables.{Table, judge_table, operand_fits, operands_fit, actions_numbered, actions_fit, action_at, action_or_stop, is_going_on, targets_fit, entry_fits, entry_nodes, location_fits, locations_fit_in, rising_from, going_to, entry_target, next_of_entry, entries_at, table_control}
use Rattle.semantics.specs.Calls.{Program, Outcome, outcome_of, run_from, judge_admission, judge_run, report, event_count, record_size, room_for_records, table_program, table_run_of, table_counts_of, read_table_of}
use Rattle.semantics.specs.Conditions.{Condition, Firsts, refuses, accepts, table_conditions, run_conditions, table_run_conditions}
use Rattle.semantics.specs.Statements.{RunHolds}
use Rattle.semantics.proofs.Facts.{true-not-false, and_left, and_right, within-high, All, all_nil, all_cons, all-mem, every-all}
use Rattle.semantics.proofs.Judging as Judging
use Rattle.semantics.proofs.Admission.{Admits, admission-passed}
use Rattle.semantics.proofs.Readers as Readers
use Rattle.semantics.proofs.FirstNumber.{lacks, first-not, table-run-first, ran-refusal}
use Rattle.semantics.proofs.Halting.{Fitting, fits_on, fits_end, fits_halt, fitting-moves, fitting-halts}
use Rattle.semantics.proofs.OneRate.{one_rate}
use Rattle.semantics.proofs.EventsCut.{events-length}
use Rattle.semantics.proofs.RecordForms.{overwritten}
use Rattle.semantics.proofs.RunCounts.{written-length, answers-counted}
use Rattle.semantics.proofs.StepRules.{answers-derived}
use Rattle.semantics.proofs.TablePassed.{table-passed}
use Rattle.semantics.proofs.TableBack.{locations-in-order}
use Rattle.semantics.proofs.WrittenSources.{found}

-- ---- an accepted table
pub few-locations : (ed : Edition) (s : List ℕ) {ls : List (List Entry)} → locations_in ed s ≡ some ls → length ls ≤ location_limit
unfolding locations_in
few-locations ed s h =
    let a = Readers.split nat2 _ (sym (ap (λ r. r s) (locations-in-order ed)) ∙ Readers.whole-read _ s h) in
    let b = Readers.guarded _ _ a.then in
    let c = Readers.times-read {P = λ es. Unit {0}} (read_location ed) (λ es u v k. tt) a.value a.rest b.1 in
    let d = within-high 1 location_limit a.value b.0 in
    let e = c.0 in
    omega arith

-- ---- a target that fits leads somewhere
goes : (k t : ℕ) (a : Action) → k ≤ location_limit → is_going_on k t ≡ true → (a ≡ stop → ⊥) → Fitting a (going_to t)
unfolding is_going_on going_to FINISHED HALTED NONE
goes k t a few h f = go (ltb t k) refl h
  where
    go : (b : Bool) → ltb t k ≡ b → cond b true (eqb t 0xfffe) ≡ true → Fitting a (going_to t)
    go true e h =
        let l = ltb-true t k e in
        fits_on {y = t} f (rw (ne_eqb t 0xfffe (λ q. omega arith), ne_eqb t 0xfffd (λ q. omega arith), ne_eqb t 0xffff (λ q. omega arith)) refl)
    go false e h = fits_end f (rw h refl)

halts : (t : ℕ) → eqb t HALTED ≡ true → Fitting stop (going_to t)
unfolding going_to HALTED FINISHED NONE
halts t h = fits_halt refl (rw (eqb-true t 0xfffd h) refl)

-- the entry of a node that stands in a location is found, and fits
record Leads (k : ℕ) (acts : List NodeAction) (es : List Entry) (n : ℕ) : Type 0 where
  entry : Entry
  fits : entry_fits k acts entry ≡ true
  here : entry.node ≡ n
  found : (b : Bool) → entry_target es n b ≡ cond b entry.target entry.other

leads : (k : ℕ) (acts : List NodeAction) (es : List Entry) → All (λ e. entry_fits k acts e ≡ true) es → (n : ℕ) → Mem n (entry_nodes es) → Leads k acts es n
unfolding entry_nodes entry_target
leads k acts [] h n m = absurd (Memᴰ.not-nil m)
leads k acts (e ∷ es) h n m = go h (eqb e.node n) refl (Memᴰ.cases_cons m) (leads k acts es)
  where
    go : All (λ e. entry_fits k acts e ≡ true) (e ∷ es) → (b : Bool) → eqb e.node n ≡ b → (n ≡ e.node) ⊎ Mem n (map (λ (e : Entry). e.node) es) →
        (All (λ e. entry_fits k acts e ≡ true) es → (n : ℕ) → Mem n (entry_nodes es) → Leads k acts es n) → Leads k acts (e ∷ es) n
    go (all_cons f g) true i c ih = record { entry = e; fits = f; here = eqb-true e.node n i; found = λ b. rw (i, entry_target) refl }
    go (all_cons f g) false i (inl c) ih = absurd (eqb-false e.node n i (sym c))
    go (all_cons f g) false i (inr c) ih =
        let q = ih g n c in
        record { entry = q.entry; fits = q.fits; here = q.here; found = λ b. rw (i, entry_target) (q.found b) }

test-no-stop : (t : List ℕ) → test t ≡ stop → ⊥
test-no-stop t h = let z : ◌≡◌ {A = ℕ} 0 1 = cc in omega arith

wait-no-stop : (t : List ℕ) → wait t ≡ stop → ⊥
wait-no-stop t h = let z : ◌≡◌ {A = ℕ} 0 1 = cc in omega arith

assign-no-stop : (v : ℕ) (t : List ℕ) → assign v t ≡ stop → ⊥
assign-no-stop v t h = let z : ◌≡◌ {A = ℕ} 0 1 = cc in omega arith

switch-no-stop : (s m : ℕ) → switch s m ≡ stop → ⊥
switch-no-stop s m h = let z : ◌≡◌ {A = ℕ} 0 1 = cc in omega arith

-- an entry that fits an action's kind has a fit move for each outcome that is possible
fit_moves : (k : ℕ) (a : Action) (t u : ℕ) → k ≤ location_limit → targets_fit k a t u ≡ true → (b : Bool) → possible a b ≡ true → Fitting a (going_to (cond b t u))
unfolding targets_fit possible is_test
fit_moves k (test c) t u few h true p = goes k t _ few (and_left (is_going_on k t) (is_going_on k u) h) (test-no-stop c)
fit_moves k (test c) t u few h false p = goes k u _ few (and_right (is_going_on k t) (is_going_on k u) h) (test-no-stop c)
fit_moves k (wait c) t u few h true p = goes k t _ few (and_left (is_going_on k t) _ h) (wait-no-stop c)
fit_moves k (wait c) t u few h false p = true-not-false (sym p)
fit_moves k (assign v e) t u few h true p = goes k t _ few (and_left (is_going_on k t) _ h) (assign-no-stop v e)
fit_moves k (assign v e) t u few h false p = true-not-false (sym p)
fit_moves k (switch s m) t u few h true p = goes k t _ few (and_left (is_going_on k t) _ h) (switch-no-stop s m)
fit_moves k (switch s m) t u few h false p = true-not-false (sym p)
fit_moves k stop t u few h true p = halts t (and_left (eqb t HALTED) _ h)
fit_moves k stop t u few h false p = true-not-false (sym p)

-- the entries of a location of the table fit; beyond it there are none
entries_fit : (k : ℕ) (acts : List NodeAction) (ls : List (List Entry)) (x : ℕ) → All (λ es. location_fits k acts es ≡ true) ls → All (λ e. entry_fits k acts e ≡ true) (get_or ls x [])
unfolding location_fits
entries_fit k acts [] x h = all_nil
entries_fit k acts (es ∷ ls) zero (all_cons h g) = every-all (entry_fits k acts) es (and_right (rising_from 0 (entry_nodes es)) (every (entry_fits k acts) es) h)
entries_fit k acts (es ∷ ls) (suc x) (all_cons h g) = entries_fit k acts ls x g

entries-rise : (k : ℕ) (acts : List NodeAction) (ls : List (List Entry)) (x : ℕ) → All (λ es. location_fits k acts es ≡ true) ls → rising_from 0 (entry_nodes (get_or ls x [])) ≡ true
unfolding location_fits rising_from entry_nodes
entries-rise k acts [] x h = refl
entries-rise k acts (es ∷ ls) zero (all_cons h g) = and_left (rising_from 0 (entry_nodes es)) (every (entry_fits k acts) es) h
entries-rise k acts (es ∷ ls) (suc x) (all_cons h g) = entries-rise k acts ls x g

pub found-or-stop : (l : List NodeAction) (n : ℕ) {a : Action} → action_at l n ≡ some a → action_or_stop l n ≡ a
unfolding action_or_stop
found-or-stop l n e = rw (e, action_or_stop) refl

-- an action that is not a stop is one of the list
in_list : (l : List NodeAction) (n v : ℕ) (e : List ℕ) → action_or_stop l n ≡ assign v e → action_at l n ≡ some (assign v e)
unfolding action_or_stop
in_list l n v e h = go (action_at l n) refl h
  where
    go : (o : Option Action) → action_at l n ≡ o → elim o [ none ↦ stop | some a ↦ a ] ≡ assign v e → action_at l n ≡ some (assign v e)
    go none i h = let z : ◌≡◌ {A = ℕ} 0 1 = cc in absurd (omega arith)
    go (some a) i h = i ∙ ap some h

-- an entry of a known node, with its action
known-fits : (k : ℕ) (acts : List NodeAction) (e : Entry) → entry_fits k acts e ≡ true → (a : Action) × (action_at acts e.node ≡ some a) × (targets_fit k a e.target e.other ≡ true)
unfolding entry_fits
known-fits k acts e h = go (action_at acts e.node) refl h
  where
    go : (o : Option Action) → action_at acts e.node ≡ o → elim o [ none ↦ false | some a ↦ targets_fit k a e.target e.other ] ≡ true →
        (a : Action) × (action_at acts e.node ≡ some a) × (targets_fit k a e.target e.other ≡ true)
    go none i h = true-not-false (sym h)
    go (some a) i h = (a, i, h)

-- the run of every accepted table is sound
module _ (ed : Edition) (table : List ℕ) (t : Table) (h : judge_table ed table ≡ accepted t) where
  abbrev acts : List NodeAction
  acts = t.actions

  row_fits : (x : ℕ) → All (λ e. entry_fits (length t.locations) acts e ≡ true) (get_or t.locations x [])
  unfolding locations_fit_in
  row_fits x = entries_fit (length t.locations) acts t.locations x (every-all (location_fits (length t.locations) acts) t.locations (table-passed ed table h).locs_fit)

  row-moves : (x n : ℕ) (b : Bool) → Mem n (entry_nodes (get_or t.locations x [])) → possible (action_or_stop acts n) b ≡ true → Fitting (action_or_stop acts n) (next_of_entry (get_or t.locations x []) n b)
  unfolding next_of_entry
  row-moves x n b m p =
      let q = leads (length t.locations) acts (get_or t.locations x []) (row_fits x) n m in
      let k = known-fits (length t.locations) acts q.entry q.fits in
      let a : k.0 ≡ action_or_stop acts n = sym (found-or-stop acts q.entry.node k.1) ∙ ap (action_or_stop acts) q.here in
      let f = fit_moves (length t.locations) k.0 q.entry.target q.entry.other (let q = table-passed ed table h in few-locations ed q.parts.locations q.locs) k.2 b (ap (λ y. possible y b) a ∙ p) in
      subst₂ (λ a x. Fitting a x) a (sym (ap going_to (q.found b))) f

  named : (n v : ℕ) (e : List ℕ) → action_or_stop acts n ≡ assign v e → v < length t.plant.variables
  unfolding actions_fit operands_fit operand_fits
  named n v e i =
      let f = found acts n (in_list acts n v e i) in
      let fits = operand_fits ed (length t.plant.variables) (selectors t.plant) in
      let o = all-mem (every-all (λ (a : NodeAction). fits a.action) acts (and_right (actions_numbered ed acts) _ (table-passed ed table h).acts_fit)) f.listed in
      let d : fits (assign v e) ≡ true = ap fits (sym f.action_is) ∙ o in
      ltb-true v (length t.plant.variables) (and_left (ltb v (length t.plant.variables)) _ d)

  pub sound-table : Sound t.plant (table_control t)
  unfolding table_control entries_at
  sound-table = record {
    moves = λ x n b w m p. fitting-moves (row-moves x n b m p);
    halts = λ x n b w m p. fitting-halts (row-moves x n b m p);
    declares = λ x n v e m i. named n v e i;
    one_rate = let q = table-passed ed table h in one_rate ed q.parts.variables q.parts.equations q.plant;
  }

  -- the acting nodes rise
  pub table-rises : (x : ℕ) → rising_from 0 ((table_control t).acting x) ≡ true
  unfolding locations_fit_in table_control entries_at
  table-rises x = entries-rise (length t.locations) acts t.locations x (every-all (location_fits (length t.locations) acts) t.locations (table-passed ed table h).locs_fit)

  -- just a STOP halts, also at locations that no run comes to
  pub table-halts : (x n : ℕ) (b : Bool) → Mem n ((table_control t).acting x) → possible ((table_control t).action n) b ≡ true → ((table_control t).next x n b ≡ halted) ↔ ((table_control t).action n ≡ stop)
  unfolding table_control entries_at
  table-halts x n b m p = fitting-halts (row-moves x n b m p)

-- ---- the calls
-- no condition has the number 0, so a call that returns 0 has accepted
pub accepted-of : {A : Type 0} {j : Judged A} {l : List Condition} → Firsts j l → All (λ (c : Condition). c.refusal ≡ 0 → ⊥) l → refusal_of j ≡ 0 → (a : A) × (j ≡ accepted a)
unfolding refusal_of
accepted-of (refuses f) h z = absurd (first-not h f z)
accepted-of (accepts {a = a} c) h z = (a, refl)

-- as many values and modes as the plant has
pub start-values : (p : Plant) (start : List ℕ) {st : Start} → start_in p start ≡ some st → (length st.values ≡ length p.variables) × (length st.modes ≡ length (selectors p))
unfolding start_in read_start
start-values p start h =
    let a = Readers.split (times (length p.variables) int4) _ (Readers.whole-read _ start h) in
    let b = Readers.split (times (length (selectors p)) byte) _ a.then in
    let e = Readers.given _ _ b.then in
    let v = Readers.times-read {P = λ z. Unit {0}} int4 (λ z s t k. tt) (length p.variables) start a.first in
    let m = Readers.times-read {P = λ z. Unit {0}} byte (λ z s t k. tt) (length (selectors p)) a.rest b.first in
    (sym (ap (λ (st : Start). length st.values) e) ∙ v.0, sym (ap (λ (st : Start). length st.modes) e) ∙ m.0)

-- what an accepted run has passed
pub record Passed {S : Type 0} (ed : Edition) (j : Judged (Program S)) (start events buffer : List ℕ) (o : Outcome) : Type 0 where
  pub program : Program S
  pub is_program : j ≡ accepted program
  pub st : Start
  pub admits : Admits ed program.plant start events buffer st
  pub outcome : outcome_of ed program.control (run_from ed program st events) ≡ o

pub run-passed : {S : Type 0} (ed : Edition) (j : Judged (Program S)) (start events buffer : List ℕ) {o : Outcome} → judge_run ed j start events buffer ≡ accepted o → Passed ed j start events buffer o
unfolding judge_run
run-passed ed j start events buffer h =
    let a = Judging.passed_then j _ h in
    let b = Judging.passed_then (judge_admission ed a.0.plant start events buffer) _ a.2 in
    record { program = a.0; is_program = a.1; st = b.0; admits = admission-passed ed a.0.plant start events buffer b.1; outcome = Judging.accepted-is b.2 }

-- a run that is taken on says what the rules derive
module _ {S : Type 0} (ed : Edition) (p : Plant) (c : Control S) (sound : Sound p c) (start events buffer : List ℕ) where
  run_holds : (st : Start) → start_in p start ≡ some st → room_for_records ed p events buffer ≡ true →
      RunHolds ed p c start events buffer (report buffer (accepted (outcome_of ed c (run_from ed (record { plant = p; control = c }) st events))))
  unfolding report outcome_of run_from room_for_records counts_from
  run_holds st h r =
      let begin = at c.start st.values st.modes in
      let es = events_in ed.event_bytes (event_count ed events) events in
      let k = start-values p start h in
      let l = written-length ed p c begin es k.0 k.1 ∙ ap (λ n. n * record_size ed p) (events-length ed.event_bytes (event_count ed events) events) in
      let m = leb-true (event_count ed events * record_size ed p) (length buffer) r in
      record {
        st = st;
        start_read = h;
        said = answers ed p c begin es;
        derived = answers-derived ed p c sound begin (stands_at at_start) es;
        result = refl;
        written = overwritten (flat_map (record_of ed c) (answers ed p c begin es)) buffer (omega arith);
        counted = answers-counted ed p c begin es;
      }

  -- the same of the call's own result
  pub run-built : (j : Judged (Program S)) (g : Program S) → record { plant = p; control = c } ≡ g →
      (st : Start) → Admits ed g.plant start events buffer st → judge_run ed j start events buffer ≡ accepted (outcome_of ed g.control (run_from ed g st events)) →
      RunHolds ed p c start events buffer (report buffer (judge_run ed j start events buffer))
  run-built j g e st a k = rw k
      (subst (λ (g : Program S). start_in g.plant start ≡ some st → room_for_records ed g.plant events buffer ≡ true →
      RunHolds ed p c start events buffer (report buffer (accepted (outcome_of ed g.control (run_from ed g st events))))) e (run_holds st) a.starts.is_read a.room)

table-numbers : (ed : Edition) (table start events buffer : List ℕ) → All (λ (c : Condition). c.refusal ≡ 0 → ⊥) (table_run_conditions ed table start events buffer)
unfolding every table_run_conditions table_conditions run_conditions
table-numbers ed table start events buffer = lacks 0 (table_run_conditions ed table start events buffer) refl

pub table-run-holds : (ed : Edition) (table start events buffer : List ℕ) → (table_run_of ed table start events buffer).refusal ≡ 0 →
    (t : Table) × (judge_table ed table ≡ accepted t) × RunHolds ed t.plant (table_control t) start events buffer (table_run_of ed table start events buffer)
unfolding table_run_of table_program
table-run-holds ed table start events buffer z =
    let j = judge_run ed (table_program ed table) start events buffer in
    let a = accepted-of (table-run-first ed table start events buffer) (table-numbers ed table start events buffer) (sym (ran-refusal buffer j) ∙ z) in
    let b = run-passed ed (table_program ed table) start events buffer a.1 in
    let c = Judging.passed_then (judge_table ed table) _ b.is_program in
    (c.0, c.1, run-built ed c.0.plant (table_control c.0) (sound-table ed table c.0 c.1) start events buffer (table_program ed table) b.program (Judging.accepted-is c.2) b.st b.admits (a.1 ∙ ap accepted (sym b.outcome)))

-- on a refusal: the number, and nothing written
pub refused-run : (buffer : List ℕ) (j : Judged Outcome) → ((report buffer j).refusal ≡ 0 → ⊥) →
    report buffer j ≡ record { refusal = (report buffer j).refusal; counts = no_counts; records = buffer }
unfolding report
refused-run buffer (refused n) h = refl
refused-run buffer (accepted o) h = absurd (h refl)

pub refused-table-run : (ed : Edition) (table start events buffer : List ℕ) → ((table_run_of ed table start events buffer).refusal ≡ 0 → ⊥) →
    table_run_of ed table start events buffer ≡ record { refusal = (table_run_of ed table start events buffer).refusal; counts = no_counts; records = buffer }
unfolding table_run_of
refused-table-run ed table start events buffer h = refused-run buffer (judge_run ed (table_program ed table) start events buffer) h

counts_zero : (j : Judged Table) → ((table_counts_of j).refusal ≡ 0 → ⊥) → table_counts_of j ≡ record { refusal = (table_counts_of j).refusal; variables = 0; selectors = 0; actions = 0; locations = 0 }
unfolding table_counts_of
counts_zero (refused n) h = refl
counts_zero (accepted t) h = absurd (h refl)

pub refused-read-table : (ed : Edition) (table : List ℕ) → ((read_table_of ed table).refusal ≡ 0 → ⊥) →
    read_table_of ed table ≡ record { refusal = (read_table_of ed table).refusal; variables = 0; selectors = 0; actions = 0; locations = 0 }
unfolding read_table_of
refused-read-table ed table h = counts_zero (judge_table ed table) h

pub read-table-result : (ed : Edition) (table : List ℕ) {t : Table} → judge_table ed table ≡ accepted t →
    read_table_of ed table ≡ record { refusal = 0; variables = length t.plant.variables; selectors = length (selectors t.plant); actions = length t.actions; locations = length t.locations }
unfolding read_table_of table_counts_of
read-table-result ed table h = rw h refl
