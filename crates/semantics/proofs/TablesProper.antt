-- A table is accepted just where it is the written form, within the printed limits, of a table that 17 to 19 have nothing against.
use mathlib.Core.Path.{◌≡◌, refl, sym, ap, subst, ◌∙◌}
use mathlib.Core.Bool.{Bool, true, false, ◌&&◌, cond}
use mathlib.Core.List.Memᴰ
use mathlib.Core.List.Memᴰ.{head as first}
use mathlib.Core.List.Memᴰ.{tail as later}
use mathlib.Core.List.{List, [], ◌∷◌, Memᴰ as Mem}
use mathlib.Core.Logic.{◌↔◌, ◌⊎◌, inl, inr}
use mathlib.Core.Option.{Option, none, some}
use Prim.Native.Nat.{ℕ, suc, ◌≤◌, ◌<◌}
use native.Mathlib.Omega.{arith}
use borrow.Author.Tests.{ltb-true, lt-ltb, leb-true, le-leb, eqb-true, eq-eqb, ne_eqb}
use lib.Dec.{ltb, leb, eqb}
use lib.ListN.{length}
use Rattle.semantics.specs.Bytes.{every, is_some}
use Rattle.semantics.specs.Editions.{Edition}
use Rattle.semantics.specs.Refusals.{accepted}
use Rattle.semantics.specs.Expressions.{number_in}
use Rattle.semantics.specs.Plant.{Plant, selectors}
use Rattle.semantics.specs.Run.{Action, test, wait, assign, switch, stop}
use Rattle.semantics.specs.TableFile.{NodeAction, Entry, FINISHED, HALTED, NONE, action_bytes, kind_number, operand_bytes}
use Rattle.semantics.specs.Tables.{Table, rising_from, operand_fits, operands_fit, node_exists, actions_numbered, action_nodes, actions_fit, action_at, is_going_on, targets_fit, entry_fits, entry_nodes, location_fits, locations_fit_in, judge_table}
use Rattle.semantics.specs.Starts.{Start, start_in, fits_start}
use Rattle.semantics.specs.Conditions.{is20}
use Rattle.semantics.specs.Writing.{AllBytes, ActionLimits, start_bytes, StartLimits}
use Rattle.semantics.specs.Proper.{ProperAction, proper_test, proper_wait, proper_assign, proper_switch, proper_stop, Rising, rising_nil, rising_one, rising_more, GoesOn, FitTargets, fit_test, fit_wait, fit_assign, fit_switch, fit_stop, ProperEntry, ProperRow, ProperActions, ProperLocations, TableWritten}
use Rattle.semantics.proofs.Facts.{true-not-false, and_left, and_right, and_both, All, all_cons}
use Rattle.semantics.proofs.TableJudged.{table-in-order}
use Rattle.semantics.proofs.Judging.{go-need, go-ensure, go-then, go-only}
use Rattle.semantics.proofs.PlantPassed.{plant-passed, plant-accepted}
use Rattle.semantics.proofs.TablePassed.{table-passed}
use Rattle.semantics.proofs.WrittenSources.{found}
use Rattle.semantics.proofs.ProperForms.{every-is, every-plain, truth-read, number_read, plant-proper, mode-there}
use Rattle.semantics.proofs.TableForms.{table-bytes}
use Rattle.semantics.proofs.StartForms as StartForms

-- ---- rising
rising-head : (low n : ℕ) (l : List ℕ) → rising_from low (n ∷ l) ≡ true → (low ≤ n) × (rising_from (suc n) l ≡ true)
unfolding rising_from
rising-head low n l h = go (leb low n) refl h
  where
    go : (b : Bool) → leb low n ≡ b → elim b [ true ↦ rising_from (suc n) l | false ↦ false ] ≡ true → (low ≤ n) × (rising_from (suc n) l ≡ true)
    go true e h = (leb-true low n e, h)
    go false e h = true-not-false (sym h)

pub rising-there : (low : ℕ) (l : List ℕ) → rising_from low l ≡ true → Rising l
rising-there low [] h = rising_nil
rising-there low (n ∷ []) h = rising_one
rising-there low (m ∷ n ∷ l) h =
    let a = rising-head low m (n ∷ l) h in
    let b = rising-head (suc m) n l a.1 in
    rising_more b.0 (rising-there (suc m) (n ∷ l) a.1)

rising-from : (low : ℕ) {n : ℕ} {l : List ℕ} → low ≤ n → Rising (n ∷ l) → rising_from low (n ∷ l) ≡ true
unfolding rising_from
rising-from low {n} h rising_one = rw (le-leb low n h, rising_from) refl
rising-from low {n} h (rising_more i r) = rw (le-leb low n h, rising_from) (rising-from (suc n) i r)

rising-here : {l : List ℕ} → Rising l → rising_from 0 l ≡ true
unfolding rising_from
rising-here rising_nil = refl
rising-here (rising_one {n = n}) = rising-from 0 {n = n} (omega arith) rising_one
rising-here (rising_more {m = m} h r) = rising-from 0 {n = m} (omega arith) (rising_more h r)

rising-is : (l : List ℕ) → (rising_from 0 l ≡ true) ↔ Rising l
rising-is l = (rising-there 0 l, rising-here)

pub rising-rest : {n : ℕ} {l : List ℕ} → Rising (n ∷ l) → Rising l
rising-rest rising_one = rising_nil
rising-rest (rising_more h r) = r

pub rising-above : {n : ℕ} {l : List ℕ} (m : ℕ) → Rising (n ∷ l) → Mem m l → n < m
rising-above m rising_one k = absurd (Memᴰ.not-nil k)
rising-above {n} m (rising_more {n = x} {l = l} h r) k = go (Memᴰ.cases_cons k) (λ k. rising-above m r k)
  where
    go : (m ≡ x) ⊎ Mem m l → (Mem m l → x < m) → n < m
    go (inl e) f = omega arith
    go (inr k) f = let i = f k in omega arith

-- ---- actions
pub tail-bytes : {n : ℕ} {l : List ℕ} → AllBytes (n ∷ l) → AllBytes l
tail-bytes (all_cons h k) = k

module _ (ed : Edition) (p : Plant) where
  abbrev n : ℕ
  n = length p.variables

  action-there : (a : Action) → AllBytes (action_bytes a) → operand_fits ed n (selectors p) a ≡ true → ProperAction ed p a
  unfolding operand_fits action_bytes kind_number operand_bytes
  action-there (test t) z h = proper_test ((truth-read ed n t (tail-bytes z)).0 h)
  action-there (wait t) z h = proper_wait ((truth-read ed n t (tail-bytes z)).0 h)
  action-there (assign v e) z h =
      proper_assign (ltb-true v n (and_left (ltb v n) (is_some (number_in ed n e)) h)) ((number_read ed n e (tail-bytes (tail-bytes z))).0 (and_right (ltb v n) (is_some (number_in ed n e)) h))
  action-there (switch s m) z h = proper_switch ((mode-there (selectors p) s m).0 h)
  action-there stop z h = proper_stop

  action-here : {a : Action} → AllBytes (action_bytes a) → ProperAction ed p a → operand_fits ed n (selectors p) a ≡ true
  unfolding operand_fits action_bytes kind_number operand_bytes
  action-here z (proper_test {t = t} h) = (truth-read ed n t (tail-bytes z)).1 h
  action-here z (proper_wait {t = t} h) = (truth-read ed n t (tail-bytes z)).1 h
  action-here z (proper_assign {v = v} {e = e} h k) = and_both (lt-ltb v n h) ((number_read ed n e (tail-bytes (tail-bytes z))).1 k)
  action-here z (proper_switch {s = s} {m = m} h) = (mode-there (selectors p) s m).1 h
  action-here z proper_stop = refl

  -- 18
  pub actions-proper : {l : List NodeAction} → All (ActionLimits ed) l → (actions_fit ed p l ≡ true) ↔ ProperActions ed p l
  unfolding actions_fit actions_numbered node_exists operands_fit
  actions-proper {l} h = (there, λ k. and_both (and_both (rising-here k.rising) (nodes.1 k.nodes)) (operands.1 k.operands))
    where
      nodes : (every (node_exists ed) l ≡ true) ↔ All (λ (a : NodeAction). a.node < ed.nodes) l
      nodes = every-plain (node_exists ed) (λ a. (ltb-true a.node ed.nodes, lt-ltb a.node ed.nodes)) l

      operands : (operands_fit ed p l ≡ true) ↔ All (λ (a : NodeAction). ProperAction ed p a.action) l
      operands = every-is (λ (a : NodeAction). operand_fits ed n (selectors p) a.action) (λ a k. (action-there a.action k.bytes, action-here k.bytes)) h

      there : (actions_numbered ed l && operands_fit ed p l) ≡ true → ProperActions ed p l
      there k =
          let a = rising_from 0 (action_nodes l) in
          let b = every (node_exists ed) l in
          let c = and_left (a && b) (operands_fit ed p l) k in
          record { rising = rising-there 0 (action_nodes l) (and_left a b c); nodes = nodes.0 (and_right a b c); operands = operands.0 (and_right (a && b) (operands_fit ed p l) k) }

-- ---- locations
-- the action of a node that is listed
mem-node : {a : NodeAction} {l : List NodeAction} → Mem a l → Mem a.node (action_nodes l)
unfolding action_nodes
mem-node (first e) = first (ap (λ (a : NodeAction). a.node) e)
mem-node (later m) = later (mem-node m)

pub listed_found : (l : List NodeAction) (a : NodeAction) → Rising (action_nodes l) → Mem a l → action_at l a.node ≡ some a.action
unfolding action_nodes action_at
listed_found [] a r m = absurd (Memᴰ.not-nil m)
listed_found (x ∷ l) a r m = go (Memᴰ.cases_cons m) (λ k. listed_found l a (rising-rest r) k)
  where
    go : (a ≡ x) ⊎ Mem a l → (Mem a l → action_at l a.node ≡ some a.action) → elim (eqb x.node a.node) [ true ↦ some x.action | false ↦ action_at l a.node ] ≡ some a.action
    go (inl e) f = rw (eq-eqb x.node a.node (ap (λ (a : NodeAction). a.node) (sym e))) (ap (λ (a : NodeAction). some a.action) (sym e))
    go (inr k) f = let i = rising-above a.node r (mem-node k) in rw (ne_eqb x.node a.node (λ e. omega arith)) (f k)

pub is-listed : (x : NodeAction) {n : ℕ} {a : Action} → x.node ≡ n → x.action ≡ a → x ≡ record { node = n; action = a }
is-listed x h k = rw (← h, ← k) refl

module _ (locations : ℕ) where
  pub goes-there : (t : ℕ) → is_going_on locations t ≡ true → GoesOn locations t
  unfolding is_going_on FINISHED
  goes-there t h = go (ltb t locations) refl h
    where
      go : (b : Bool) → ltb t locations ≡ b → cond b true (eqb t 0xfffe) ≡ true → GoesOn locations t
      go true e h = inl (ltb-true t locations e)
      go false e h = inr (eqb-true t 0xfffe h)

  goes_here : (t : ℕ) → GoesOn locations t → is_going_on locations t ≡ true
  unfolding is_going_on FINISHED
  goes_here t (inl h) = rw (lt-ltb t locations h) refl
  goes_here t (inr h) = go (ltb t locations)
    where
      go : (b : Bool) → cond b true (eqb t 0xfffe) ≡ true
      go true = refl
      go false = eq-eqb t 0xfffe h

  targets-there : (a : Action) (t u : ℕ) → targets_fit locations a t u ≡ true → FitTargets locations a t u
  unfolding targets_fit NONE HALTED
  targets-there (test c) t u h = fit_test (goes-there t (and_left (is_going_on locations t) (is_going_on locations u) h)) (goes-there u (and_right (is_going_on locations t) (is_going_on locations u) h))
  targets-there (wait c) t u h = fit_wait (goes-there t (and_left (is_going_on locations t) (eqb u 0xffff) h)) (eqb-true u 0xffff (and_right (is_going_on locations t) (eqb u 0xffff) h))
  targets-there (assign v e) t u h = fit_assign (goes-there t (and_left (is_going_on locations t) (eqb u 0xffff) h)) (eqb-true u 0xffff (and_right (is_going_on locations t) (eqb u 0xffff) h))
  targets-there (switch s m) t u h = fit_switch (goes-there t (and_left (is_going_on locations t) (eqb u 0xffff) h)) (eqb-true u 0xffff (and_right (is_going_on locations t) (eqb u 0xffff) h))
  targets-there stop t u h = fit_stop (eqb-true t 0xfffd (and_left (eqb t 0xfffd) (eqb u 0xffff) h)) (eqb-true u 0xffff (and_right (eqb t 0xfffd) (eqb u 0xffff) h))

  targets-here : {a : Action} {t u : ℕ} → FitTargets locations a t u → targets_fit locations a t u ≡ true
  unfolding targets_fit NONE HALTED
  targets-here {t = t} {u = u} (fit_test h k) = and_both (goes_here t h) (goes_here u k)
  targets-here {t = t} {u = u} (fit_wait h k) = and_both (goes_here t h) (eq-eqb u 0xffff k)
  targets-here {t = t} {u = u} (fit_assign h k) = and_both (goes_here t h) (eq-eqb u 0xffff k)
  targets-here {t = t} {u = u} (fit_switch h k) = and_both (goes_here t h) (eq-eqb u 0xffff k)
  targets-here {t = t} {u = u} (fit_stop h k) = and_both (eq-eqb t 0xfffd h) (eq-eqb u 0xffff k)

  module _ (acts : List NodeAction) (rising : Rising (action_nodes acts)) where
    entry-is : (e : Entry) → (entry_fits locations acts e ≡ true) ↔ ProperEntry acts locations e
    unfolding entry_fits
    entry-is e = (λ h. go (action_at acts e.node) refl h, λ h. rw (listed_found acts (record { node = e.node; action = h.action }) rising h.listed, entry_fits) (targets-here h.targets))
      where
        go : (o : Option Action) → action_at acts e.node ≡ o → elim o [ none ↦ false | some a ↦ targets_fit locations a e.target e.other ] ≡ true → ProperEntry acts locations e
        go none f h = true-not-false (sym h)
        go (some a) f h =
            let x = found acts e.node f in
            record { action = a; listed = subst (λ b. Mem b acts) (is-listed x.entry x.node_is x.action_is) x.listed; targets = targets-there a e.target e.other h }

    row_is : (es : List Entry) → (location_fits locations acts es ≡ true) ↔ ProperRow acts locations es
    unfolding location_fits
    row_is es =
        let a = rising_from 0 (entry_nodes es) in
        let b = every (entry_fits locations acts) es in
        let k = every-plain (entry_fits locations acts) entry-is es in
        (λ h. record { rising = rising-there 0 (entry_nodes es) (and_left a b h); entries = k.0 (and_right a b h) }, λ h. and_both (rising-here h.rising) (k.1 h.entries))

pub locations-proper : (acts : List NodeAction) (l : List (List Entry)) → Rising (action_nodes acts) → (locations_fit_in acts l ≡ true) ↔ ProperLocations acts l
unfolding locations_fit_in
locations-proper acts l r = every-plain (location_fits (length l) acts) (row_is (length l) acts r) l

-- ---- a table
module _ (ed : Edition) where
  accepted-there : (table : List ℕ) (t : Table) → AllBytes table → judge_table ed table ≡ accepted t → TableWritten ed table t
  accepted-there table t z h =
      let p = table-passed ed table h in
      let j = plant-passed ed p.parts.variables p.parts.equations p.plant in
      let w = (table-bytes ed table t).0 (
        z,
        record {
          header = p.header;
          sections = p.parts;
          sections_read = p.is_parts;
          variables_read = j.variables;
          equations_read = j.equations;
          actions_read = p.acts;
          locations_read = p.locs;
        },
      ) in
      let l = w.1 in
      let a = (actions-proper ed t.plant l.actions.each).0 p.acts_fit in
      record {
        bytes = w.0;
        limits = l;
        proper = record {
          plant = (plant-proper ed t.plant l.plant.equations.each).0 (record { is_ordered = j.in_order; named = j.named; once = j.once; reads = p.switches });
          actions = a;
          locations = (locations-proper t.actions t.locations a.rising).0 p.locs_fit;
        };
      }

  accepted-here : (table : List ℕ) (t : Table) → TableWritten ed table t → AllBytes table × (judge_table ed table ≡ accepted t)
  accepted-here table t k =
      let l = k.limits in
      let h = k.proper in
      let w = (table-bytes ed table t).1 (k.bytes, l) in
      let r = w.1 in
      let p = (plant-proper ed t.plant l.plant.equations.each).1 h.plant in
      let plant = plant-accepted ed r.sections.variables r.sections.equations
      (record { variables = r.variables_read; equations = r.equations_read; in_order = p.is_ordered; named = p.named; once = p.once }) in (
        w.0,
        table-in-order ed table
            ∙ go-ensure 15 _ r.header
            ∙ go-need 16 _ r.sections_read
            ∙ go-then _ (go-only 17 plant)
            ∙ go-ensure 17 _ p.reads
            ∙ go-need 18 _ r.actions_read
            ∙ go-ensure 18 _ ((actions-proper ed t.plant l.actions.each).1 h.actions)
            ∙ go-need 19 _ r.locations_read
            ∙ go-ensure 19 _ ((locations-proper t.actions t.locations h.actions.rising).1 h.locations),
      )

  pub table-accepted : (table : List ℕ) (t : Table) → (AllBytes table × (judge_table ed table ≡ accepted t)) ↔ TableWritten ed table t
  table-accepted table t = (λ h. accepted-there table t h.0 h.1, accepted-here table t)

  -- 20, of an accepted table
  pub starts-admitted : (table : List ℕ) (t : Table) → AllBytes table → judge_table ed table ≡ accepted t → (start : List ℕ) (st : Start) →
      (AllBytes start × (start_in t.plant start ≡ some st) × (fits_start t.plant st ≡ true)) ↔ ((start ≡ start_bytes st) × StartLimits t.plant st)
  starts-admitted table t z h = StartForms.starts-admitted t.plant (accepted-there table t z h).limits.plant

  pub start-let-pass : (table : List ℕ) (t : Table) → AllBytes table → judge_table ed table ≡ accepted t → (start events buffer : List ℕ) →
      (AllBytes start × (is20 ed (some t.plant) start events buffer ≡ false)) ↔ ((st : Start) × (start ≡ start_bytes st) × StartLimits t.plant st)
  start-let-pass table t z h = StartForms.start-let-pass t.plant (accepted-there table t z h).limits.plant ed
