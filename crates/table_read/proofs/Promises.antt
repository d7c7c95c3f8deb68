-- What the index of a table promises to the code that runs it.
use mathlib.Core.Path.{◌≡◌, refl, sym, ap, subst, ◌∙◌}
use mathlib.Core.Bool.{Bool, true, false, cond}
use mathlib.Core.List.{List, [], ◌∷◌}
use mathlib.Core.Logic.{inl, inr}
use mathlib.Core.Option.{Option, none, some}
use Prim.Native.Nat.{ℕ, zero, suc, ◌-◌, ◌≤◌, ◌<◌}
use native.Mathlib.Omega.{arith}
use borrow.Author.Tests.{leb-true, eqb-true}
use lib.Dec.{leb, eqb}
use lib.ListN.{length, get_or}
use Rattle.semantics.specs.Bytes.{every}
use Rattle.semantics.specs.Editions.{Edition}
use Rattle.semantics.specs.Refusals.{accepted}
use Rattle.semantics.specs.Plant.{Plant, judge_plant, switches_read, selectors}
use Rattle.semantics.specs.Run.{Action, test, wait, assign, switch, stop, is_test, possible, to, finished, halted}
use Rattle.semantics.specs.TableFile.{NodeAction, Entry, HALTED, NONE, action_kind, action_of_kind, actions_in, locations_in}
use Rattle.semantics.specs.Tables.{actions_fit, Table, rising_from, operand_fits, action_nodes, action_at, is_going_on, targets_fit, entry_fits, entry_nodes, location_fits, locations_fit_in, judge_table, operands_fit, node_exists, actions_numbered}
use Rattle.semantics.specs.Proper.{GoesOn}
use Rattle.semantics.specs.TableRuns.{Coded, coded_location, coded_finished, coded_halted}
use Rattle.semantics.proofs.TablesProper.{goes-there}
use Rattle.semantics.proofs.Facts.{All, all_nil, all_cons, all_map, every-all, true-not-false, none-not-some, and_left, and_right}
use Rattle.semantics.proofs.TablePassed.{table-passed}
use Rattle.plant.specs.PlantRead.{accepted_plant}
use Rattle.codec.proofs.Reading.{either}
use Rattle.table_read.specs.declared.actions.Actions.{Actions}
use Rattle.table_read.specs.declared.locations.Locations.{Locations}
use Rattle.table_read.specs.declared.call.TableIndex.{TableIndex}
use Rattle.table_read.specs.TableParts.{parts_in, sections_or_none, sections_of}
use Rattle.table_read.specs.ActionIndex.{action_index, by_node}
use Rattle.table_read.specs.LocationIndex.{location_index}
use Rattle.table_read.specs.Promised.{LocationPromised, Leads}
use Rattle.table_read.specs.TableIndex.{index_of, table_index}
use Rattle.table_read.proofs.PartsStand.{header-room, AllStand, sections-stand}
use Rattle.table_read.proofs.ByNode.{listed-length}
use Rattle.table_read.proofs.ActionsFound.{Here, no_action, one_action, here, nowhere-above}
use Rattle.table_read.proofs.ActionsFit.{by-node-every}
use Rattle.table_read.proofs.LocationsFound.{location-at, count-bounds, places-full}
use Rattle.table_read.proofs.OperandTurns.{operand_of}

-- ---- the sections of an accepted table, and what they passed
pub record Opened (ed : Edition) (t : List ℕ) (tb : Table) : Type 0 where
  pub stand : AllStand t (parts_in (sections_of t)) (sections_of t)
  pub plant : judge_plant ed (sections_of t).variables (sections_of t).equations ≡ accepted tb.plant
  pub switches : switches_read ed tb.plant ≡ true
  pub actions : actions_in ed (sections_of t).actions ≡ some tb.actions
  pub numbered : actions_numbered ed tb.actions ≡ true
  pub operands : operands_fit ed tb.plant tb.actions ≡ true
  pub locations : locations_in ed (sections_of t).locations ≡ some tb.locations
  pub locations_fit : locations_fit_in tb.actions tb.locations ≡ true

pub opened : (ed : Edition) (t : List ℕ) {tb : Table} → judge_table ed t ≡ accepted tb → Opened ed t tb
unfolding actions_fit sections_of sections_or_none
opened ed t {tb} e =
    let k = table-passed ed t e in
    let s : k.parts ≡ sections_of t = sym (ap sections_or_none k.is_parts) in
    let f = k.acts_fit in
    record {
      stand = subst (λ s. AllStand t (parts_in s) s) s (sections-stand t (header-room ed t k.header) k.is_parts);
      plant = subst (λ s. judge_plant ed s.variables s.equations ≡ accepted tb.plant) s k.plant;
      switches = k.switches;
      actions = ap (λ s. actions_in ed s.actions) (sym s) ∙ k.acts;
      numbered = and_left (actions_numbered ed tb.actions) (operands_fit ed tb.plant tb.actions) f;
      operands = and_right (actions_numbered ed tb.actions) (operands_fit ed tb.plant tb.actions) f;
      locations = ap (λ s. locations_in ed s.locations) (sym s) ∙ k.locs;
      locations_fit = k.locs_fit;
    }

-- the index of an accepted table, field by field
module _ (ed : Edition) (t : List ℕ) {ix : TableIndex} (tb : Table) (h : ix ≡ table_index ed t tb) where
  pub parts-read : ix.parts ≡ parts_in (sections_of t)
  unfolding table_index index_of
  parts-read = ap (λ (x : TableIndex). x.parts) h

  pub plant-read : ix.plant ≡ accepted_plant tb.plant
  unfolding table_index index_of
  plant-read = ap (λ (x : TableIndex). x.plant) h

  pub actions_read : ix.actions ≡ action_index ed (sections_of t).actions tb.actions
  unfolding table_index index_of
  actions_read = ap (λ (x : TableIndex). x.actions) h

  pub locations_read : ix.locations ≡ location_index ed (sections_of t).locations tb.locations
  unfolding table_index index_of
  locations_read = ap (λ (x : TableIndex). x.locations) h

-- ---- a node that has an action; x is the index of the action section s
pub record ActionPromised (ed : Edition) (s : List ℕ) (x : Actions) (p : Plant) (n : ℕ) (a : Action) : Type 0 where
  pub below : n < ed.nodes
  pub ordered : get_or x.starts n 0 ≤ get_or x.ends n 0
  pub inside : get_or x.ends n 0 ≤ length s
  pub is : action_of_kind (action_kind (get_or x.kinds n 0)) (operand_of s x n) ≡ some a
  pub fits : operand_fits ed (length p.variables) (selectors p) a ≡ true

nodes-below : (ed : Edition) (l : List NodeAction) (n : ℕ) {a : Action} → actions_numbered ed l ≡ true → action_at l n ≡ some a → n < ed.nodes
unfolding actions_numbered
nodes-below ed l n h e = either n ed.nodes (λ i. i) (λ i. none-not-some (sym (nowhere-above ed l n (and_right (rising_from 0 (action_nodes l)) (every (node_exists ed) l) h) i) ∙ e))

pub action-promised : (ed : Edition) (t : List ℕ) {tb : Table} → Opened ed t tb → (n : ℕ) {a : Action} → action_at tb.actions n ≡ some a →
    ActionPromised ed (sections_of t).actions (action_index ed (sections_of t).actions tb.actions) tb.plant n a
unfolding operands_fit
action-promised ed t {tb} o n {a} e = go (here ed s o.actions n (omega (arith, below, ed.entries_fit)))
  where
    s : List ℕ
    s = (sections_of t).actions

    below : n < ed.nodes
    below = nodes-below ed tb.actions n o.numbered e

    go : Here s (action_index ed s tb.actions) (action_at tb.actions n) n → ActionPromised ed s (action_index ed s tb.actions) tb.plant n a
    go (no_action i j st en) = none-not-some (sym i ∙ e)
    go (one_action i j b c k) =
        record {
          below = below;
          ordered = b;
          inside = c;
          is = k ∙ sym i ∙ e;
          fits = by-node-every (operand_fits ed (length tb.plant.variables) (selectors tb.plant))
              tb.actions n o.operands e;
        }

pub lengths-of : (ed : Edition) (s : List ℕ) (l : List NodeAction) →
    (length (action_index ed s l).kinds ≡ 256) × (length (action_index ed s l).starts ≡ 256) × (length (action_index ed s l).ends ≡ 256)
unfolding action_index by_node
lengths-of ed s l = (listed-length 256 _, listed-length 256 _, listed-length 256 _)

-- ---- a location
get_d-all : {A : Type 0} {P : A → Type 0} (l : List A) (k : ℕ) (d : A) → k < length l → All P l → P (get_or l k d)
get_d-all [] k d h a = absurd (omega arith)
get_d-all (x ∷ l) zero d h (all_cons i a) = i
get_d-all (x ∷ l) (suc k) d h (all_cons i a) = get_d-all l k d (omega arith) a

pub location-promised : (ed : Edition) (t : List ℕ) {tb : Table} → Opened ed t tb → (k : ℕ) → k < length tb.locations →
    LocationPromised ed (sections_of t).locations (get_or (location_index ed (sections_of t).locations tb.locations).places k 0) (length tb.locations) tb.actions (get_or tb.locations k [])
unfolding locations_fit_in
location-promised ed t {tb} o k h =
    let a = location-at ed (sections_of t).locations o.locations k h in
    record {
      rest = a.rest;
      reads = a.reads;
      fits = get_d-all tb.locations k [] h (every-all (location_fits (length tb.locations) tb.actions) tb.locations o.locations_fit);
    }

-- how many there are, and how long the array is
pub record LocationsPromised (x : Locations) (tb : Table) : Type 0 where
  pub low : 1 ≤ length tb.locations
  pub high : length tb.locations ≤ 1024
  pub full : length x.places ≡ 1024

pub locations-promised : (ed : Edition) (t : List ℕ) {tb : Table} → Opened ed t tb → LocationsPromised (location_index ed (sections_of t).locations tb.locations) tb
locations-promised ed t o =
    let b = count-bounds ed _ o.locations in
    record { low = b.0; high = b.1; full = places-full ed _ o.locations }

-- ---- the entries of a location that fits
-- each with an action
pub record EntryPromised (n : ℕ) (acts : List NodeAction) (e : Entry) : Type 0 where
  pub action : Action
  pub is : action_at acts e.node ≡ some action
  pub fits : targets_fit n action e.target e.other ≡ true

entry-promised : (n : ℕ) (acts : List NodeAction) (e : Entry) → entry_fits n acts e ≡ true → EntryPromised n acts e
unfolding entry_fits
entry-promised n acts e h = go (action_at acts e.node) refl h
  where
    go : (o : Option Action) → action_at acts e.node ≡ o → elim o [ none ↦ false | some a ↦ targets_fit n a e.target e.other ] ≡ true → EntryPromised n acts e
    go none i k = true-not-false (sym k)
    go (some a) i k = record { action = a; is = i; fits = k }

pub entries-promised : (n : ℕ) (acts : List NodeAction) (es : List Entry) → location_fits n acts es ≡ true → All (EntryPromised n acts) es
unfolding location_fits
entries-promised n acts es h = all_map (λ e k. entry-promised n acts e k) (every-all (entry_fits n acts) es (and_right (rising_from 0 (entry_nodes es)) (every (entry_fits n acts) es) h))

pub nodes-rise : (n : ℕ) (acts : List NodeAction) (es : List Entry) → location_fits n acts es ≡ true → rising_from 0 (entry_nodes es) ≡ true
unfolding location_fits
nodes-rise n acts es h = and_left (rising_from 0 (entry_nodes es)) (every (entry_fits n acts) es) h

-- no more entries than nodes
rising-few : (m low : ℕ) (l : List ℕ) → rising_from low l ≡ true → All (λ n. n < m) l → length l ≤ m - low
unfolding rising_from
rising-few m low [] h a = omega arith
rising-few m low (n ∷ l) h (all_cons b a) = go (leb low n) refl h (λ i. rising-few m (suc n) l i a)
  where
    go : (t : Bool) → leb low n ≡ t → elim t [ true ↦ rising_from (suc n) l | false ↦ false ] ≡ true → (rising_from (suc n) l ≡ true → length l ≤ m - suc n) → suc (length l) ≤ m - low
    go true e h f =
        let i = leb-true low n e in
        let k = f h in
        omega arith
    go false e h f = true-not-false (sym h)

pub entries-few : (ed : Edition) (t : List ℕ) {tb : Table} → Opened ed t tb → (k : ℕ) → k < length tb.locations → length (get_or tb.locations k []) ≤ ed.nodes
unfolding entry_nodes
entries-few ed t {tb} o k h =
    let es = get_or tb.locations k [] in
    let fits = (location-promised ed t o k h).fits in
    let few = rising-few ed.nodes 0 (entry_nodes es) (nodes-rise _ _ es fits) (below es (entries-promised _ tb.actions es fits)) in
    omega (arith, same es)
  where
    below : (es : List Entry) → All (EntryPromised (length tb.locations) tb.actions) es → All (λ n. n < ed.nodes) (entry_nodes es)
    below [] all_nil = all_nil
    below (e ∷ es) (all_cons p a) = all_cons (nodes-below ed tb.actions e.node o.numbered p.is) (below es a)

    same : (es : List Entry) → length (entry_nodes es) ≡ length es
    same [] = refl
    same (e ∷ es) = ap suc (same es)

-- ---- where a move leads
leads-on : (n t : ℕ) → GoesOn n t → Leads n t
leads-on n t (inl h) = (to t, coded_location h)
leads-on n t (inr e) = (finished, subst (Coded n finished) (sym e) coded_finished)

leads-halted : (n t : ℕ) → t ≡ HALTED → Leads n t
unfolding HALTED
leads-halted n t e = (halted, subst (Coded n halted) (sym e) coded_halted)

pub leads : (n : ℕ) (a : Action) (t u : ℕ) (b : Bool) → targets_fit n a t u ≡ true → possible a b ≡ true → Leads n (cond b t u)
unfolding targets_fit possible is_test
leads n (test c) t u true h p = leads-on n t (goes-there n t (and_left (is_going_on n t) (is_going_on n u) h))
leads n (test c) t u false h p = leads-on n u (goes-there n u (and_right (is_going_on n t) (is_going_on n u) h))
leads n (wait c) t u true h p = leads-on n t (goes-there n t (and_left (is_going_on n t) (eqb u NONE) h))
leads n (wait c) t u false h p = true-not-false (sym p)
leads n (assign v e) t u true h p = leads-on n t (goes-there n t (and_left (is_going_on n t) (eqb u NONE) h))
leads n (assign v e) t u false h p = true-not-false (sym p)
leads n (switch s m) t u true h p = leads-on n t (goes-there n t (and_left (is_going_on n t) (eqb u NONE) h))
leads n (switch s m) t u false h p = true-not-false (sym p)
leads n stop t u true h p = leads-halted n t (eqb-true t HALTED (and_left (eqb t HALTED) (eqb u NONE) h))
leads n stop t u false h p = true-not-false (sym p)

-- no second target but a test's
pub no_second : (n : ℕ) (a : Action) (t u : ℕ) → targets_fit n a t u ≡ true → is_test a ≡ false → u ≡ NONE
unfolding targets_fit is_test
no_second n (test c) t u h i = true-not-false i
no_second n (wait c) t u h i = eqb-true u NONE (and_right (is_going_on n t) (eqb u NONE) h)
no_second n (assign v e) t u h i = eqb-true u NONE (and_right (is_going_on n t) (eqb u NONE) h)
no_second n (switch s m) t u h i = eqb-true u NONE (and_right (is_going_on n t) (eqb u NONE) h)
no_second n stop t u h i = eqb-true u NONE (and_right (eqb t HALTED) (eqb u NONE) h)
