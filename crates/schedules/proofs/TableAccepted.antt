-- The table of an accepted schedule with no more locations than a table may hold is accepted, and reads as the table that is meant.
use mathlib.Core.Path.{◌≡◌, refl, sym, ap, ◌∙◌}
use mathlib.Core.Bool.{Bool, true, false, cond}
use mathlib.Core.List.Memᴰ.{head as first}
use mathlib.Core.List.Memᴰ.{tail as later}
use mathlib.Core.List.{List, [], ◌∷◌, map, Memᴰ as Mem}
use mathlib.Core.Logic.{inl, inr}
use mathlib.Core.Option.{some}
use Prim.Native.Nat.{ℕ, ◌≤◌}
use native.Mathlib.Nat.{le_trans}
use native.Mathlib.Omega.{arith}
use borrow.Author.Tests.{lt-ltb}
use lib.Dec.{ltb, eqb}
use lib.ListN.{length, length-map}
use Rattle.semantics.specs.Bytes.{every}
use Rattle.semantics.specs.Editions.{Edition}
use Rattle.semantics.specs.Refusals.{accepted}
use Rattle.semantics.specs.Plant.{selectors, switches_read}
use Rattle.semantics.specs.Run.{Action, test, wait, assign, switch, stop, is_test, Next, to}
use Rattle.semantics.specs.TableFile.{NodeAction, FINISHED, HALTED, NONE, location_limit}
use Rattle.semantics.specs.Tables.{judge_table, rising_from, operand_fits, operands_fit, node_exists, actions_numbered, actions_fit, action_at, action_or_stop, is_going_on, targets_fit, entry_fits, location_fits, locations_fit_in}
use Rattle.semantics.proofs.Facts.{none-not-some, and_left, and_right, and_both, All, all_nil, all_cons, every-all, all-every, at-below}
use Rattle.semantics.proofs.TableBack.{Short, table-back}
use Rattle.schedules.specs.Nodes.{actions_of, node_named, node_reads}
use Rattle.schedules.specs.Residuals.{Residual, acting, same?}
use Rattle.schedules.specs.Numbering.{locations}
use Rattle.schedules.specs.Files.{Schedule}
use Rattle.schedules.specs.Compiling.{tests_of, schedule_locations, target_code, entry_of, entries_of, table_of}
use Rattle.schedules.proofs.FirstNumber.{Passed}
use Rattle.schedules.proofs.TreeShapes.{Spans, Kinds, is_a_stop}
use Rattle.schedules.proofs.ActingDetermines.{Of, NonEmpty, non_empty, some-acts}
use Rattle.schedules.proofs.ResidualsKept.{of-fresh, kept-to, acting-rise-from-0}
use Rattle.schedules.proofs.MovesFit.{FitNext, fit_to, fit_finished, fit_halted, move-fits}
use Rattle.schedules.proofs.Numbered.{number_found, number-exists}
use Rattle.schedules.proofs.Reached.{Moves, reached, closed-under, locations-all}
use Rattle.schedules.proofs.ReadShapes.{root-shapes}
use Rattle.schedules.proofs.ActionsListed.{actions-rise, actions-few, actions-all, operand-fits}
use Rattle.schedules.proofs.NodesRead.{Counted, nodes-counted}
use Rattle.schedules.proofs.TableAgrees.{table_for, nodes-of}

-- ---- targets
module _ (l : List Residual) where
  -- a residual of the list has its number; finishing has FFFE
  goes_on : {y : Next Residual} → FitNext false y → ((s : Residual) → y ≡ to s → Mem s l) → is_going_on (length l) (target_code l y) ≡ true
  unfolding is_going_on target_code FINISHED
  goes_on (fit_to {x = s}) h =
      let k = number-exists same? (h s refl) in
      rw (k.1, lt-ltb k.0 (length l) (at-below l k.0 (number_found same? s l k.0 k.1))) refl
  goes_on fit_finished h = finishes (ltb 0xfffe (length l))
    where
      finishes : (b : Bool) → cond b true true ≡ true
      finishes true = refl
      finishes false = refl

  stops : {y : Next Residual} → FitNext true y → eqb (target_code l y) HALTED ≡ true
  unfolding target_code HALTED
  stops fit_halted = refl

  -- the targets of a node's entry are fit for its action
  targets-fit : (a : Action) {y z : Next Residual} → FitNext (is_a_stop a) y → FitNext (is_a_stop a) z →
      ((s : Residual) → y ≡ to s → Mem s l) → (is_test a ≡ true → (s : Residual) → z ≡ to s → Mem s l) →
      targets_fit (length l) a (target_code l y) (elim (is_test a) [ true ↦ target_code l z | false ↦ NONE ]) ≡ true
  unfolding targets_fit is_test is_a_stop NONE
  targets-fit (test t) f g h k = and_both (goes_on f h) (goes_on g (k refl))
  targets-fit (wait t) f g h k = and_both (goes_on f h) refl
  targets-fit (assign v t) f g h k = and_both (goes_on f h) refl
  targets-fit (switch s m) f g h k = and_both (goes_on f h) refl
  targets-fit stop f g h k = and_both (stops f) refl

-- the action of a node that has one
found-action : (acts : List NodeAction) (n : ℕ) {a : Action} → action_at acts n ≡ some a → action_or_stop acts n ≡ a
unfolding action_or_stop
found-action acts n e = rw (e, action_or_stop) refl

some-action : (acts : List NodeAction) (n : ℕ) {a : Action} → action_at acts n ≡ some a → 1 ≤ length acts
unfolding action_at
some-action [] n e = none-not-some e
some-action (x ∷ acts) n e = omega arith

pub all_of : {A : Type 0} {P : A → Type 0} (l : List A) → ((x : A) → Mem x l → P x) → All P l
all_of [] f = all_nil
all_of (x ∷ l) f = all_cons (f x (first refl)) (all_of l (λ y m. f y (later m)))

pub all-mapped : {A B : Type 0} (P : B → Type 0) (f : A → B) {l : List A} → All (λ x. P (f x)) l → All P (map f l)
all-mapped P f all_nil = all_nil
all-mapped P f (all_cons h k) = all_cons h (all-mapped P f k)

module _ (ed : Edition) (file : List ℕ) (s : Schedule) (g : Passed ed file s) (fits : length (schedule_locations s) ≤ location_limit) where
  abbrev acts : List NodeAction
  acts = actions_of s.nodes

  abbrev l : List Residual
  l = schedule_locations s

  abbrev tests : ℕ → Bool
  tests = tests_of s.nodes

  pub counted : Counted ed s.nodes
  counted = nodes-counted ed s.sections.schedule g.nodes

  -- ---- 18
  named : All (λ x. node_named (length s.plant.variables) (selectors s.plant) x ≡ true) s.nodes
  named = every-all (node_named (length s.plant.variables) (selectors s.plant)) s.nodes g.named

  reading : All (λ x. node_reads ed (length s.plant.variables) x ≡ true) s.nodes
  reading = every-all (node_reads ed (length s.plant.variables)) s.nodes (and_left _ _ g.reads)

  both_of : {A : Type 0} {P Q : A → Type 0} {k : List A} → All P k → All Q k → All (λ x. P x × Q x) k
  both_of all_nil all_nil = all_nil
  both_of (all_cons p ps) (all_cons q qs) = all_cons (p, q) (both_of ps qs)

  pub acts_fit : actions_fit ed s.plant acts ≡ true
  unfolding actions_fit actions_numbered node_exists operands_fit actions_of
  acts_fit =
      let fits = operand_fits ed (length s.plant.variables) (selectors s.plant) in
      let few = counted.few-nodes in
      and_both (and_both (actions-rise s.nodes) (all-every (node_exists ed) (actions-all (λ a. node_exists ed a ≡ true) _ ed.nodes (λ n x y h e q. lt-ltb n ed.nodes h) 0 named (omega arith))))
      (all-every (λ (a : NodeAction). fits a.action) (actions-all (λ a. fits a.action ≡ true) _ ed.nodes
      (λ n x y h e q. operand-fits ed (length s.plant.variables) (selectors s.plant) x y e q.0 q.1) 0 (both_of named reading) (omega arith)))

  pub acts-short : All Short acts
  unfolding actions_of
  acts-short = actions-all Short _ ed.nodes (λ n x y h e q. q y e) 0 counted.short-nodes (let c = counted.few-nodes in omega arith)

  -- ---- 19
  pub of-root : (r : Residual) → Mem r l → Of s.root r
  unfolding schedule_locations
  of-root = locations-all tests s.root (Of s.root) (of-fresh s.root) (λ x y h m. kept-to h m.node m.outcome m.leads)

  pub spans : Spans s.root 0 (length s.nodes)
  spans = (root-shapes s.nodes g.tree).0

  kinds : Kinds acts s.root
  kinds = (root-shapes s.nodes g.tree).1

  pub leads-in : {r u : Residual} → Mem r l → Moves tests r u → Mem u l
  unfolding schedule_locations
  leads-in = closed-under tests s.root fits

  entry-fits : (r : Residual) → Mem r l → (n : ℕ) → Mem n (acting r) → entry_fits (length l) acts (entry_of tests l r n) ≡ true
  unfolding entry_fits entry_of tests_of
  entry-fits r m n i =
      let p = move-fits (of-root r m) kinds n true i in
      let q = move-fits (of-root r m) kinds n false i in
      let a = action_or_stop acts n in
      rw (p.known.1 ∙ ap some (sym (found-action acts n p.known.1)), entry_fits) (targets-fit l a p.fits q.fits
      (λ u e. leads-in m (record { node = n; outcome = true; is_acting = i; can = inl refl; leads = e }))
      (λ h u e. leads-in m (record { node = n; outcome = false; is_acting = i; can = inr h; leads = e })))

  location-fits : (r : Residual) → Mem r l → location_fits (length l) acts (entries_of tests l r) ≡ true
  unfolding location_fits entries_of
  location-fits r m = and_both (ap (rising_from 0) (nodes-of tests l r (acting r)) ∙ acting-rise-from-0 (of-root r m) spans)
      (all-every (entry_fits (length l) acts) (all-mapped _ (entry_of tests l r) (all_of (acting r) (entry-fits r m))))

  entries-some : (r : Residual) → Mem r l → 1 ≤ length (entries_of tests l r)
  unfolding entries_of
  entries-some r m = go (some-acts (of-root r m))
    where
      go : {k : List ℕ} → NonEmpty k → 1 ≤ length (map (entry_of tests l r) k)
      go non_empty = omega arith

  pub as_many : length (map (entries_of tests l) l) ≡ length l
  as_many = length-map l (entries_of tests l)

  pub locs_fit : locations_fit_in acts (map (entries_of tests l) l) ≡ true
  unfolding locations_fit_in
  locs_fit = rw as_many (all-every (location_fits (length l) acts) (all-mapped _ (entries_of tests l) (all_of l location-fits)))

  -- location 0 is there, and its acting node has an action
  locations-some : 1 ≤ length l
  unfolding schedule_locations
  locations-some = at-below (locations tests s.root) 0 (reached tests s.root fits).first

  acts-some : 1 ≤ length acts
  acts-some = go (some-acts (of-fresh s.root)) (λ n m. (move-fits (of-fresh s.root) kinds n true m).known)
    where
      go : {k : List ℕ} → NonEmpty k → ((n : ℕ) → Mem n k → (a : Action) × (action_at acts n ≡ some a)) → 1 ≤ length acts
      go (non_empty {n = n}) f = some-action acts n (f n (first refl)).1

  pub table-accepted : judge_table ed (table_of ed s) ≡ accepted (table_for s)
  unfolding table_of table_for
  table-accepted =
      table-back ed s.sections.variables s.sections.equations acts (map (entries_of tests l) l)
      g.plant (and_right (every (node_reads ed (length s.plant.variables)) s.nodes) (switches_read ed s.plant) g.reads)
      acts-some (le_trans (actions-few s.nodes) counted.few-nodes) acts-short acts_fit
      (let e = as_many in let k = locations-some in omega arith) (let e = as_many in omega arith)
      (all-mapped _ (entries_of tests l) (all_of l entries-some)) locs_fit
