-- A schedule whose nodes name what exists is sound: an acting node has its move, and what is assigned is declared.
use mathlib.Core.Path.{◌≡◌, refl, sym, ap, ◌∙◌}
use mathlib.Core.Bool.{Bool, true, false}
use mathlib.Core.List.{List, ◌∷◌, Memᴰ as Mem}
use mathlib.Core.Logic.{◌↔◌}
use mathlib.Core.Option.{Option, none, some}
use Prim.Native.Nat.{ℕ, suc, ◌<◌}
use native.Mathlib.Omega.{arith}
use borrow.Author.Tests.{ltb-true}
use lib.Dec.{eqb}
use lib.IntN.{ℤ}
use lib.ListN.{length, get_elem?}
use Rattle.semantics.specs.Editions.{Edition}
use Rattle.semantics.specs.Sections.{Selector}
use Rattle.semantics.specs.Plant.{selectors}
use Rattle.semantics.specs.Run.{Action, test, wait, assign, switch, stop, Next, halted, at}
use Rattle.semantics.specs.Rules.{Comes, at_start, by_move, Standing, stands_at, Sound}
use Rattle.semantics.specs.TableFile.{NodeAction}
use Rattle.semantics.specs.Tables.{action_at, action_or_stop}
use Rattle.semantics.proofs.Facts.{true-not-false, All, all_nil, all_cons, every-all}
use Rattle.semantics.proofs.Halting.{Fitting, fits_on, fits_end, fits_halt, fitting-halts}
use Rattle.semantics.proofs.OneRate.{one_rate}
use Rattle.schedules.proofs.MovesFit.{FitNext, fit_to, fit_finished, fit_halted, never-idle, move-fits}
use Rattle.schedules.proofs.NodeActions.{node-action, Own, own-action, own-stop}
use Rattle.schedules.proofs.TreeShapes.{is_a_stop}
use Rattle.schedules.proofs.ReadShapes.{root-shapes}
use Rattle.schedules.proofs.ResidualsKept.{of-fresh, kept-to}
use Rattle.schedules.proofs.FirstNumber.{Passed}
use Rattle.schedules.specs.Trees.{tree_of}
use Rattle.schedules.specs.Residuals.{Residual, fresh, acting, move}
use Rattle.schedules.specs.Reached.{Of}
use Rattle.schedules.specs.Nodes.{Node, sequence, parallel, while_do, if_else, continue_until, reset, reinitial, switch_to, stop_all, node_named, action_of, node_action, listed, actions_from, actions_of}
use Rattle.schedules.specs.Files.{Schedule, rule_control}

module _ (a : NodeAction) (l : List NodeAction) (n : ℕ) where
  action-here : eqb a.node n ≡ true → action_or_stop (a ∷ l) n ≡ a.action
  unfolding action_or_stop action_at
  action-here h = rw (h, action_at, action_or_stop) refl

  action-later : eqb a.node n ≡ false → action_or_stop (a ∷ l) n ≡ action_or_stop l n
  unfolding action_or_stop action_at
  action-later h = rw (h, action_at, action_or_stop) refl

module _ (variables : ℕ) (cs : List Selector) where
  named-action : (x : Node) {v : ℕ} {t : List ℕ} → node_named variables cs x ≡ true → (a : Action) → action_of x ≡ some a → a ≡ assign v t → v < variables
  unfolding node_named action_of
  named-action (sequence k) h a e f = let z : ◌≡◌ {A = ℕ} 0 1 = cc in absurd (omega arith)
  named-action (parallel k) h a e f = let z : ◌≡◌ {A = ℕ} 0 1 = cc in absurd (omega arith)
  named-action (while_do s) h a e f = let z : ◌≡◌ {A = ℕ} 0 1 = cc in absurd (omega arith)
  named-action (if_else s) h a e f = let z : ◌≡◌ {A = ℕ} 0 1 = cc in absurd (omega arith)
  named-action (continue_until s) h a e f = let z : ◌≡◌ {A = ℕ} 0 1 = cc in absurd (omega arith)
  named-action (reset w s) {v} h a e f = let k : w ≡ v = cc in let i = ltb-true w variables h in omega arith
  named-action (reinitial w s) {v} h a e f = let k : w ≡ v = cc in let i = ltb-true w variables h in omega arith
  named-action (switch_to s m) h a e f = let z : ◌≡◌ {A = ℕ} 0 1 = cc in absurd (omega arith)
  named-action stop_all h a e f = let z : ◌≡◌ {A = ℕ} 0 1 = cc in absurd (omega arith)

  -- 11 has named the variable of each assignment
  assigned-below : (k n v : ℕ) (t : List ℕ) {ns : List Node} → All (λ x. node_named variables cs x ≡ true) ns →
      action_or_stop (actions_from k ns) n ≡ assign v t → v < variables
  unfolding action_or_stop action_at actions_from listed
  assigned-below k n v t all_nil h = let z : ◌≡◌ {A = ℕ} 0 1 = cc in absurd (omega arith)
  assigned-below k n v t (all_cons {x = x} {l = xs} h all) e = go (action_of x) refl e (assigned-below (suc k) n v t all)
    where
      Rest : Type 0
      Rest = action_or_stop (actions_from (suc k) xs) n ≡ assign v t → v < variables

      here-or-later : (a : Action) → action_of x ≡ some a → (b : Bool) → eqb k n ≡ b →
          action_or_stop (record { node = k; action = a } ∷ actions_from (suc k) xs) n ≡ assign v t → Rest → v < variables
      here-or-later a i true b e ih = named-action x h a i (sym (action-here _ (actions_from (suc k) xs) n b) ∙ e)
      here-or-later a i false b e ih = ih (sym (action-later _ (actions_from (suc k) xs) n b) ∙ e)

      go : (o : Option Action) → action_of x ≡ o → action_or_stop (listed k o (actions_from (suc k) xs)) n ≡ assign v t → Rest → v < variables
      go none i e ih = ih e
      go (some a) i e ih = here-or-later a i (eqb k n) refl e ih

-- ---- wherever a run comes to, a move fits its node's action
stop_is : {a : Action} → a ≡ stop → is_a_stop a ≡ true
unfolding is_a_stop
stop_is e = rw e refl

is_stop : (a : Action) → is_a_stop a ≡ true → a ≡ stop
unfolding is_a_stop
is_stop (test t) h = true-not-false (sym h)
is_stop (wait t) h = true-not-false (sym h)
is_stop (assign v e) h = true-not-false (sym h)
is_stop (switch s m) h = true-not-false (sym h)
is_stop stop h = refl

fitting : {S : Type 0} (a : Action) {c : Bool} {x : Next S} → is_a_stop a ≡ c → FitNext c x → Fitting a x
fitting a e fit_to = fits_on (λ h. true-not-false (sym (stop_is h) ∙ e)) refl
fitting a e fit_finished = fits_end (λ h. true-not-false (sym (stop_is h) ∙ e)) refl
fitting a e fit_halted = fits_halt (is_stop a e) refl

pub comes_of : (s : Schedule) {r : Residual} → Comes (rule_control s) r → Of s.root r
unfolding rule_control
comes_of s at_start = of-fresh s.root
comes_of s (by_move {n = n} {b = b} h m q e) = kept-to (comes_of s h) n b e

pub schedule-fits : (s : Schedule) → tree_of s.nodes ≡ some s.root → (r : Residual) → Of s.root r → (n : ℕ) (b : Bool) → Mem n (acting r) → Fitting (node_action s.nodes n) (move r n b)
schedule-fits s h r o n b m = fitting (node_action s.nodes n) (ap is_a_stop (node-action s.nodes n)) (move-fits o (root-shapes s.nodes h).1 n b m).fits

pub schedule-sound : (ed : Edition) (file : List ℕ) (s : Schedule) → Passed ed file s → Sound s.plant (rule_control s)
unfolding rule_control actions_of
schedule-sound ed file s p = record {
  moves = λ r n b c m e. never-idle r n b m;
  halts = λ r n b c m e. fitting-halts (schedule-fits s p.tree r (comes_of s c) n b m);
  declares = λ r n v t m e.
      assigned-below (length s.plant.variables) (selectors s.plant) 0 n v t (every-all (node_named (length s.plant.variables) (selectors s.plant)) s.nodes p.named) (sym (node-action s.nodes n) ∙ e);
  one_rate = one_rate ed s.sections.variables s.sections.equations p.plant;
}

-- "A run starts at the fresh root"
pub root_stands : (s : Schedule) (vs : List ℤ) (ms : List ℕ) → Standing (rule_control s) (at (fresh s.root) vs ms)
unfolding rule_control
root_stands s vs ms = stands_at at_start

-- ---- just a STOP halts
-- an acting node's action is its node's own
pub acting-own : (s : Schedule) → tree_of s.nodes ≡ some s.root → (r : Residual) → Of s.root r → (n : ℕ) → Mem n (acting r) → Own s.nodes n
acting-own s h r o n m = own-action s.nodes n (move-fits o (root-shapes s.nodes h).1 n true m).known.1

pub rule-halts : (s : Schedule) → tree_of s.nodes ≡ some s.root → (r : Residual) → Of s.root r → (n : ℕ) (b : Bool) → Mem n (acting r) → (move r n b ≡ halted) ↔ (get_elem? s.nodes n ≡ some stop_all)
rule-halts s h r o n b m =
    let f = fitting-halts (schedule-fits s h r o n b m) in
    let g = own-stop (acting-own s h r o n m) in
    (λ e. g.0 (f.0 e), λ e. f.1 (g.1 e))
