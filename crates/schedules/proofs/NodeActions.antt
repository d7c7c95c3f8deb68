-- A node's action, taken from the nodes, is the one that the table's list has for it.
use mathlib.Core.Path.{◌≡◌, refl, sym, ap, ◌∙◌}
use mathlib.Core.List.{List, [], ◌∷◌}
use mathlib.Core.Bool.{true}
use mathlib.Core.Logic.{◌↔◌, ◌⊎◌, inl, inr}
use mathlib.Core.Option.{Option, none, some, bind}
use Prim.Native.Nat.{ℕ, zero, suc, ◌+◌, ◌<◌}
use native.Mathlib.Omega.{arith}
use borrow.Author.Tests.{eq-eqb, ne_eqb}
use lib.ListN.{get_elem?}
use Rattle.semantics.specs.Run.{Action, stop, is_test}
use Rattle.semantics.specs.TableFile.{NodeAction}
use Rattle.semantics.specs.Tables.{action_at, action_or_stop}
use Rattle.semantics.proofs.Facts.{true-not-false, none-not-some}
use Rattle.schedules.specs.Nodes.{Node, sequence, parallel, while_do, if_else, continue_until, reset, reinitial, switch_to, stop_all, action_of, node_action, listed, actions_from, actions_of}
use Rattle.schedules.specs.Compiling.{tests_of}
use Rattle.schedules.specs.Files.{Schedule, rule_control}

module _ (k n : ℕ) (l : List NodeAction) where
  -- an action of another number is passed over
  passed_over : (o : Option Action) → (k ≡ n → ⊥) → action_at (listed k o l) n ≡ action_at l n
  unfolding action_at listed
  passed_over none f = refl
  passed_over (some a) f = rw (ne_eqb k n f, action_at) refl

  found_here : (o : Option Action) → k ≡ n → action_at l n ≡ none → action_at (listed k o l) n ≡ o
  unfolding action_at listed
  found_here none e h = h
  found_here (some a) e h = rw (eq-eqb k n e, action_at) refl

-- the list starts with its first node
not-before : (k n : ℕ) (ns : List Node) → n < k → action_at (actions_from k ns) n ≡ none
unfolding actions_from action_at
not-before k n [] h = refl
not-before k n (x ∷ xs) h = passed_over k n (actions_from (suc k) xs) (action_of x) (λ e. omega arith) ∙ not-before (suc k) n xs (omega arith)

pub action-at-node : (k m n : ℕ) (ns : List Node) → k + n ≡ m → action_at (actions_from k ns) m ≡ bind (get_elem? ns n) action_of
unfolding actions_from action_at bind
action-at-node k m n [] e = refl
action-at-node k m zero (x ∷ xs) e = found_here k m (actions_from (suc k) xs) (action_of x) (omega arith) (not-before (suc k) m xs (omega arith))
action-at-node k m (suc n) (x ∷ xs) e = passed_over k m (actions_from (suc k) xs) (action_of x) (λ h. omega arith) ∙ action-at-node (suc k) m n xs (omega arith)

pub node-action : (ns : List Node) (n : ℕ) → node_action ns n ≡ action_or_stop (actions_of ns) n
unfolding node_action action_or_stop actions_of
node-action ns n = ap (λ (o : Option Action). elim o [ none ↦ stop | some a ↦ a ]) (sym (action-at-node 0 n n ns (omega arith)))

-- of the rule run, and of which nodes are tests
pub rule-action : (s : Schedule) (n : ℕ) → (rule_control s).action n ≡ action_or_stop (actions_of s.nodes) n
unfolding rule_control
rule-action s n = node-action s.nodes n

pub tests-of : (ns : List Node) (n : ℕ) → tests_of ns n ≡ is_test (node_action ns n)
unfolding tests_of
tests-of ns n = ap is_test (sym (node-action ns n))

-- a node that tests is a WHILE or an IF
pub tests-by-node : (ns : List Node) (n : ℕ) → (tests_of ns n ≡ true) ↔ (((t : List ℕ) × (get_elem? ns n ≡ some (while_do t))) ⊎ ((t : List ℕ) × (get_elem? ns n ≡ some (if_else t))))
unfolding node_action bind action_of is_test
tests-by-node ns n = (λ h. there (get_elem? ns n) refl (sym (tests-of ns n) ∙ h), λ k. tests-of ns n ∙ here k)
  where
    Tests : Type 0
    Tests = ((t : List ℕ) × (get_elem? ns n ≡ some (while_do t))) ⊎ ((t : List ℕ) × (get_elem? ns n ≡ some (if_else t)))

    of_node : (x : Node) → get_elem? ns n ≡ some x → is_test (elim (action_of x) [ none ↦ stop | some a ↦ a ]) ≡ true → Tests
    of_node (sequence k) e h = true-not-false (sym h)
    of_node (parallel k) e h = true-not-false (sym h)
    of_node (while_do t) e h = inl (t, e)
    of_node (if_else t) e h = inr (t, e)
    of_node (continue_until t) e h = true-not-false (sym h)
    of_node (reset v t) e h = true-not-false (sym h)
    of_node (reinitial v t) e h = true-not-false (sym h)
    of_node (switch_to s m) e h = true-not-false (sym h)
    of_node stop_all e h = true-not-false (sym h)

    there : (o : Option Node) → get_elem? ns n ≡ o → is_test (node_action ns n) ≡ true → Tests
    there none e h = true-not-false (sym h ∙ ap (λ o. is_test (elim (bind o action_of) [ none ↦ stop | some a ↦ a ])) e)
    there (some x) e h = of_node x e (sym (ap (λ o. is_test (elim (bind o action_of) [ none ↦ stop | some a ↦ a ])) e) ∙ h)

    here : Tests → is_test (node_action ns n) ≡ true
    here (inl k) = ap (λ o. is_test (elim (bind o action_of) [ none ↦ stop | some a ↦ a ])) k.1
    here (inr k) = ap (λ o. is_test (elim (bind o action_of) [ none ↦ stop | some a ↦ a ])) k.1

-- ---- an action that is there is its node's own
pub record Own (ns : List Node) (n : ℕ) : Type 0 where
  pub node : Node
  pub is_node : get_elem? ns n ≡ some node
  pub is_action : action_of node ≡ some (node_action ns n)

pub own-action : (ns : List Node) (n : ℕ) {a : Action} → action_at (actions_of ns) n ≡ some a → Own ns n
unfolding actions_of node_action bind
own-action ns n {a} h = go (get_elem? ns n) refl (sym (action-at-node 0 n n ns (omega arith)) ∙ h)
  where
    go : (o : Option Node) → get_elem? ns n ≡ o → bind (get_elem? ns n) action_of ≡ some a → Own ns n
    go none e k = none-not-some (sym (ap (λ o. bind o action_of) e) ∙ k)
    go (some x) e k =
        let i : action_of x ≡ some a = sym (ap (λ o. bind o action_of) e) ∙ k in
        let j : node_action ns n ≡ a = ap (λ (o : Option Action). elim o [ none ↦ stop | some a ↦ a ]) k in
        record { node = x; is_node = e; is_action = i ∙ ap some (sym j) }

stop_is : (x : Node) → action_of x ≡ some stop → x ≡ stop_all
unfolding action_of
stop_is (sequence k) e = let z : ◌≡◌ {A = ℕ} 0 1 = cc in absurd (omega arith)
stop_is (parallel k) e = let z : ◌≡◌ {A = ℕ} 0 1 = cc in absurd (omega arith)
stop_is (while_do t) e = let z : ◌≡◌ {A = ℕ} 0 1 = cc in absurd (omega arith)
stop_is (if_else t) e = let z : ◌≡◌ {A = ℕ} 0 1 = cc in absurd (omega arith)
stop_is (continue_until t) e = let z : ◌≡◌ {A = ℕ} 0 1 = cc in absurd (omega arith)
stop_is (reset v t) e = let z : ◌≡◌ {A = ℕ} 0 1 = cc in absurd (omega arith)
stop_is (reinitial v t) e = let z : ◌≡◌ {A = ℕ} 0 1 = cc in absurd (omega arith)
stop_is (switch_to s m) e = let z : ◌≡◌ {A = ℕ} 0 1 = cc in absurd (omega arith)
stop_is stop_all e = refl

-- an acting node's action is STOP where the node is one
pub own-stop : {ns : List Node} {n : ℕ} → Own ns n → (node_action ns n ≡ stop) ↔ (get_elem? ns n ≡ some stop_all)
unfolding node_action action_of bind
own-stop {ns} {n} o = (λ e. o.is_node ∙ ap some (stop_is o.node (o.is_action ∙ ap some e)), λ e. rw (e, node_action) refl)
