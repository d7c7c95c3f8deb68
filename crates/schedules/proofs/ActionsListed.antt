-- The actions of a schedule's nodes: listed in rising order, no more than the nodes, each what its node does.
use mathlib.Core.Path.{◌≡◌, refl, sym}
use mathlib.Core.Bool.{Bool, true, false}
use mathlib.Core.List.{List, [], ◌∷◌}
use mathlib.Core.Option.{Option, none, some}
use Prim.Native.Nat.{ℕ, suc, ◌+◌, ◌≤◌, ◌<◌}
use native.Mathlib.Nat.{le_refl}
use native.Mathlib.Omega.{arith}
use borrow.Author.Tests.{leb-true, le-leb}
use lib.Dec.{leb}
use lib.ListN.{length}
use Rattle.semantics.specs.Editions.{Edition}
use Rattle.semantics.specs.Sections.{Selector}
use Rattle.semantics.specs.Run.{Action}
use Rattle.semantics.specs.TableFile.{NodeAction}
use Rattle.semantics.specs.Tables.{rising_from, operand_fits, action_nodes}
use Rattle.semantics.proofs.Facts.{true-not-false, none-not-some, some_is, and_both, All, all_nil, all_cons}
use Rattle.schedules.specs.Nodes.{Node, sequence, parallel, while_do, if_else, continue_until, reset, reinitial, switch_to, stop_all, node_reads, node_named, action_of, listed, actions_from, actions_of}

-- ---- in rising order
rising-from-lower : (a b : ℕ) (l : List ℕ) → a ≤ b → rising_from b l ≡ true → rising_from a l ≡ true
unfolding rising_from
rising-from-lower a b [] h r = refl
rising-from-lower a b (n ∷ l) h r = go (leb b n) refl r
  where
    go : (t : Bool) → leb b n ≡ t → elim t [ true ↦ rising_from (suc n) l | false ↦ false ] ≡ true → rising_from a (n ∷ l) ≡ true
    go true e r = let k = leb-true b n e in rw (le-leb a n (omega arith), rising_from) r
    go false e r = true-not-false (sym r)

pub actions-rise-from : (n : ℕ) (ns : List Node) → rising_from n (action_nodes (actions_from n ns)) ≡ true
unfolding actions_from listed action_nodes rising_from
actions-rise-from n [] = refl
actions-rise-from n (x ∷ xs) = go (action_of x) (actions-rise-from (suc n) xs)
  where
    go : (o : Option Action) → rising_from (suc n) (action_nodes (actions_from (suc n) xs)) ≡ true → rising_from n (action_nodes (listed n o (actions_from (suc n) xs))) ≡ true
    go none r = rising-from-lower n (suc n) (action_nodes (actions_from (suc n) xs)) (omega arith) r
    go (some y) r = rw (le-leb n n (le_refl n), rising_from) r

pub actions-rise : (ns : List Node) → rising_from 0 (action_nodes (actions_of ns)) ≡ true
unfolding actions_of
actions-rise ns = actions-rise-from 0 ns

-- ---- at most one a node
pub actions-few-from : (n : ℕ) (ns : List Node) → length (actions_from n ns) ≤ length ns
unfolding actions_from listed
actions-few-from n [] = le_refl 0
actions-few-from n (x ∷ xs) = go (action_of x) (actions-few-from (suc n) xs)
  where
    go : (o : Option Action) → length (actions_from (suc n) xs) ≤ length xs → length (listed n o (actions_from (suc n) xs)) ≤ suc (length xs)
    go none h = omega arith
    go (some y) h = omega arith

pub actions-few : (ns : List Node) → length (actions_of ns) ≤ length ns
unfolding actions_of
actions-few ns = actions-few-from 0 ns

-- ---- what holds of each node's action holds of each action listed
pub actions-all : (P : NodeAction → Type 0) (Q : Node → Type 0) (b : ℕ) → ((n : ℕ) (x : Node) (y : Action) → n < b → action_of x ≡ some y → Q x → P (record { node = n; action = y })) →
    (n : ℕ) {ns : List Node} → All Q ns → n + length ns ≤ b → All P (actions_from n ns)
unfolding actions_from listed
actions-all P Q b f n all_nil h = all_nil
actions-all P Q b f n (all_cons {x = x} {l = xs} q r) h = go (action_of x) refl (actions-all P Q b f (suc n) r (omega arith))
  where
    go : (o : Option Action) → action_of x ≡ o → All P (actions_from (suc n) xs) → All P (listed n o (actions_from (suc n) xs))
    go none e l = l
    go (some y) e l = all_cons (f n x y (omega arith) e q) l

-- a node that names what exists and whose truth or number reads has an operand that fits (18)
pub operand-fits : (ed : Edition) (v : ℕ) (cs : List Selector) (x : Node) (y : Action) → action_of x ≡ some y → node_named v cs x ≡ true → node_reads ed v x ≡ true → operand_fits ed v cs y ≡ true
unfolding action_of node_named node_reads operand_fits
operand-fits ed v cs (sequence k) y e h r = none-not-some e
operand-fits ed v cs (parallel k) y e h r = none-not-some e
operand-fits ed v cs (while_do t) y e h r = rw (← some_is e) r
operand-fits ed v cs (if_else t) y e h r = rw (← some_is e) r
operand-fits ed v cs (continue_until t) y e h r = rw (← some_is e) r
operand-fits ed v cs (reset u t) y e h r = rw (← some_is e) (and_both h r)
operand-fits ed v cs (reinitial u t) y e h r = rw (← some_is e) (and_both h r)
operand-fits ed v cs (switch_to s m) y e h r = rw (← some_is e) h
operand-fits ed v cs stop_all y e h r = rw (← some_is e) refl
