-- Document 01, "Schedule file": the schedule section. Conditions 9 and 11, 34 of document 02, item 3, and 12 of the nodes.
use Rattle.std.specs.Prelude.{Bool, true, not, cond, List, [], ◌∷◌, ℕ, suc, ◌-◌, leb, ltb, eqb}
use Rattle.std.proofs.Math.Option.{Option, none, some, bind}
use Rattle.std.proofs.Math.ListN.{get_elem?}
use Rattle.semantics.specs.Bytes.{is_some, within, Reader, ◌>>=◌, guard, from, byte, number, bytes, times, whole, from_no_bytes, from_two_bytes, byte_and_rest}
use Rattle.semantics.specs.Editions.{Edition}
use Rattle.semantics.specs.Expressions.{number_in, truth_in}
use Rattle.semantics.specs.Sections.{Selector, Equation}
use Rattle.semantics.specs.Plant.{mode_exists_in, is_driven_in}
use Rattle.semantics.specs.Run.{Action, test, wait, assign, switch, stop}
use Rattle.semantics.specs.TableFile.{NodeAction}

-- the lists are the bytes of a truth or number: "the rest of its node .., even where no byte is left"
pub data Node : Type 0 where
  -- child counts
  sequence parallel : ℕ → Node
  while_do if_else continue_until : List ℕ → Node
  reset reinitial : ℕ → List ℕ → Node
  switch_to : ℕ → ℕ → Node
  stop_all : Node

-- "Kinds: 1 SEQUENCE and 2 PARALLEL .., 3 WHILE .., 4 IF .., 5 CONTINUE UNTIL .., 6 RESET and 7 REINITIAL .., 8 SWITCH .., 9 STOP."
pub data Kind : Type 0 where
  a_sequence a_parallel a_while an_if a_continue a_reset a_reinitial a_switch a_stop no_kind : Kind

unfoldable pub kind_of : ℕ → Kind
kind_of k =
    cond (eqb k 1) a_sequence (cond (eqb k 2) a_parallel (cond (eqb k 3) a_while
    (cond (eqb k 4) an_if (cond (eqb k 5) a_continue (cond (eqb k 6) a_reset
    (cond (eqb k 7) a_reinitial (cond (eqb k 8) a_switch (cond (eqb k 9) a_stop no_kind))))))))

-- "(child count, at least 1)"
unfoldable pub child_count : (ℕ → Node) → List ℕ → Option Node
child_count f [] = none
child_count f (k ∷ []) = cond (leb 1 k) (some (f k)) none
child_count f (k ∷ x ∷ s) = none

-- what a kind and its payload make
unfoldable pub node_of : Kind → List ℕ → Option Node
node_of a_sequence b = child_count sequence b
node_of a_parallel b = child_count parallel b
node_of a_while b = some (while_do b)
node_of an_if b = some (if_else b)
node_of a_continue b = some (continue_until b)
node_of a_reset b = byte_and_rest reset b
node_of a_reinitial b = byte_and_rest reinitial b
node_of a_switch b = from_two_bytes switch_to b
node_of a_stop b = from_no_bytes stop_all b
node_of no_kind b = none

module _ (ed : Edition) where
  -- "each with a length byte first (1..200), then kind and payload"
  unfoldable pub read_node : Reader Node
  read_node = do
    l ← number ed.width
    guard (within 1 200 l) (do
      k ← byte
      b ← bytes (l - 1)
      from (node_of (kind_of k) b))

  -- "Schedule: node count 1..64, then nodes"
  unfoldable pub read_nodes : Reader (List Node)
  read_nodes = do
    n ← number ed.width
    guard (within 1 ed.nodes n) (times n read_node)

  -- 9: "The schedule section, its node count, a length, kind, payload or child count breaks its layout."
  unfoldable pub nodes_in : List ℕ → Option (List Node)
  nodes_in = whole read_nodes

  -- 12, of a node
  unfoldable pub node_reads : ℕ → Node → Bool
  node_reads variables (sequence k) = true
  node_reads variables (parallel k) = true
  node_reads variables (while_do t) = is_some (truth_in ed variables t)
  node_reads variables (if_else t) = is_some (truth_in ed variables t)
  node_reads variables (continue_until t) = is_some (truth_in ed variables t)
  node_reads variables (reset v e) = is_some (number_in ed variables e)
  node_reads variables (reinitial v e) = is_some (number_in ed variables e)
  node_reads variables (switch_to s m) = true
  node_reads variables stop_all = true

-- 11: "A node names a missing variable, selector or mode, its truth or number left aside."
unfoldable pub node_named : ℕ → List Selector → Node → Bool
node_named variables cs (sequence k) = true
node_named variables cs (parallel k) = true
node_named variables cs (while_do t) = true
node_named variables cs (if_else t) = true
node_named variables cs (continue_until t) = true
node_named variables cs (reset v e) = ltb v variables
node_named variables cs (reinitial v e) = ltb v variables
node_named variables cs (switch_to s m) = mode_exists_in cs s m
node_named variables cs stop_all = true

-- Document 02, item 3, 34: "RESET belongs to variables that no equation drives, REINITIAL to driven ones.", in a plant with these equations
unfoldable pub node_parted : List Equation → Node → Bool
node_parted es (sequence k) = true
node_parted es (parallel k) = true
node_parted es (while_do t) = true
node_parted es (if_else t) = true
node_parted es (continue_until t) = true
node_parted es (reset v e) = not (is_driven_in es v)
node_parted es (reinitial v e) = is_driven_in es v
node_parted es (switch_to s m) = true
node_parted es stop_all = true

-- what a node of kinds 3 to 9 does; "Kinds 6 and 7 both assign."
unfoldable pub action_of : Node → Option Action
action_of (sequence k) = none
action_of (parallel k) = none
action_of (while_do t) = some (test t)
action_of (if_else t) = some (test t)
action_of (continue_until t) = some (wait t)
action_of (reset v e) = some (assign v e)
action_of (reinitial v e) = some (assign v e)
action_of (switch_to s m) = some (switch s m)
action_of stop_all = some stop

-- what node n does, "numbered from 0"; of a SEQUENCE, a PARALLEL and a number beyond the nodes, which never act, nothing is asked
unfoldable pub node_action : List Node → ℕ → Action
node_action ns n = elim (bind (get_elem? ns n) action_of) [ none ↦ stop | some a ↦ a ]

-- ---- the actions of a table
unfoldable pub listed : ℕ → Option Action → List NodeAction → List NodeAction
listed n none l = l
listed n (some a) l = record { node = n; action = a } ∷ l

-- "per node of kinds 3..9, reached or not, in rising order"; "numbered from 0"
unfoldable pub actions_from : ℕ → List Node → List NodeAction
actions_from n [] = []
actions_from n (x ∷ xs) = listed n (action_of x) (actions_from (suc n) xs)

unfoldable pub actions_of : List Node → List NodeAction
actions_of ns = actions_from 0 ns
