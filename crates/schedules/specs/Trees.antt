-- Document 01, "Schedule file": "The tree is read in preorder: a node, then its children; nodes .. are numbered from 0."
use Rattle.std.specs.Prelude.{List, [], ◌∷◌, ℕ, zero, suc, length}
use Rattle.std.proofs.Math.Option.{Option, none, some}
use Rattle.schedules.specs.Nodes.{Node, sequence, parallel, while_do, if_else, continue_until, reset, reinitial, switch_to, stop_all}

-- a node that acts has its number; a SEQUENCE and a PARALLEL have a first child and the others
mutual
  pub data Tree : Type 0 where
    -- a CONTINUE, an assignment or a SWITCH
    leaf : ℕ → Tree
    -- a STOP
    halt : ℕ → Tree
    -- a WHILE and its body
    loop : ℕ → Tree → Tree
    -- an IF and its two children
    branch : ℕ → Tree → Tree → Tree
    seq par : Tree → Forest → Tree
    deriving Discrete as Tree-discrete

  pub data Forest : Type 0 where
    nil : Forest
    cons : Tree → Forest → Forest
    deriving Discrete as Forest-discrete

unfoldable pub children : Node → ℕ
children (sequence k) = k
children (parallel k) = k
children (while_do t) = 1
children (if_else t) = 2
children (continue_until t) = 0
children (reset v e) = 0
children (reinitial v e) = 0
children (switch_to s m) = 0
children stop_all = 0

-- a tree of these children, where they are as many as it takes
unfoldable pub of_none : Tree → Forest → Option Tree
of_none t nil = some t
of_none t (cons u us) = none

unfoldable pub of_one : (Tree → Tree) → Forest → Option Tree
of_one f nil = none
of_one f (cons t nil) = some (f t)
of_one f (cons t (cons u us)) = none

unfoldable pub of_two : (Tree → Tree → Tree) → Forest → Option Tree
of_two f nil = none
of_two f (cons t nil) = none
of_two f (cons t (cons u nil)) = some (f t u)
of_two f (cons t (cons u (cons v vs))) = none

unfoldable pub of_some : (Tree → Forest → Tree) → Forest → Option Tree
of_some f nil = none
of_some f (cons t ts) = some (f t ts)

-- the tree of node n with these children
unfoldable pub tree_from : ℕ → Node → Forest → Option Tree
tree_from n (sequence k) ts = of_some seq ts
tree_from n (parallel k) ts = of_some par ts
tree_from n (while_do t) ts = of_one (loop n) ts
tree_from n (if_else t) ts = of_two (branch n) ts
tree_from n (continue_until t) ts = of_none (leaf n) ts
tree_from n (reset v e) ts = of_none (leaf n) ts
tree_from n (reinitial v e) ts = of_none (leaf n) ts
tree_from n (switch_to s m) ts = of_none (leaf n) ts
tree_from n stop_all ts = of_none (halt n) ts

-- what was read, the number of the next node, and the nodes left
pub data Walked (A : Type 0) : Type 0 where
  lost : Walked A
  walked : A → ℕ → List Node → Walked A

unfoldable pub onward : {A B : Type 0} → Walked A → (A → ℕ → List Node → Walked B) → Walked B
onward lost f = lost
onward (walked a n ns) f = f a n ns

unfoldable pub found : {A : Type 0} → Option A → ℕ → List Node → Walked A
found none n ns = lost
found (some a) n ns = walked a n ns

-- k children, each read by r
unfoldable pub read_forest : (ℕ → List Node → Walked Tree) → ℕ → ℕ → List Node → Walked Forest
read_forest r zero n ns = walked nil n ns
read_forest r (suc k) n ns = onward (r n ns) (λ t m ms. onward (read_forest r k m ms) (λ ts l ls. walked (cons t ts) l ls))

-- a node, then its children, at most this deep
unfoldable pub read_tree : ℕ → ℕ → List Node → Walked Tree
read_tree zero n ns = lost
read_tree (suc deep) n [] = lost
read_tree (suc deep) n (x ∷ ns) = onward (read_forest (read_tree deep) (children x) (suc n) ns) (λ ts m ms. found (tree_from n x ts) m ms)

unfoldable pub when_none_left : Walked Tree → Option Tree
when_none_left lost = none
when_none_left (walked t n []) = some t
when_none_left (walked t n (x ∷ ns)) = none

-- 10: "The nodes do not make just one tree." A tree is no deeper than it has nodes.
unfoldable pub tree_of : List Node → Option Tree
tree_of ns = when_none_left (read_tree (length ns) 0 ns)
