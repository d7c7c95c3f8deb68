-- A tree written in preorder, "a node, then its children": what 10 asks of the nodes, apart from how they are read.
use Rattle.std.specs.Prelude.{◌≡◌, List, [], ◌∷◌, ◌++◌, ℕ, suc, ◌+◌, length}
use Rattle.schedules.specs.Nodes.{Node, sequence, parallel, while_do, if_else, continue_until, reset, reinitial, switch_to, stop_all}
use Rattle.schedules.specs.Trees.{Tree, Forest, leaf, halt, loop, branch, seq, par, nil, cons}

unfoldable pub forest_length : Forest → ℕ
forest_length nil = 0
forest_length (cons t ts) = suc (forest_length ts)

mutual
  -- the tree, the number of its first node, and its nodes
  pub data Written : Tree → ℕ → List Node → Type 0 where
    a_continue : {n : ℕ} {t : List ℕ} → Written (leaf n) n (continue_until t ∷ [])
    a_reset : {n v : ℕ} {e : List ℕ} → Written (leaf n) n (reset v e ∷ [])
    a_reinitial : {n v : ℕ} {e : List ℕ} → Written (leaf n) n (reinitial v e ∷ [])
    a_switch : {n s m : ℕ} → Written (leaf n) n (switch_to s m ∷ [])
    a_stop : {n : ℕ} → Written (halt n) n (stop_all ∷ [])
    a_while : {n : ℕ} {t : List ℕ} {body : Tree} {ns : List Node} → Written body (suc n) ns → Written (loop n body) n (while_do t ∷ ns)
    an_if : {n : ℕ} {t : List ℕ} {a b : Tree} {ms ns l : List Node} → Written a (suc n) ms → Written b (suc n + length ms) ns →
        l ≡ ms ++ ns → Written (branch n a b) n (if_else t ∷ l)
    a_sequence : {n k : ℕ} {t : Tree} {ts : Forest} {ns : List Node} → WrittenAll (cons t ts) (suc n) ns →
        k ≡ forest_length (cons t ts) → Written (seq t ts) n (sequence k ∷ ns)
    a_parallel : {n k : ℕ} {t : Tree} {ts : Forest} {ns : List Node} → WrittenAll (cons t ts) (suc n) ns →
        k ≡ forest_length (cons t ts) → Written (par t ts) n (parallel k ∷ ns)

  pub data WrittenAll : Forest → ℕ → List Node → Type 0 where
    no-tree : {n : ℕ} → WrittenAll nil n []
    one_tree : {n : ℕ} {t : Tree} {ts : Forest} {ms ns l : List Node} → Written t n ms → WrittenAll ts (n + length ms) ns →
        l ≡ ms ++ ns → WrittenAll (cons t ts) n l
