-- What the walk of a node and the walk over its children say, for the code's own contracts.
use Rattle.std.specs.Prelude.{◌≡◌, List, map, ℕ, ◌+◌, ◌≤◌, ◌<◌, length, get_or, drop, Option, Some, None}
use Rattle.std.proofs.Math.Option.{some}
use Rattle.std.proofs.Math.ListN.{get_elem?}
use Rattle.schedules.specs.Nodes.{Node, kind_of, node_of}
use Rattle.schedules.specs.Trees.{Tree, Forest, children, tree_from, Walked, lost, walked, read_tree, read_forest}
use Rattle.schedules.specs.Preorder.{forest_length}
use Rattle.schedules.specs.Laid.{Laid, LaidF}
use Rattle.codec.specs.Parts.{between}

-- kind k and a payload that starts here make x
pub record Makes (s : List ℕ) (k start : ℕ) (x : Node) : Type 0 where
  pub stop : ℕ
  pub is : node_of (kind_of k) (between start stop s) ≡ some x

-- a node of whose children a tree can be made: no SEQUENCE and no PARALLEL without children
abbrev pub Parent : Node → Type 0
Parent x = (n : ℕ) (ts : Forest) → forest_length ts ≡ children x → (t : Tree) × (tree_from n x ts ≡ some t)

-- the child counts of these nodes
pub record Counts (ks : List ℕ) (ns : List Node) : Type 0 where
  pub is : ks ≡ map children ns
  pub parents : (i : ℕ) {x : Node} → get_elem? ns i ≡ some x → Parent x

-- ks has the kinds of these nodes
pub record KindsOf (ks : List ℕ) (ns : List Node) : Type 0 where
  pub inside : length ns ≤ length ks
  pub made : (i : ℕ) {x : Node} → get_elem? ns i ≡ some x → (b : List ℕ) × (node_of (kind_of (get_or ks i 0)) b ≡ some x)

-- the number of the next node, where something was read, has these bounds
pub record Bound (low high : ℕ) (r : Option ℕ) : Type 0 where
  pub within : (m : ℕ) → r ≡ Some m → (low ≤ m) × (m ≤ high)

-- e is d, but for the entries from n up to m
pub record Kept (d e : List ℕ) (n m : ℕ) : Type 0 where
  pub ordered : n ≤ m
  pub long : length e ≡ length d
  pub before : (i : ℕ) → i < n → get_or e i 0 ≡ get_or d i 0
  pub behind : (i : ℕ) → m ≤ i → get_or e i 0 ≡ get_or d i 0

-- something was read from node n up to m, and where these nodes end was written
pub record Passed (ns : List Node) (n m : ℕ) (ms : List Node) (d e : List ℕ) (r : Option ℕ) : Type 0 where
  pub answer : r ≡ Some m
  pub rest : ms ≡ drop m ns
  pub kept : Kept d e n m

-- no answer where no tree is read; else the next node and what was written, whatever kinds these nodes have
abbrev pub TreeWalked : List Node → ℕ → List ℕ → List ℕ → Walked Tree → Option ℕ → Type 0
TreeWalked ns n d e lost r = r ≡ None
TreeWalked ns n d e (walked t m ms) r = Passed ns n m ms d e r × ((ks : List ℕ) → KindsOf ks ns → Laid ks e t n m)

abbrev pub ForestWalked : List Node → ℕ → List ℕ → List ℕ → Walked Forest → Option ℕ → Type 0
ForestWalked ns n d e lost r = r ≡ None
ForestWalked ns n d e (walked ts m ms) r = Passed ns n m ms d e r × ((ks : List ℕ) → KindsOf ks ns → LaidF ks e ts n m)

-- a walk from node n on, whatever nodes have these child counts; f bounds the depth
abbrev pub NodeWalked : List ℕ → ℕ → List ℕ → List ℕ → Option ℕ → Type 0
NodeWalked ks n d e r = Bound (n + 1) (length ks) r × ((ns : List Node) → Counts ks ns → (f : ℕ) → length ks ≤ n + f → TreeWalked ns n d e (read_tree f n (drop n ns)) r)

abbrev pub NodesWalked : List ℕ → ℕ → ℕ → List ℕ → List ℕ → Option ℕ → Type 0
NodesWalked ks k n d e r = Bound n (length ks) r × ((ns : List Node) → Counts ks ns → (f : ℕ) → length ks ≤ n + f → ForestWalked ns n d e (read_forest (read_tree f) k n (drop n ns)) r)
