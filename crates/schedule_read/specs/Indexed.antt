-- Nodes by their index, and what a test of each node answers.
use Rattle.std.specs.Prelude.{◌≡◌, List, ℕ}
use Rattle.std.proofs.Math.Option.{some}
use Rattle.semantics.specs.Editions.{Edition}
use Rattle.schedules.specs.Nodes.{Node, kind_of, node_of}
use Rattle.tree_read.specs.Index.{NodesAt}
use Rattle.tree_read.specs.declared.nodes.Nodes.{Nodes}

-- n is the index of these nodes, which stand in s
abbrev pub NodesIn : Edition → List ℕ → Nodes → List Node → Type 0
NodesIn ed s n ns = NodesAt ed s n.kinds n.starts n.ends n.count ns

-- it is the index of some nodes, of some edition
pub record Indexed (s : List ℕ) (n : Nodes) : Type 0 where
  pub edition : Edition
  pub nodes : List Node
  pub at : NodesIn edition s n nodes

-- ---- tests
-- r is what P says of the node of this kind and payload
pub record Tells {A : Type 0} (P : Node → A) (k : ℕ) (b : List ℕ) (r : A) : Type 0 where
  pub of : (x : Node) → node_of (kind_of k) b ≡ some x → r ≡ P x
