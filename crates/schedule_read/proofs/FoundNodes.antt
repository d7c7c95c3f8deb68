-- The index that the reader of the nodes answers, as the tests of all nodes take it.
use mathlib.Core.Path.{◌≡◌, sym, subst}
use mathlib.Core.List.{List}
use mathlib.Core.Option.{some}
use Prim.Native.Nat.{ℕ}
use Rattle.semantics.specs.Editions.{Edition}
use Rattle.schedules.specs.Nodes.{Node, nodes_in}
use Rattle.tree_read.specs.Index.{nodes_of, NodesAt}
use Rattle.tree_read.specs.declared.nodes.Nodes.{Nodes}
use Rattle.tree_read.proofs.NodeIndex.{indexed}

pub found-nodes : (ed : Edition) (s : List ℕ) {r : Nodes} {ns : List Node} → r ≡ nodes_of ed s → nodes_in ed s ≡ some ns → NodesAt ed s r.kinds r.starts r.ends r.count ns
found-nodes ed s {ns = ns} e h = subst (λ (r : Nodes). NodesAt ed s r.kinds r.starts r.ends r.count ns) (sym e) (indexed ed s h)
