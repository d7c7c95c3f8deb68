-- The counts of the first i nodes are written, and then zeros.
use mathlib.Core.Path.{◌≡◌}
use mathlib.Core.List.{List, map}
use mathlib.Core.Option.{some}
use lib.ListN.{take}
use Rattle.semantics.specs.Editions.{Edition}
use Rattle.schedules.specs.Nodes.{Node, nodes_in}
use Rattle.schedules.specs.Trees.{children}
use Rattle.codec.specs.Padding.{pad}
use Rattle.tree_read.specs.Index.{IndexOf}
use Rattle.tree_read.proofs.tree.child_counts.Given as goal

abbrev pub invariant-loop-i : goal.invariant-loop-i
invariant-loop-i l = (ed : Edition) (ns : List Node) → IndexOf ed l.s l.kinds l.starts l.m → nodes_in ed l.s ≡ some ns → l.counts ≡ pad 256 0 (map children (take l.i ns))
