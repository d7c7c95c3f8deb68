-- The first i nodes were read up to p, and the arrays hold them (`Filled`).
use Rattle.edition.specs.Editions.{edition_of}
use Rattle.tree_read.proofs.NodeIndex.{Filled}
use Rattle.tree_read.proofs.nodes.read.Given as goal

abbrev pub invariant-loop-i : goal.invariant-loop-i
invariant-loop-i l = Filled (edition_of l.ed) l.s l.kinds l.starts l.ends l.i l.p
