-- By the number of nodes left to read; a node's children come after it.
use Rattle.std.proofs.Common.{length, ◌+◌, ◌-◌, ◌*◌}
use Rattle.tree_read.proofs.tree.+forest_node.Given as goal

abbrev pub decreases-forest : goal.decreases-forest
decreases-forest l = (length l.counts.now - l.n) * 2 + 1

abbrev pub decreases-node : goal.decreases-node
decreases-node l = (length l.counts.now - l.n) * 2
