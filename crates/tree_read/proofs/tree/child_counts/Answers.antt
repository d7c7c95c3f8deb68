use native.Mathlib.Omega.{arith}
use Rattle.tree_read.proofs.ChildCounts.{few, node_made, counts_start, counts-next, counts_end}
use Rattle.tree_read.proofs.tree.child_counts.Goals as goal

pub loop-i-init : goal.loop-i-init
loop-i-init c = λ ed ns e h. counts_start ns

pub bounds-kinds-i : goal.bounds-kinds-i
bounds-kinds-i c = omega (arith, few _ _ _ _ c.requires)

pub offset_bounds-starts-i : goal.offset_bounds-starts-i
offset_bounds-starts-i c = omega (arith, few _ _ _ _ c.requires)

pub bounds-starts-i : goal.bounds-starts-i
bounds-starts-i c = omega (arith, few _ _ _ _ c.requires)

pub children_of-requires : goal.children_of-requires
children_of-requires c = node_made _ _ _ _ c.requires _ c.loop-i-test.true

pub bounds-counts-i : goal.bounds-counts-i
bounds-counts-i c = omega (arith, few _ _ _ _ c.requires)

pub loop-i-preserved : goal.loop-i-preserved
loop-i-preserved c = λ ed ns e h. counts-next _ _ _ _ ed e _ _ _ ns h c.loop-i-test.true (c.loop-i.invariant ed ns e h) c.children_of.ensures

pub returns : goal.returns
returns c = λ ed ns e h. counts_end _ _ _ _ ed e _ _ ns h c.loop-i-test.false (c.loop-i.invariant ed ns e h)
