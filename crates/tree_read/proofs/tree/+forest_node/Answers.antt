-- One law of WalkSteps for each return.
use Rattle.std.proofs.Common.{arith}
use Rattle.tree_read.proofs.WalkSteps.{bound-lost, bound-next, bound-wider, forest-none, forest-lost, forest-more, tree-out, tree-lost, tree-read}
use Rattle.tree_read.proofs.tree.+forest_node.Goals as goal

pub forest-returns-then-k-eq0 : goal.forest-returns-then-k-eq0
forest-returns-then-k-eq0 t c = (bound-next (omega arith) c.requires.1, λ ns k f l. forest-none ns _ _ _ _ c.if-k-eq0.true)

pub forest-forest-requires : goal.forest-forest-requires
forest-forest-requires t c = let b = c.node.ensures.0.within _ c.in_ok-m.was in omega (arith, c.node.auto.ends, c.requires)

pub forest-returns-in_err-m : goal.forest-returns-in_err-m
forest-returns-in_err-m t c = rw c.from_residual.ensures (bound-lost, λ ns k f l. forest-lost ns _ _ _ _ _ _ c.if-k-eq0.false (c.node.ensures.1 ns k f l) c.in_err-m.was)

pub forest-returns : goal.forest-returns
forest-returns t c = let b = c.node.ensures.0.within _ c.in_ok-m.was in (
  bound-wider (omega arith) c.forest.ensures.0,
  λ ns k f l. forest-more ns _ _ _ _ _ _ _ _ c.if-k-eq0.false (c.node.ensures.1 ns k f l) c.in_ok-m.was (c.forest.ensures.1 ns k f (omega arith)),
)

pub node-returns-then-n-counts : goal.node-returns-then-n-counts
node-returns-then-n-counts t c = (bound-lost, λ ns k f l. tree-out _ ns _ k _ _ f c.if-n-counts.true)

pub node-returns-in_err-e : goal.node-returns-in_err-e
node-returns-in_err-e t c = rw c.from_residual.ensures (bound-lost, λ ns k. tree-lost _ ns _ k _ _ _ c.if-n-counts.false (c.forest.ensures.1 ns k) c.in_err-e.was)

pub node-returns : goal.node-returns
node-returns t c = let b = c.forest.ensures.0.within _ c.in_ok-e.was in (
  bound-next b.0 b.1,
  λ ns k. tree-read _ ns _ k _ _ _ c.if-n-counts.false (omega (arith, c.requires)) (c.forest.ensures.1 ns k) c.in_ok-e.was,
)
