-- One law of WholeTree for each return: `tree-told`, `tree-lost`.
use mathlib.Core.Path.{◌≡◌, sym}
use native.Mathlib.Omega.{arith}
use lib.ListN.{length, length-take}
use lib.Seq.{length-take-le}
use Rattle.tree_read.proofs.ChildCounts.{few}
use Rattle.tree_read.proofs.WholeTree.{tree-found, nodes-over, tree-lost}
use Rattle.std.proofs.Common.{rules}
use Rattle.tree_read.proofs.tree.read.Goals as goal

pub slice_bounds-counts-end : goal.slice_bounds-counts-end
slice_bounds-counts-end c = let q : length c.child_counts-counts.result ≡ 256 = search rules in omega (arith, few _ _ _ _ c.requires.0)

pub slice_bounds-node-end : goal.slice_bounds-node-end
slice_bounds-node-end c = let q : length c.child_counts-counts.result ≡ 256 = search rules in
    sym (length-take-le c.args.m c.child_counts-counts.result (omega (arith, few _ _ _ _ c.requires.0)))

pub returns-in-Some : goal.returns-in-Some
returns-in-Some c = λ ed e. tree-found ed _ _ _ _ e _ _ _ _ (λ ns. c.child_counts-counts.ensures ed ns e) c.requires.1 c.node.ensures.1 c.in-Some.is c.if-e-m.true

pub returns-in_default : goal.returns-in_default
returns-in_default c = let b = c.node.ensures.0.within _ c.in-Some.is in
    λ ed e. nodes-over ed _ _ _ _ e _ _ _ _ (λ ns. c.child_counts-counts.ensures ed ns e) c.requires.1 c.node.ensures.1 c.in-Some.is c.if-e-m.false
    (omega (arith, length-take c.args.m c.child_counts-counts.result))

pub returns-in_default-2 : goal.returns-in_default-2
returns-in_default-2 c = λ ed e. tree-lost ed _ _ _ _ e _ _ _ _ (λ ns. c.child_counts-counts.ensures ed ns e) c.requires.1 c.node.ensures.1 c.in_default.is
