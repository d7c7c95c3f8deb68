-- By the kind: always a node, never one, or as the law of its payload's form says (NodeForms).
use mathlib.Core.Path.{refl, ap, ◌∙◌}
use mathlib.Core.Bool.{not}
use Rattle.std.proofs.Common.{rules}
use borrow.Author.Tests.{ne_eqb}
use Rattle.semantics.specs.Bytes.{is_some}
use Rattle.schedules.specs.Nodes.{kind_of, node_of}
use Rattle.tree_read.proofs.NodeForms.{rest-form, two-form, no-form}
use Rattle.tree_read.proofs.nodes.payload.Goals as goal

pub returns-in-1 : goal.returns-in-1
unfolding kind_of node_of
returns-in-1 c = rw c.in-1.is (c.one_count.ensures _)

pub returns-in-2 : goal.returns-in-2
unfolding kind_of node_of
returns-in-2 c = rw c.in-2.is (c.one_count-in-2.ensures _)

pub returns-in-3 : goal.returns-in-3
unfolding kind_of node_of is_some
returns-in-3 c = rw c.in-3.is refl

pub returns-in-4 : goal.returns-in-4
unfolding kind_of node_of is_some
returns-in-4 c = rw c.in-4.is refl

pub returns-in-5 : goal.returns-in-5
unfolding kind_of node_of is_some
returns-in-5 c = rw c.in-5.is refl

pub returns-in-6 : goal.returns-in-6
unfolding kind_of node_of
returns-in-6 c = rw c.in-6.is (ap not c.is_empty.ensures ∙ rest-form _ c.args.b.now)

pub returns-in-7 : goal.returns-in-7
unfolding kind_of node_of
returns-in-7 c = rw c.in-7.is (ap not c.is_empty-in-7.ensures ∙ rest-form _ c.args.b.now)

pub returns-in-8 : goal.returns-in-8
unfolding kind_of node_of
returns-in-8 c = rw c.in-8.is (two-form _ c.args.b.now)

pub returns-in-9 : goal.returns-in-9
unfolding kind_of node_of
returns-in-9 c = rw c.in-9.is (c.is_empty-in-9.ensures ∙ no-form _ c.args.b.now)

pub returns-in_default : goal.returns-in_default
unfolding kind_of node_of is_some
returns-in_default c =
    let k = c.args.k in
    rw (ne_eqb k 1 (search rules), ne_eqb k 2 (search rules), ne_eqb k 3 (search rules), ne_eqb k 4 (search rules), ne_eqb k 5 (search rules), ne_eqb k 6 (search rules), ne_eqb k 7 (search rules), ne_eqb k 8 (search rules), ne_eqb k 9 (search rules)) refl
