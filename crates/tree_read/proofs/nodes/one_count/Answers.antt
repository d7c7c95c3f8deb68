use mathlib.Core.Path.{◌∙◌}
use borrow.Author.Tests.{ne_eqb}
use lib.ListN.{length}
use Rattle.tree_read.proofs.NodeForms.{not-one, one}
use Rattle.tree_read.proofs.nodes.one_count.Goals as goal

pub returns-then-b-eq1 : goal.returns-then-b-eq1
returns-then-b-eq1 c = λ f. one f c.args.b.now c.if-b-eq1.true

pub returns-else-b-eq1 : goal.returns-else-b-eq1
returns-else-b-eq1 c = λ f. ne_eqb (length c.args.b.now) 1 c.if-b-eq1.false ∙ not-one f c.args.b.now c.if-b-eq1.false
