-- A case for each kind: what its payload is (`head-reset` ..) and what the reader of a truth or number promises of it.
use Rattle.std.proofs.Common.{rules}
use mathlib.Core.Path.{ap, ◌∙◌}
use Rattle.semantics.specs.Bytes.{is_some}
use Rattle.semantics.specs.Expressions.{number_in}
use Rattle.schedules.specs.Nodes.{node_reads}
use Rattle.schedule_read.proofs.Payloads.{made-of, head-reset, head-reinitial, tells-while, tells-if, tells-continue, tells-reset, tells-reinitial, reads_nothing, rest_part}
use Rattle.schedule_read.proofs.operands.one.Goals as goal

pub slice_bounds-number_reads-count : goal.slice_bounds-number_reads-count
slice_bounds-number_reads-count c = (head-reset c.in-6.is (made-of _ _ c.args.node.made).is).long

pub slice_bounds-number_reads-start : goal.slice_bounds-number_reads-start
slice_bounds-number_reads-start c = (head-reset c.in-6.is (made-of _ _ c.args.node.made).is).long

pub slice_bounds-number_reads-count-in-7 : goal.slice_bounds-number_reads-count-in-7
slice_bounds-number_reads-count-in-7 c = (head-reinitial c.in-7.is (made-of _ _ c.args.node.made).is).long

pub slice_bounds-number_reads-start-in-7 : goal.slice_bounds-number_reads-start-in-7
slice_bounds-number_reads-start-in-7 c = (head-reinitial c.in-7.is (made-of _ _ c.args.node.made).is).long

pub returns-in-3 : goal.returns-in-3
unfolding node_reads
returns-in-3 c = λ ed. tells-while (node_reads ed _) c.in-3.is (c.truth_reads.ensures ed)

pub returns-in-4 : goal.returns-in-4
unfolding node_reads
returns-in-4 c = λ ed. tells-if (node_reads ed _) c.in-4.is (c.truth_reads-in-4.ensures ed)

pub returns-in-5 : goal.returns-in-5
unfolding node_reads
returns-in-5 c = λ ed. tells-continue (node_reads ed _) c.in-5.is (c.truth_reads-in-5.ensures ed)

pub returns-in-6 : goal.returns-in-6
unfolding node_reads
returns-in-6 c = let a = c.args in
    λ ed. tells-reset (node_reads ed a.variables) c.in-6.is (c.number_reads.ensures ed ∙ ap (λ e. is_some (number_in ed a.variables e)) (rest_part a.node.payload.now))

pub returns-in-7 : goal.returns-in-7
unfolding node_reads
returns-in-7 c = let a = c.args in
    λ ed. tells-reinitial (node_reads ed a.variables) c.in-7.is (c.number_reads-in-7.ensures ed ∙ ap (λ e. is_some (number_in ed a.variables e)) (rest_part a.node.payload.now))

pub returns-in_default : goal.returns-in_default
returns-in_default c = λ ed. reads_nothing ed _ (search rules) (search rules) (search rules) (search rules) (search rules)
