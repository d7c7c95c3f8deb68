use mathlib.Core.Path.{sym, ap, ◌∙◌}
use native.Mathlib.Omega.{arith}
use borrow.Author.Tests.{eq-eqb, ne_eqb}
use lib.Dec.{eqb}
use Rattle.program.specs.Rows.{kind_row}
use Rattle.execution.proofs.Scans.{few-bounded, at_next, kinds-wait, all_start, all-out, all-on, all_end}
use Rattle.execution.proofs.all_wait.Goals as goal

pub member_from-n-requires : goal.member_from-n-requires
member_from-n-requires c = (omega arith, omega (arith, (few-bounded _ c.requires.few c.node_limit-end.ensures).small))

pub loop-n-init : goal.loop-n-init
loop-n-init c = (at_next c.member_from-n.ensures, all_start (kind_row c.args.p.now.index.now) _ (few-bounded _ c.requires.few c.node_limit-end.ensures) c.member_from-n.ensures)

pub kind-requires : goal.kind-requires
kind-requires c = omega (arith, (few-bounded _ c.requires.few c.node_limit-end.ensures).small, c.loop-n-test.true)

pub returns-then-kind-ne-WAIT : goal.returns-then-kind-ne-WAIT
returns-then-kind-ne-WAIT c = let l = c.loop-n in
    λ f k. sym (l.invariant.1 ∙ all-out (kind_row c.args.p.now.index.now) _ (few-bounded _ c.requires.few c.node_limit-end.ensures) l.n c.loop-n-test.true l.invariant.0 (ap (λ x. eqb x 2) (sym c.kind.ensures) ∙ ne_eqb _ 2 c.if-kind-ne-WAIT.true)) ∙ kinds-wait f _ _ k

pub overflow_add-n : goal.overflow_add-n
overflow_add-n c = omega (arith, c.loop-n-test.true)

pub member_from-n-requires-in-loop-n : goal.member_from-n-requires-in-loop-n
member_from-n-requires-in-loop-n c = (omega (arith, c.loop-n-test.true), omega (arith, (few-bounded _ c.requires.few c.node_limit-end.ensures).small))

pub loop-n-smaller : goal.loop-n-smaller
loop-n-smaller c = omega (arith, c.member_from-n-in-loop-n.ensures.next.from, c.loop-n-test.true)

pub loop-n-preserved : goal.loop-n-preserved
loop-n-preserved c = let l = c.loop-n in
    (at_next c.member_from-n-in-loop-n.ensures, l.invariant.1 ∙ all-on (kind_row c.args.p.now.index.now) _ (few-bounded _ c.requires.few c.node_limit-end.ensures) l.n c.loop-n-test.true l.invariant.0 c.member_from-n-in-loop-n.ensures (ap (λ x. eqb x 2) (sym c.kind.ensures) ∙ eq-eqb _ 2 c.if-kind-ne-WAIT.false))

pub returns : goal.returns
returns c = λ f k. sym (c.loop-n.invariant.1 ∙ all_end (kind_row c.args.p.now.index.now) _ (few-bounded _ c.requires.few c.node_limit-end.ensures) c.loop-n.n c.loop-n-test.false) ∙ kinds-wait f _ _ k
