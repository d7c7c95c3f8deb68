use native.Mathlib.Omega.{arith}
use Rattle.edition.specs.Editions.{edition_of}
use Rattle.table_write.proofs.ActionLoop.{measured-none, measured-skip, measured-row, measured-end, listed-short}
use Rattle.table_write.proofs.actions.Actions.measured.Goals as goal
use Rattle.table_write.proofs.actions.Actions.measured.Goals.{then-self-n-ne0, else-self-n-ne0}

pub loop-n-init : goal.loop-n-init
loop-n-init c = measured-none

pub bounds-self-n : goal.bounds-self-n
bounds-self-n c = (c.requires.operands.each c.loop-n.n c.loop-n-test.true).in_acts

pub offset_bounds-self-n : goal.offset_bounds-self-n
offset_bounds-self-n c = omega (arith, c.loop-n-test.true, c.requires.operands.few, (edition_of c.args.ed).entries_fit)

pub bounds-self-n-then-self-n-ne0 : goal.bounds-self-n-then-self-n-ne0
bounds-self-n-then-self-n-ne0 c = (c.requires.operands.each c.loop-n.n c.loop-n-test.true).in_ends

pub offset_bounds-self-n-then-self-n-ne0 : goal.offset_bounds-self-n-then-self-n-ne0
offset_bounds-self-n-then-self-n-ne0 c = omega (arith, c.loop-n-test.true, c.requires.operands.few, (edition_of c.args.ed).entries_fit)

pub bounds-self-n-then-self-n-ne0-2 : goal.bounds-self-n-then-self-n-ne0-2
bounds-self-n-then-self-n-ne0-2 c = (c.requires.operands.each c.loop-n.n c.loop-n-test.true).in_starts

pub overflow_sub-size : goal.overflow_sub-size
overflow_sub-size c = (c.requires.operands.each c.loop-n.n c.loop-n-test.true).ordered

pub overflow_add-size : goal.overflow_add-size
overflow_add-size c = omega (arith, listed-short c.requires c.loop-n-test.true c.if-self-n-ne0.true, c.head.ensures.1)

pub overflow_add-size-then-self-n-ne0 : goal.overflow_add-size-then-self-n-ne0
overflow_add-size-then-self-n-ne0 c = let p = c.requires in
    let l = listed-short p c.loop-n-test.true c.if-self-n-ne0.true in
    omega (arith, l, p.operands.few, (edition_of c.args.ed).entries_fit, c.loop-n.invariant.short, c.head.ensures.1)

pub loop-n-preserved : goal.loop-n-preserved
loop-n-preserved c = elim c.if-self-n-ne0.branch [
  | then-self-n-ne0 w ↦ measured-row c.loop-n.invariant w.if-self-n-ne0.true (listed-short c.requires c.loop-n-test.true w.if-self-n-ne0.true) w.head.ensures.0 w.c-is w.size-is
  | else-self-n-ne0 w ↦ measured-skip c.loop-n.invariant w.if-self-n-ne0.false w.c-is w.size-is
]

pub returns : goal.returns
returns c = measured-end (omega arith) c.loop-n.invariant
