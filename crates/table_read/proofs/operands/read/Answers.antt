use native.Mathlib.Omega.{arith}
use Rattle.edition.specs.Editions.{edition_of}
use Rattle.table_read.proofs.OperandTurns.{few-nodes, operand-inside, fit-start, fit_next, fit_stop, fit-end}
use Rattle.table_read.proofs.operands.read.Goals as goal

pub loop-i-init : goal.loop-i-init
loop-i-init c = fit-start

pub offset_bounds-acts-i : goal.offset_bounds-acts-i
offset_bounds-acts-i c = omega (arith, few-nodes (edition_of c.args.ed) c.node_limit-i-end.ensures c.loop-i-test.true)

pub bounds-acts-i : goal.bounds-acts-i
bounds-acts-i c = omega (arith, few-nodes (edition_of c.args.ed) c.node_limit-i-end.ensures c.loop-i-test.true)

pub offset_bounds-acts-i-in-loop-i : goal.offset_bounds-acts-i-in-loop-i
offset_bounds-acts-i-in-loop-i c = omega (arith, few-nodes (edition_of c.args.ed) c.node_limit-i-end.ensures c.loop-i-test.true)

pub bounds-acts-i-in-loop-i : goal.bounds-acts-i-in-loop-i
bounds-acts-i-in-loop-i c = omega (arith, few-nodes (edition_of c.args.ed) c.node_limit-i-end.ensures c.loop-i-test.true)

pub bounds-acts-i-in-loop-i-2 : goal.bounds-acts-i-in-loop-i-2
bounds-acts-i-in-loop-i-2 c = omega (arith, few-nodes (edition_of c.args.ed) c.node_limit-i-end.ensures c.loop-i-test.true)

pub slice_bounds-fits-count : goal.slice_bounds-fits-count
slice_bounds-fits-count c = let k = few-nodes (edition_of c.args.ed) c.node_limit-i-end.ensures c.loop-i-test.true in
    (operand-inside _ c.args.s.now c.requires.0 c.loop-i.i k).0

pub slice_bounds-fits-start : goal.slice_bounds-fits-start
slice_bounds-fits-start c = let k = few-nodes (edition_of c.args.ed) c.node_limit-i-end.ensures c.loop-i-test.true in
    (operand-inside _ c.args.s.now c.requires.0 c.loop-i.i k).0

pub slice_bounds-fits-end : goal.slice_bounds-fits-end
slice_bounds-fits-end c = let k = few-nodes (edition_of c.args.ed) c.node_limit-i-end.ensures c.loop-i-test.true in
    (operand-inside _ c.args.s.now c.requires.0 c.loop-i.i k).1

pub returns-then-not-fits : goal.returns-then-not-fits
returns-then-not-fits c = let k = few-nodes (edition_of c.args.ed) c.node_limit-i-end.ensures c.loop-i-test.true in
    fit_stop _ c.args.s.now c.requires.0 _ _ _ k c.fits.ensures c.if-not-fits.true

pub loop-i-preserved : goal.loop-i-preserved
loop-i-preserved c = fit_next _ _ _ _ _ _ _ c.fits.ensures c.if-not-fits.false c.loop-i.invariant

pub returns : goal.returns
returns c = fit-end _ c.args.s.now c.requires.0 _ _ _ (omega (arith, c.node_limit-i-end.ensures)) c.loop-i.invariant
