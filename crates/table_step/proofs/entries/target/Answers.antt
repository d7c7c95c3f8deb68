use native.Mathlib.Omega.{arith}
use Rattle.table_step.proofs.EntryTurns.{count-before-end, entry-inside, look-start, look-next, look-true, look-false, look-end}
use Rattle.table_step.proofs.entries.target.Goals as goal

pub bounds-t-at : goal.bounds-t-at
bounds-t-at c = count-before-end _ c.requires

pub overflow_add-p : goal.overflow_add-p
overflow_add-p c = omega (arith, count-before-end _ c.requires)

pub loop-init : goal.loop-init
loop-init c = look-start _ _ _ _ _

pub number-requires : goal.number-requires
number-requires c = omega (arith, entry-inside _ c.loop.invariant.at c.loop-test.true c.requires)

pub overflow_add-q : goal.overflow_add-q
overflow_add-q c = omega (arith, c.width.ensures, entry-inside _ c.loop.invariant.at c.loop-test.true c.requires)

pub nat2-requires : goal.nat2-requires
nat2-requires c = omega (arith, c.width.ensures, entry-inside _ c.loop.invariant.at c.loop-test.true c.requires)

pub returns-then-truth : goal.returns-then-truth
returns-then-truth c = let a = c.args in
    look-true _ a.t.now a.at a.n a.truth c.loop.invariant c.loop-test.true c.number.ensures c.if-number-n.true c.if-truth.true c.width.ensures c.nat2.ensures

pub overflow_add-q-then-number-n : goal.overflow_add-q-then-number-n
overflow_add-q-then-number-n c = omega (arith, c.width.ensures, entry-inside _ c.loop.invariant.at c.loop-test.true c.requires)

pub nat2-requires-then-number-n : goal.nat2-requires-then-number-n
nat2-requires-then-number-n c = omega (arith, c.width.ensures, entry-inside _ c.loop.invariant.at c.loop-test.true c.requires)

pub returns-then-number-n : goal.returns-then-number-n
returns-then-number-n c = let a = c.args in
    look-false _ a.t.now a.at a.n a.truth c.loop.invariant c.loop-test.true c.number.ensures c.if-number-n.true c.if-truth.false c.width.ensures c.nat2-then-number-n.ensures

pub overflow_add-p-in-loop : goal.overflow_add-p-in-loop
overflow_add-p-in-loop c = omega (arith, c.entry_bytes-p.ensures, entry-inside _ c.loop.invariant.at c.loop-test.true c.requires)

pub loop-preserved : goal.loop-preserved
loop-preserved c = let a = c.args in
    look-next _ a.t.now a.at a.n a.truth c.loop.invariant c.loop-test.true c.number.ensures c.if-number-n.false (omega (arith, c.entry_bytes-p.ensures))

pub returns : goal.returns
returns c = let a = c.args in look-end _ a.t.now a.at a.n a.truth c.loop.invariant (omega arith)
