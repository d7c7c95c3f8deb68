use native.Mathlib.Omega.{arith}
use Rattle.plant.proofs.EquationsOnce.{section-inside, once-start, next-inside, slice_inside, next-few, once-false, once-next, once-end}
use Rattle.plant.proofs.driven.read.Goals as goal

pub bounds-s-0 : goal.bounds-s-0
bounds-s-0 c = section-inside _ c.requires

pub loop-init : goal.loop-init
loop-init c = once-start _ c.requires

pub nat2-requires : goal.nat2-requires
nat2-requires c = omega (arith, next-inside c.loop.invariant (omega arith))

pub overflow_add-e : goal.overflow_add-e
overflow_add-e c = omega (arith, slice_inside c.loop.invariant (omega arith) c.nat2.ensures)

pub slice_bounds-equation-end : goal.slice_bounds-equation-end
slice_bounds-equation-end c = slice_inside c.loop.invariant (omega arith) c.nat2.ensures

pub equation-requires : goal.equation-requires
equation-requires c = next-few c.loop.invariant (omega arith) c.nat2.ensures

pub returns-then-not-equation : goal.returns-then-not-equation
returns-then-not-equation c = once-false c.loop.invariant (omega arith) c.nat2.ensures c.equation.ensures c.if-not-equation.true

pub loop-preserved : goal.loop-preserved
loop-preserved c = once-next c.loop.invariant (omega arith) c.nat2.ensures c.equation.ensures c.if-not-equation.false

pub returns : goal.returns
returns c = once-end c.loop.invariant (omega arith)
