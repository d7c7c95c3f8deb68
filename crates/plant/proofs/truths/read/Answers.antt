use mathlib.Core.List.{[]}
use native.Mathlib.Omega.{arith}
use Rattle.plant.proofs.Walks.{section-at}
use Rattle.plant.proofs.Turns.{turns-start, turns-true}
use Rattle.plant.proofs.TruthTurns.{section-sound, equation-ends, slice_inside, slice-there, equations-false, equations-next}
use Rattle.plant.proofs.truths.read.Goals as goal

pub bounds-s-0 : goal.bounds-s-0
bounds-s-0 c = (section-sound _ c.requires.0).inside

pub loop-init : goal.loop-init
loop-init c = turns-start _ _ (section-sound _ c.requires.0)

pub nat2-requires : goal.nat2-requires
nat2-requires c = omega (arith, equation-ends c.loop.invariant (omega arith))

pub overflow_add-e : goal.overflow_add-e
overflow_add-e c = omega (arith, slice_inside c.loop.invariant (omega arith) c.nat2.ensures)

pub slice_bounds-of_equation-end : goal.slice_bounds-of_equation-end
slice_bounds-of_equation-end c = slice_inside c.loop.invariant (omega arith) c.nat2.ensures

pub of_equation-requires : goal.of_equation-requires
of_equation-requires c = slice-there c.loop.invariant (omega arith) c.nat2.ensures

pub returns-then-not-of_equation : goal.returns-then-not-of_equation
returns-then-not-of_equation c ed es h = equations-false c.loop.invariant (omega arith) c.nat2.ensures c.of_equation.ensures c.if-not-of_equation.true ed es [] (section-at _ h).got

pub loop-preserved : goal.loop-preserved
loop-preserved c = equations-next c.loop.invariant (omega arith) c.nat2.ensures c.of_equation.ensures c.if-not-of_equation.false

pub returns : goal.returns
returns c ed es h = turns-true c.loop.invariant (omega arith) ed es [] (section-at _ h).got
