use native.Mathlib.Omega.{arith}
use Rattle.plant.proofs.EquationIndex.{minus-more, ahead-end, ahead-switch, ahead-past-switch}
use Rattle.plant.proofs.places.switches_end.Goals as goal

pub overflow_add-p : goal.overflow_add-p
overflow_add-p c = omega (arith, ahead-switch c.loop.invariant (omega arith))

pub bounds-s-p : goal.bounds-s-p
bounds-s-p c = omega (arith, ahead-switch c.loop.invariant (omega arith))

pub overflow_add-p-in-loop : goal.overflow_add-p-in-loop
overflow_add-p-in-loop c = omega (arith, ahead-switch c.loop.invariant (omega arith), c.from.ensures)

pub loop-preserved : goal.loop-preserved
loop-preserved c = rw (c.from.ensures, minus-more c.args.n c.loop.counter) (ahead-past-switch c.loop.invariant (omega arith))

pub returns : goal.returns
returns c = ahead-end _ _ _ _ _ c.loop.invariant (omega arith)
