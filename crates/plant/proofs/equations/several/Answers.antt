use native.Mathlib.Omega.{arith}
use Rattle.plant.specs.Equations.{at_first, and_next, one_broken}
use Rattle.plant.proofs.EquationParts.{all-read}
use Rattle.plant.proofs.equations.several.Goals as goal

pub loop-init : goal.loop-init
loop-init g c = at_first

pub returns-in_err-part : goal.returns-in_err-part
returns-in_err-part g c = rw c.from_residual.ensures (one_broken c.loop.invariant (omega arith) (rw c.in_err-part.was at c.one.ensures))

pub loop-preserved : goal.loop-preserved
loop-preserved g c = and_next c.loop.invariant (rw c.in_ok-part.was at c.one.ensures)

pub returns : goal.returns
returns g c = all-read c.loop.invariant (omega arith)
