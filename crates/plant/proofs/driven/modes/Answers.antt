use native.Mathlib.Omega.{arith}
use Rattle.plant.proofs.DrivenOnce.{mode-before, mode-there, rates-there, modes-false, modes-next, modes-end}
use Rattle.plant.proofs.driven.modes.Goals as goal

pub bounds-s-p : goal.bounds-s-p
bounds-s-p c = mode-before c.loop.invariant (omega arith)

pub rates-requires : goal.rates-requires
rates-requires c = let g = c.loop.invariant in rw c.from.ensures (rates-there g (omega arith))

pub returns-then-not-rates : goal.returns-then-not-rates
returns-then-not-rates c = modes-false c.loop.invariant (omega arith) (rw c.from.ensures at c.rates.ensures) c.if-not-rates.true _

pub mode_end-p-requires : goal.mode_end-p-requires
mode_end-p-requires c = mode-there c.loop.invariant (omega arith)

pub loop-preserved : goal.loop-preserved
loop-preserved c = modes-next c.loop.invariant (omega arith) (rw c.from.ensures at c.rates.ensures) c.if-not-rates.false _ c.mode_end-p.ensures

pub returns : goal.returns
returns c = modes-end c.loop.invariant (omega arith)
