use native.Mathlib.Omega.{arith}
use Rattle.plant.proofs.DrivenOnce.{rates-start, rate-inside, rate-variable, rates-before, rates-twice, rates-next, rates-false, rates-end}
use Rattle.plant.proofs.driven.rates.Goals.{then-before-v-via-then-before-v, then-before-v-via-else-before-v+then-mine-v}
use Rattle.plant.proofs.driven.rates.Goals as goal

pub loop-i-init : goal.loop-i-init
loop-i-init c = rates-start _ _ _ _ _ (omega arith) c.requires

pub bounds-s-at : goal.bounds-s-at
bounds-s-at c = omega (arith, rate-inside c.loop-i.invariant (omega arith))

pub bounds-before-v : goal.bounds-before-v
bounds-before-v c = rw c.from-v.ensures (rate-variable c.loop-i.invariant (omega arith))

pub bounds-mine-v : goal.bounds-mine-v
bounds-mine-v c = rw c.from-v.ensures (rate-variable c.loop-i.invariant (omega arith))

pub returns-then-before-v : goal.returns-then-before-v
returns-then-before-v c = let g = c.loop-i.invariant in rates-false g (elim c.then-before-v.branch [
  | then-before-v-via-then-before-v w ↦ rates-before g (omega arith) (rw c.from-v.ensures at w.if-before-v.true)
  | then-before-v-via-else-before-v+then-mine-v w ↦ rates-twice g (omega arith) (rw c.from-v.ensures at w.if-mine-v.true)
]) _

pub bounds-mine-v-in-loop-i : goal.bounds-mine-v-in-loop-i
bounds-mine-v-in-loop-i c = rw c.from-v.ensures (rate-variable c.loop-i.invariant (omega arith))

pub bounds-seen-v : goal.bounds-seen-v
bounds-seen-v c = rw c.from-v.ensures (rate-variable c.loop-i.invariant (omega arith))

pub loop-i-preserved : goal.loop-i-preserved
loop-i-preserved c = rw c.from-v.ensures (rates-next c.loop-i.invariant (omega arith) (omega arith) (rw c.from-v.ensures at c.if-before-v.false) (rw c.from-v.ensures at c.if-mine-v.false))

pub returns : goal.returns
returns c = rates-end c.loop-i.invariant (omega arith)
