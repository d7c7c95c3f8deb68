-- The variables of the equations before are marked, and the answer is that of the equations left (`OnceGoing`).
use Rattle.plant.proofs.EquationsOnce.{OnceGoing}
use Rattle.plant.proofs.driven.read.Given as goal

abbrev pub invariant-loop : goal.invariant-loop
invariant-loop l = OnceGoing l.s l.seen l.p l.counter
