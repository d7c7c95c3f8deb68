-- The marks of its own are the variables so far; the test of all rates is left to those ahead (`RatesGoing`).
use Prim.Native.Nat.{◌+◌, ◌*◌}
use Rattle.plant.proofs.DrivenOnce.{RatesGoing}
use Rattle.plant.proofs.driven.rates.Given as goal

abbrev pub invariant-loop-i : goal.invariant-loop-i
invariant-loop-i l = RatesGoing l.s l.at l.n l.before l.initial.seen l.seen l.mine (l.at + 5 * l.i) l.i
