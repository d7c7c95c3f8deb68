-- The test of all modes is that of the modes left, and only their variables are yet to be marked (`ModesGoing`).
use Rattle.plant.proofs.DrivenOnce.{ModesGoing}
use Rattle.plant.proofs.driven.modes.Given as goal

abbrev pub invariant-loop : goal.invariant-loop
invariant-loop l = ModesGoing l.s l.at l.n l.before l.initial.seen l.seen l.p l.counter
