-- One rate is written over its variable's, and the others are ahead (`Laying`).
use Prim.Native.Nat.{◌-◌}
use Rattle.modes.specs.Modes.{mode_at}
use Rattle.modes.proofs.Walks.{Laying}
use Rattle.modes.proofs.lay_rates.Given as goal

abbrev pub invariant-loop : goal.invariant-loop
invariant-loop l = Laying l.es (l.end - l.counter) l.p l.initial.rates (mode_at l.es l.at).rates l.rates
