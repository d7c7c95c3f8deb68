-- The switches that are ahead are walked over (`Walking`).
use Prim.Native.Nat.{◌-◌}
use Rattle.modes.specs.Modes.{mode_at}
use Rattle.modes.proofs.Walks.{Walking}
use Rattle.modes.proofs.mode_check.Given as goal

abbrev pub invariant-loop : goal.invariant-loop
invariant-loop l = Walking 28 l.values l.es (l.end - l.counter) l.p (mode_at l.es l.at).switches
