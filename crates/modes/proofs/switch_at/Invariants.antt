-- The switches before it are passed over one by one (`Seeking`).
use Prim.Native.Nat.{◌-◌}
use Rattle.modes.specs.Modes.{mode_at}
use Rattle.modes.proofs.Walks.{Seeking}
use Rattle.modes.proofs.switch_at.Given as goal

abbrev pub invariant-loop : goal.invariant-loop
invariant-loop l = Seeking l.es (l.k - l.counter) l.p (mode_at l.es l.at).switches l.k
