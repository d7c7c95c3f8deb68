-- The switches left stand at p, and p with their sizes is the end of all (`Ahead`).
use Prim.Native.Nat.{◌-◌}
use Rattle.semantics.specs.Sections.{read_switch}
use Rattle.semantics.specs.Writing.{write_switch}
use Rattle.plant.proofs.EquationIndex.{Ahead}
use Rattle.plant.proofs.places.switches_end.Given as goal

abbrev pub invariant-loop : goal.invariant-loop
invariant-loop l = Ahead read_switch write_switch l.s l.at l.n l.p (l.n - l.counter)
