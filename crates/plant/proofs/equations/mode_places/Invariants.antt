-- The places so far are noted, and noting those of the modes left makes the whole (`Noting`).
use Prim.Native.Nat.{◌+◌, ◌-◌}
use Rattle.semantics.specs.Sections.{read_mode}
use Rattle.semantics.specs.Writing.{write_mode}
use Rattle.plant.proofs.EquationIndex.{Noting}
use Rattle.plant.proofs.equations.mode_places.Given as goal

abbrev pub invariant-loop-m : goal.invariant-loop-m
invariant-loop-m l = Noting read_mode write_mode l.s l.at l.n l.from l.initial.places l.places l.p (l.from + l.m) (l.n - l.m)
