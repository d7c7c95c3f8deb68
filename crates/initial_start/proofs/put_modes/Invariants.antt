-- The loop of Modes: the initial modes of the equations before a place are written.
use mathlib.Core.Path.{◌≡◌}
use Prim.Native.Nat.{◌-◌}
use lib.ListN.{length}
use Rattle.plant.specs.Equations.{SectionStands}
use Rattle.initial_start.proofs.Modes.{Written}
use Rattle.initial_start.proofs.put_modes.Given as goal

abbrev pub invariant-loop : goal.invariant-loop
invariant-loop l = (length l.d ≡ length l.initial.d) × ((t : SectionStands l.es) → Written l.es t.equations l.initial.d l.i l.d l.at l.p (l.end - l.counter))
