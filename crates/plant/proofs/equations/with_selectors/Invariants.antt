-- The selectors of the equations before are noted with their modes and places, and the equations left stand (`Noted`).
use Prim.Native.Nat.{◌-◌}
use Rattle.plant.specs.Equations.{SectionStands}
use Rattle.plant.proofs.EquationCases.{Noted}
use Rattle.plant.proofs.equations.with_selectors.Given as goal

abbrev pub invariant-loop : goal.invariant-loop
invariant-loop l = (t : SectionStands l.s) → Noted l.s t.equations l.selectors l.modes l.mode_offsets l.p (l.end - l.counter)
