-- The first parts are read, and `whole` is what was read of them (`SoFar`).
use Rattle.plant.specs.Equations.{SoFar}
use Rattle.plant.proofs.equations.several.Given as goal

abbrev pub invariant-loop : goal.invariant-loop
invariant-loop g l = SoFar (λ p w. goal.F-post g l.one p w) l.at l.counter l.whole
