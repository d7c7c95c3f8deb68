-- The modes left are read from p, and the truths of all read where theirs do (`Turns`).
use Rattle.semantics.specs.Plant.{mode_reads}
use Rattle.semantics.specs.Sections.{read_mode}
use Rattle.plant.proofs.Turns.{Turns}
use Rattle.plant.proofs.truths.Truths.of_modes.Given as goal

abbrev pub invariant-loop : goal.invariant-loop
invariant-loop l = Turns read_mode (λ ed. mode_reads ed l.self.variables) l.s l.at l.n l.p l.counter
