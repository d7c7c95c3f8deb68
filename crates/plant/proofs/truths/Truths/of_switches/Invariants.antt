-- The switches left are read from p, and the truths of all read where theirs do (`Turns`).
use Rattle.semantics.specs.Sections.{read_switch}
use Rattle.semantics.specs.Plant.{switch_reads}
use Rattle.plant.proofs.Turns.{Turns}
use Rattle.plant.proofs.truths.Truths.of_switches.Given as goal

abbrev pub invariant-loop : goal.invariant-loop
invariant-loop l = Turns read_switch (λ ed. switch_reads ed l.self.variables) l.s l.at l.k l.p l.counter
