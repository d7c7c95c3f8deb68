-- The equations left are read from p, and the truths of all read where theirs do (`Turns`).
use lib.ListN.{get_or}
use Rattle.semantics.specs.Sections.{read_equation}
use Rattle.semantics.specs.Plant.{equation_reads}
use Rattle.plant.proofs.Turns.{Turns}
use Rattle.plant.proofs.truths.read.Given as goal

abbrev pub invariant-loop : goal.invariant-loop
invariant-loop l = Turns read_equation (λ ed. equation_reads ed l.variables) l.s 1 (get_or l.s 0 0) l.p l.counter
