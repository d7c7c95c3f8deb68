use Rattle.plant.proofs.Walks.{equation-inside, choice-inside, choice-sound}
use Rattle.plant.proofs.TruthTurns.{steady-reads, choice-reads}
use Rattle.plant.proofs.truths.Truths.of_equation.Goals as goal

pub bounds-s-0 : goal.bounds-s-0
bounds-s-0 c = equation-inside _ c.requires

pub returns-then-s-eq1 : goal.returns-then-s-eq1
returns-then-s-eq1 c ed = steady-reads ed _ _ c.if-s-eq1.true

pub bounds-s-2 : goal.bounds-s-2
bounds-s-2 c = choice-inside _ c.requires c.if-s-eq1.false

pub of_modes-requires : goal.of_modes-requires
of_modes-requires c = rw c.from.ensures (choice-sound _ c.requires c.if-s-eq1.false)

pub returns : goal.returns
returns c ed = choice-reads ed _ _ c.if-s-eq1.false ((rw c.from.ensures at c.of_modes.ensures) ed)
