use Rattle.plant.proofs.Walks.{equation-inside, choice-inside}
use Rattle.plant.proofs.EquationsOnce.{steady-there, steady-tried, choice-there, choice-tried}
use Rattle.plant.proofs.driven.equation.Goals as goal

pub bounds-s-0 : goal.bounds-s-0
bounds-s-0 c = equation-inside _ c.requires.there

pub rates-requires : goal.rates-requires
rates-requires c = steady-there _ c.requires c.if-s-eq1.true

pub returns-then-s-eq1 : goal.returns-then-s-eq1
returns-then-s-eq1 c = steady-tried _ _ c.if-s-eq1.true c.rates.ensures

pub bounds-s-2 : goal.bounds-s-2
bounds-s-2 c = choice-inside _ c.requires.there c.if-s-eq1.false

pub modes-requires : goal.modes-requires
modes-requires c = rw c.from.ensures (choice-there _ c.requires c.if-s-eq1.false)

pub returns : goal.returns
returns c = choice-tried _ _ c.if-s-eq1.false (rw c.from.ensures at c.modes.ensures)
