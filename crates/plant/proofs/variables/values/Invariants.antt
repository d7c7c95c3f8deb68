-- The arrays have the variables before i, all of them in order; those left are read behind them (`Going`).
use Rattle.plant.proofs.VariableSection.{Going}
use Rattle.semantics.specs.Editions.{Edition}
use Rattle.plant.proofs.variables.values.Given as goal

abbrev pub invariant-loop-i : goal.invariant-loop-i
invariant-loop-i l = (ed : Edition) → Going ed l.s l.n l.i l.lows l.highs l.initials
