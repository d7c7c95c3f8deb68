-- The first i values are stored, and whether all fit is left to the others (`Valued`).
use Rattle.start_read.proofs.StartTurns.{Valued}
use Rattle.start_read.proofs.read_values.Given as goal

abbrev pub invariant-loop-i : goal.invariant-loop-i
invariant-loop-i l = Valued l.s l.n l.lows l.highs l.i l.values
