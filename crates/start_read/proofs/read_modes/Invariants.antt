-- The first i modes are stored, and whether all fit is left to the others (`Moded`).
use Rattle.start_read.proofs.StartTurns.{Moded}
use Rattle.start_read.proofs.read_modes.Given as goal

abbrev pub invariant-loop-i : goal.invariant-loop-i
invariant-loop-i l = Moded l.s l.n l.counts l.i l.modes
