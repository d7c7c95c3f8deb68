-- The operands of the nodes before i fit (`Fitting`).
use Rattle.table_read.proofs.OperandTurns.{Fitting}
use Rattle.table_read.proofs.operands.read.Given as goal

abbrev pub invariant-loop-i : goal.invariant-loop-i
invariant-loop-i l = Fitting l.s l.fn.acts.kinds l.fn.acts.starts l.fn.acts.ends l.variables l.selectors l.modes l.i
