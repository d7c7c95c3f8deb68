-- The numbers of the first i nodes are written, and the others are 0.
use Rattle.schedule_read.specs.Actions.{ActionKinds}
use Rattle.schedule_read.proofs.actions.kinds.Given as goal

abbrev pub invariant-loop-i : goal.invariant-loop-i
invariant-loop-i l = ActionKinds l.kinds l.i l.acts
