use native.Mathlib.Omega.{arith}
use Rattle.schedule_read.proofs.NodeActions.{kinds-start, kinds-next, kinds-end}
use Rattle.schedule_read.proofs.actions.kinds.Goals as goal

pub loop-i-init : goal.loop-i-init
loop-i-init c = kinds-start c.args.kinds.now

pub loop-i-preserved : goal.loop-i-preserved
loop-i-preserved c = kinds-next _ _ (omega arith) c.loop-i.invariant c.kind.ensures

pub returns : goal.returns
returns c = kinds-end _ c.loop-i.i _ (omega arith) c.loop-i.invariant
