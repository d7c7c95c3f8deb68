use native.Mathlib.Nat.{sub-zero}
use native.Mathlib.Omega.{arith}
use Rattle.modes.proofs.Standing.{switch-bytes}
use Rattle.modes.proofs.Walks.{seek-start, seek-here, seek-next, seek-end}
use Rattle.modes.proofs.switch_at.Goals as goal

pub loop-init : goal.loop-init
loop-init c = rw sub-zero (seek-start c.requires.0 _ _ c.requires.1 c.requires.2)

pub bounds-es-p : goal.bounds-es-p
bounds-es-p c = let x = switch-bytes (seek-here c.loop.invariant).stands in omega (arith, x.long, x.inside)

pub overflow_add-p-in-loop-2 : goal.overflow_add-p-in-loop-2
overflow_add-p-in-loop-2 c = let x = switch-bytes (seek-here c.loop.invariant).stands in omega (arith, x.long, x.inside)

pub loop-preserved : goal.loop-preserved
loop-preserved c = seek-next c.loop.invariant (omega arith) (omega arith) c.from.ensures

pub returns : goal.returns
returns c = seek-end c.loop.invariant (omega arith)
