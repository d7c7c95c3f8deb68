use mathlib.Core.Path.{refl}
use native.Mathlib.Omega.{arith}
use Rattle.codec.specs.Padding.{pad}
use Rattle.start_read.proofs.StartTurns.{modes-start, modes-next, modes-stop, modes-end}
use Rattle.start_read.proofs.read_modes.Goals as goal

pub loop-i-init : goal.loop-i-init
unfolding pad
loop-i-init c = let a = c.args in modes-start a.s.now a.n a.counts.now

pub returns-then-from-counts : goal.returns-then-from-counts
returns-then-from-counts c = let a = c.args in
    let l = c.loop-i in
    modes-stop a.s.now a.n a.counts.now l.i l.invariant (omega arith) (omega arith) (omega arith)

pub loop-i-preserved : goal.loop-i-preserved
loop-i-preserved c = let a = c.args in
    let l = c.loop-i in
    modes-next a.s.now a.n a.counts.now l.i l.invariant (omega arith) (omega arith) (omega arith) _ refl

pub returns : goal.returns
returns c = let a = c.args in
    let l = c.loop-i in
    modes-end a.s.now a.n a.counts.now l.i l.invariant (omega arith) (omega arith)
