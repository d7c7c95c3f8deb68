use mathlib.Core.Path.{sym, ◌∙◌}
use native.Mathlib.Omega.{arith}
use Rattle.plant.proofs.Turns.{turns-false, turns-true}
use Rattle.plant.proofs.TruthTurns.{switch-low, switch-inside, switch-reads, switches-next}
use Rattle.plant.proofs.truths.Truths.of_switches.Goals as goal

pub bounds-s-p : goal.bounds-s-p
bounds-s-p c = omega (arith, switch-inside c.loop.invariant (omega arith))

pub slice_bounds-truth_reads-count : goal.slice_bounds-truth_reads-count
slice_bounds-truth_reads-count c = omega (arith, switch-low c.loop.invariant (omega arith), c.from.ensures)

pub slice_bounds-truth_reads-start : goal.slice_bounds-truth_reads-start
slice_bounds-truth_reads-start c = omega (arith, switch-low c.loop.invariant (omega arith), c.from.ensures)

pub slice_bounds-truth_reads-end : goal.slice_bounds-truth_reads-end
slice_bounds-truth_reads-end c = rw c.from.ensures (switch-inside c.loop.invariant (omega arith))

pub returns-then-not-truth_reads : goal.returns-then-not-truth_reads
returns-then-not-truth_reads c ed = let t = c.loop.invariant in
    turns-false t (omega arith) ed (sym (switch-reads t (omega arith) ed _ ((rw c.from.ensures at c.truth_reads.ensures) ed)) ∙ c.if-not-truth_reads.true)

pub loop-preserved : goal.loop-preserved
loop-preserved c = let t = c.loop.invariant in
    rw c.from.ensures (switches-next t (omega arith) (λ ed. sym (switch-reads t (omega arith) ed _ ((rw c.from.ensures at c.truth_reads.ensures) ed)) ∙ c.if-not-truth_reads.false))

pub returns : goal.returns
returns c = turns-true c.loop.invariant (omega arith)
