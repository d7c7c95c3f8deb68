use mathlib.Core.Path.{sym, ◌∙◌}
use native.Mathlib.Omega.{arith}
use Rattle.plant.proofs.Turns.{turns-false, turns-true}
use Rattle.plant.proofs.TruthTurns.{mode-before, mode-between, mode-there, mode-switches, mode-reads, modes-next}
use Rattle.plant.proofs.truths.Truths.of_modes.Goals as goal

pub bounds-s-p : goal.bounds-s-p
bounds-s-p c = mode-before c.loop.invariant (omega arith)

pub bounds-s-q : goal.bounds-s-q
bounds-s-q c = rw c.from.ensures (mode-between c.loop.invariant (omega arith))

pub of_switches-requires : goal.of_switches-requires
of_switches-requires c = rw (c.from-in-loop.ensures, c.from.ensures) (mode-switches c.loop.invariant (omega arith))

pub returns-then-not-of_switches : goal.returns-then-not-of_switches
returns-then-not-of_switches c ed = let t = c.loop.invariant in
    turns-false t (omega arith) ed (sym (mode-reads t (omega arith) ed _ ((rw (c.from-in-loop.ensures, c.from.ensures) at c.of_switches.ensures) ed)) ∙ c.if-not-of_switches.true)

pub mode_end-p-requires : goal.mode_end-p-requires
mode_end-p-requires c = mode-there c.loop.invariant (omega arith)

pub loop-preserved : goal.loop-preserved
loop-preserved c = let t = c.loop.invariant in
    modes-next t (omega arith) (λ ed. sym (mode-reads t (omega arith) ed _ ((rw (c.from-in-loop.ensures, c.from.ensures) at c.of_switches.ensures) ed)) ∙ c.if-not-of_switches.false) _ c.mode_end-p.ensures

pub returns : goal.returns
returns c = turns-true c.loop.invariant (omega arith)
