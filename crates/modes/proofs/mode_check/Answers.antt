use mathlib.Core.Path.{ap, ◌∙◌}
use Prim.Native.Nat.{◌-◌, ◌<◌}
use native.Mathlib.Nat.{sub-zero}
use native.Mathlib.Omega.{arith}
use lib.ListN.{get_or}
use Rattle.paper.specs.declared.answers.TurnedAway.TheVariants.{SwitchTrue}
use Rattle.effects.specs.declared.Untaken.TheVariants as Code
use Rattle.effects.specs.PaperNumbers.{Away, Stay}
use Rattle.effects.specs.Verdicts.{step_verdict}
use Rattle.effects.specs.Told.{told_step}
use Rattle.effects.proofs.Told.{err_is, stops, stay-goes_on}
use Rattle.modes.proofs.Standing.{parts, switch-bytes}
use Rattle.modes.proofs.Walks.{asked_true, asked_false, walk_start, walk_here, walk-stops, walk-next, walk_end, check-one}
use Rattle.modes.proofs.mode_check.Goals as goal

pub bounds-es-count : goal.bounds-es-count
bounds-es-count c = omega (arith, (parts c.requires).room, c.switches_at-count.ensures)

pub loop-init : goal.loop-init
loop-init c = rw sub-zero (walk_start 28 _ c.requires _ c.switches_at-count.ensures)

pub truth-requires : goal.truth-requires
truth-requires c = walk_here c.loop.invariant (omega arith)

pub returns-in_err-truth : goal.returns-in_err-truth
returns-in_err-truth c ed = ap told_step (err_is _ _ c.from_residual.ensures.1)
    ∙ walk-stops c.loop.invariant (omega arith) (c.in_err-truth.ensures (Away 28) Stay) ed (stops _)
    ∙ ap step_verdict (check-one ed _ _)

pub returns-then-branch : goal.returns-then-branch
returns-then-branch c ed = walk-stops c.loop.invariant (omega arith) (asked_true c.if-branch.true (c.in_ok-truth.ensures (Away 28) Stay)) ed (stops (Code.Away SwitchTrue))
    ∙ ap step_verdict (check-one ed _ _)

pub bounds-es-p : goal.bounds-es-p
bounds-es-p c = let h : 0 < get_or c.args.es.now c.switches_at-count.result 0 - c.loop.counter = omega arith in
    let x = switch-bytes (walk_here c.loop.invariant h).stands in omega (arith, x.long, x.inside)

pub loop-preserved : goal.loop-preserved
loop-preserved c = walk-next c.loop.invariant (omega arith) (asked_false c.if-branch.false (c.in_ok-truth.ensures (Away 28) Stay)) (omega arith) c.from.ensures stay-goes_on

pub returns : goal.returns
returns c ed = walk_end c.loop.invariant ed (omega arith) ∙ ap step_verdict (check-one ed _ _)
