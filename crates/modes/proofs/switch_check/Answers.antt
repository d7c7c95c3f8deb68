use mathlib.Core.Path.{sym, ap, ◌∙◌}
use Rattle.effects.specs.Verdicts.{step_verdict}
use Rattle.effects.specs.Told.{told_step}
use Rattle.effects.proofs.Told.{err_is, stops, stay-goes_on}
use Rattle.modes.proofs.Walks.{check-stops, check-next, check-end}
use Rattle.modes.proofs.switch_check.Goals as goal

pub returns-in_err-mode_check : goal.returns-in_err-mode_check
returns-in_err-mode_check c ed = ap told_step (err_is _ _ c.from_residual.ensures.1)
    ∙ check-stops ed _ _ _ _ c.loop-j.j c.loop-j-test.true c.mode_place.ensures (c.in_err-mode_check.ensures ed) (stops _)
    ∙ sym (ap step_verdict (c.loop-j.invariant ed))

pub loop-j-preserved : goal.loop-j-preserved
loop-j-preserved c ed = c.loop-j.invariant ed ∙ check-next ed _ _ _ _ c.loop-j.j c.loop-j-test.true c.mode_place.ensures (c.in_ok-mode_check.ensures ed) stay-goes_on

pub returns : goal.returns
returns c ed = check-end ed _ _ _ _ c.loop-j.j c.loop-j-test.false ∙ sym (ap step_verdict (c.loop-j.invariant ed))
