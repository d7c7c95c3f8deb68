-- Each event is its own function's.
use mathlib.Core.Path.{refl, ap}
use Rattle.effects.specs.Told.{told}
use Rattle.effects.proofs.Told.{err_is}
use Rattle.execution.proofs.Lending.{is_current}
use Rattle.execution.proofs.Events.{left-told, moved-as, switch-left, senseless-left, event-left}
use Rattle.execution.proofs.judge.Goals as goal

pub returns-in_err-tick-in-Tick : goal.returns-in_err-tick-in-Tick
returns-in_err-tick-in-Tick c = λ p f q. event-left _ _ _ _ _ _ _ q c.in-Tick.is (left-told _ _ (ap told (err_is _ _ c.from_residual.ensures.1)) (c.in_err-tick-in-Tick.ensures p f q))

pub returns-in_ok-tick-in-Tick : goal.returns-in_ok-tick-in-Tick
returns-in_ok-tick-in-Tick c = λ p f q. event-left _ _ _ _ _ _ _ q c.in-Tick.is (c.in_ok-tick-in-Tick.ensures p f q)

pub returns-in_err-outcome-in-Pick : goal.returns-in_err-outcome-in-Pick
returns-in_err-outcome-in-Pick c = λ p f q. event-left _ _ _ _ _ _ _ q c.in-Pick.is (left-told _ _ (ap told (err_is _ _ c.from_residual-in_err-outcome-in-Pick.ensures.1)) (c.in_err-outcome-in-Pick.ensures _ p f q))

pub returns-in_ok-outcome-in-Pick : goal.returns-in_ok-outcome-in-Pick
returns-in_ok-outcome-in-Pick c = λ p f q. event-left _ _ _ _ _ _ _ q c.in-Pick.is (left-told _ _ (moved-as _ _) (c.in_ok-outcome-in-Pick.ensures _ p f q))

pub take_switch-requires : goal.take_switch-requires
take_switch-requires c = let r = c.requires.ready in is_current _ _ r.plant _ _ r.fits

pub returns-in_err-take_switch-in-Switch : goal.returns-in_err-take_switch-in-Switch
returns-in_err-take_switch-in-Switch c = λ p f q. event-left _ _ _ _ _ _ _ q c.in-Switch.is (left-told _ _ (ap told (err_is _ _ c.from_residual-in_err-take_switch-in-Switch.ensures.1)) (switch-left _ _ _ _ _ _ _ q _ _ c.in_err-take_switch-in-Switch.ensures))

pub returns-in_ok-take_switch-in-Switch : goal.returns-in_ok-take_switch-in-Switch
returns-in_ok-take_switch-in-Switch c = λ p f q. event-left _ _ _ _ _ _ _ q c.in-Switch.is (switch-left _ _ _ _ _ _ _ q _ _ c.in_ok-take_switch-in-Switch.ensures)

pub returns-in-Senseless : goal.returns-in-Senseless
returns-in-Senseless c = λ p f q. event-left _ _ _ _ _ _ _ q c.in-Senseless.is (senseless-left _ _ _ _ _ _ _ q refl)
