-- The stages of a tick, each by its law of Events.
use mathlib.Core.Path.{sym, ap, ◌∙◌}
use Rattle.effects.specs.Told.{told_step}
use Rattle.effects.proofs.Told.{err_is, stops, stay-goes_on}
use Rattle.execution.proofs.Lending.{is_current, is-driving, is-sized}
use Rattle.execution.proofs.Events.{few-acting, cut-acting, kinds-of, left-told, tick-27, tick-28, tick-31, tick-end}
use Rattle.execution.proofs.tick.Goals as goal

pub all_wait-requires : goal.all_wait-requires
all_wait-requires c = let p = c.requires in record { few = few-acting _ _ _ _ _ _ _ p.ready; known = (p.action, kinds-of _ _ _ _ _ _ _ p.ready) }

pub returns-then-not-all_wait : goal.returns-then-not-all_wait
returns-then-not-all_wait c = λ p f q. tick-27 _ _ _ _ _ _ _ q (sym (c.all_wait.ensures f (kinds-of _ _ _ _ _ _ _ q)) ∙ c.if-not-all_wait.true)

pub switch_check-requires : goal.switch_check-requires
switch_check-requires c = let r = c.requires.ready in is_current _ _ r.plant _ _ r.fits

pub returns-in_err-switch_check : goal.returns-in_err-switch_check
returns-in_err-switch_check c = λ p f q. left-told _ _ (ap told_step (err_is _ _ c.from_residual.ensures.1))
    (tick-28 _ _ _ _ _ _ _ q (sym (c.all_wait.ensures f (kinds-of _ _ _ _ _ _ _ q)) ∙ c.if-not-all_wait.false) _ (c.in_err-switch_check.ensures _) (stops _))

pub all_still-requires : goal.all_still-requires
all_still-requires c = let r = c.requires.ready in record { few = few-acting _ _ _ _ _ _ _ r; cut = cut-acting _ _ _ _ _ _ _ r }

pub returns-in_err-all_still : goal.returns-in_err-all_still
returns-in_err-all_still c = λ p f q. left-told _ _ (ap told_step (err_is _ _ c.from_residual-in_err-all_still.ensures.1))
    (tick-31 _ _ _ _ _ _ _ q (sym (c.all_wait.ensures f (kinds-of _ _ _ _ _ _ _ q)) ∙ c.if-not-all_wait.false) _ (c.in_ok-switch_check.ensures _) stay-goes_on _ c.in_err-all_still.ensures (stops _))

pub rates_now-rates-requires : goal.rates_now-rates-requires
rates_now-rates-requires c = let r = c.requires.ready in (is_current _ _ r.plant _ _ r.fits, is-driving _ _ r.plant _ _ r.fits)

pub advance-requires : goal.advance-requires
advance-requires c = let r = c.requires.ready in
    is-sized _ _ r.plant _ _ r.fits _ c.rates_now-rates.ensures

pub returns : goal.returns
returns c = λ p f q. tick-end _ _ _ _ _ _ _ q (sym (c.all_wait.ensures f (kinds-of _ _ _ _ _ _ _ q)) ∙ c.if-not-all_wait.false) _ (c.in_ok-switch_check.ensures _) stay-goes_on _
    c.in_ok-all_still.ensures stay-goes_on _ c.rates_now-rates.ensures c.advance.ensures
