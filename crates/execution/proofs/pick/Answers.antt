-- Node n acts, so that its operand is lent; then the laws of a pick.
use mathlib.Core.Path.{sym, ap, ◌∙◌}
use native.Mathlib.Omega.{arith}
use Rattle.effects.specs.Told.{told_pick}
use Rattle.effects.proofs.Told.{err_is, stops, stay-goes_on}
use Rattle.execution.proofs.Lending.{is_current, few-values}
use Rattle.execution.proofs.Events.{left-told, pick-25, pick-28, pick_end, pick-performs}
use Rattle.execution.proofs.pick.Goals as goal

pub returns-then-not-has : goal.returns-then-not-has
returns-then-not-has c = λ ed p f q. pick-25 _ _ _ _ _ _ _ q _ (sym c.has.ensures ∙ c.if-not-has.true)

pub switch_check-requires : goal.switch_check-requires
switch_check-requires c = let r = c.requires.1.ready in is_current _ _ r.plant _ _ r.fits

pub returns-in_err-switch_check : goal.returns-in_err-switch_check
returns-in_err-switch_check c = λ ed p f q. left-told _ _ (ap (told_pick c.args.n) (err_is _ _ c.from_residual.ensures.1))
    (pick-28 _ _ _ _ _ _ _ q _ (sym c.has.ensures ∙ c.if-not-has.false) _ (c.in_err-switch_check.ensures _) (stops _))

pub kind-requires : goal.kind-requires
kind-requires c = omega (arith, (c.requires.1.ready.nodes c.args.n (sym c.has.ensures ∙ c.if-not-has.false)).below, c.requires.0.entries_fit)

pub operand-requires : goal.operand-requires
operand-requires c = let x = c.requires.1.ready.nodes c.args.n (sym c.has.ensures ∙ c.if-not-has.false) in (omega (arith, x.below, c.requires.0.entries_fit), x.cut)

pub effect-requires : goal.effect-requires
effect-requires c = let r = c.requires.1.ready in
    (pick-performs _ _ _ _ _ _ _ r _ (sym c.has.ensures ∙ c.if-not-has.false) (record { kind = c.kind.ensures; operand = c.operand.ensures }), few-values _ _ r.plant _ _ r.fits)

pub returns : goal.returns
returns c = λ ed p f q. pick_end _ _ _ _ _ _ _ q _ (sym c.has.ensures ∙ c.if-not-has.false) _ (c.in_ok-switch_check.ensures _) stay-goes_on
    (record { kind = c.kind.ensures; operand = c.operand.ensures }) (c.effect.ensures _)
