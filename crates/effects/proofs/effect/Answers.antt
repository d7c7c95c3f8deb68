-- Each kind by its law of Acts; what a kind 3 or 4 names exists by the action that is promised.
use mathlib.Core.Path.{sym, ap, ◌∙◌}
use mathlib.Core.Bool.{true, false}
use Rattle.std.specs.Prelude.{Ok}
use Rattle.effects.specs.PaperNumbers.{Away, Move}
use Rattle.effects.specs.Told.{told_truth, told_pick}
use Rattle.effects.proofs.Told.{err_is}
use Rattle.effects.proofs.Acts.{tests, waits, assigns, switches, others, assign-named, switch-named}
use native.Mathlib.Omega.{arith}
use Rattle.effects.proofs.effect.Goals as goal

pub returns-in-1 : goal.returns-in-1
returns-in-1 c n = tests _ _ _ n _ _ c.in-1.is (λ ed. c.ask.ensures ed (Move n true) (Move n false))

pub returns-in_err-ask-in-2 : goal.returns-in_err-ask-in-2
returns-in_err-ask-in-2 c n = waits _ _ _ n _ _ c.in-2.is (λ ed. ap (told_pick n) (err_is _ _ c.from_residual.ensures.1) ∙ c.in_err-ask-in-2.ensures ed (Move n true) (Away 29))

pub returns-then-not-branch : goal.returns-then-not-branch
returns-then-not-branch c n = waits _ _ _ n _ _ c.in-2.is (λ ed. ap (λ b. told_truth (Move n true) (Away 29) (Ok b)) (sym c.if-not-branch.true) ∙ c.in_ok-ask-in-2.ensures ed (Move n true) (Away 29))

pub returns-else-not-branch : goal.returns-else-not-branch
returns-else-not-branch c n = waits _ _ _ n _ _ c.in-2.is (λ ed. ap (λ b. told_truth (Move n true) (Away 29) (Ok b)) (sym c.if-not-branch.false) ∙ c.in_ok-ask-in-2.ensures ed (Move n true) (Away 29))

pub assign-requires : goal.assign-requires
assign-requires c = let p = c.requires in let f = assign-named p.0 c.in-3.is in (f.long, f.known, p.1)

pub returns-in_err-assign-in-3 : goal.returns-in_err-assign-in-3
returns-in_err-assign-in-3 c n = rw (err_is _ _ c.from_residual-in_err-assign-in-3.ensures.1) (assigns _ _ _ n _ _ c.in-3.is (c.in_err-assign-in-3.ensures (Move n true)))

pub returns-in_ok-assign-in-3 : goal.returns-in_ok-assign-in-3
returns-in_ok-assign-in-3 c n = assigns _ _ _ n _ _ c.in-3.is (c.in_ok-assign-in-3.ensures (Move n true))

pub bounds-t-0 : goal.bounds-t-0
bounds-t-0 c = let f = switch-named c.requires.0 c.in-4.is in omega (arith, f.long)

pub bounds-t-1 : goal.bounds-t-1
bounds-t-1 c = let f = switch-named c.requires.0 c.in-4.is in omega (arith, f.long)

pub bounds-modes-s : goal.bounds-modes-s
bounds-modes-s c = let f = switch-named c.requires.0 c.in-4.is in omega (arith, f.known)

pub returns-in-4 : goal.returns-in-4
returns-in-4 c n = rw c.from-s.ensures (switches _ _ _ n _ _ c.in-4.is)

pub returns-in_default : goal.returns-in_default
returns-in_default c n = let r = c.in_default.in_default-own.rest in others _ _ _ n _ _ r.0.0.0.1 r.0.0.1 r.0.1 r.1
