-- A leaf by its code, a range by its own function, and a byte that lies in no range is no code.
use mathlib.Core.Path.{sym, ap}
use native.Mathlib.Omega.{arith}
use Rattle.std.proofs.Common.{rules}
use Rattle.semantics.specs.Expressions.{form_of}
use Rattle.expression.proofs.Forms.{form-says, no-form}
use Rattle.expression.proofs.form_of.Goals as goal

pub returns-in-0-2 : goal.returns-in-0-2
returns-in-0-2 c = form-says (sym (no-form (λ e. omega arith) (λ e. omega arith) (λ h k. omega arith) (λ h k. omega arith)))

pub returns-in-0-3 : goal.returns-in-0-3
returns-in-0-3 c = form-says (sym (no-form (λ e. omega arith) (λ e. omega arith) (λ h k. omega arith) (λ h k. omega arith)))

pub returns-in-0-4 : goal.returns-in-0-4
returns-in-0-4 c = form-says (sym (no-form (λ e. omega arith) (λ e. omega arith) (λ h k. omega arith) (λ h k. omega arith)))

pub returns-in-1 : goal.returns-in-1
unfolding form_of
returns-in-1 c = form-says (sym (ap form_of c.in-1.is))

pub returns-in-2 : goal.returns-in-2
unfolding form_of
returns-in-2 c = form-says (sym (ap form_of c.in-2.is))

pub returns-in-16-to-20 : goal.returns-in-16-to-20
unfolding form_of
returns-in-16-to-20 c = search rules

pub returns-in-32-to-47 : goal.returns-in-32-to-47
unfolding form_of
returns-in-32-to-47 c = search rules

pub returns-in-0 : goal.returns-in-0
unfolding form_of
returns-in-0 c = form-says (sym (ap form_of c.in-0.in-0-own.keys3))
