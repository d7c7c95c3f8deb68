-- The first fault, or what is made of both values.
use mathlib.Core.Path.{sym, ap₂, ◌∙◌}
use Rattle.std.proofs.Common.{rules}
use lib.IntN.{ℤ}
use mir.Syntax.{w32}
use mir.ValLaws.{to_z-of_z}
use Rattle.std.proofs.lemmas.Result.{err_from_is_err_and}
use Rattle.semantics.specs.Expressions.{operands, applied, result}
use Rattle.expression.specs.Evaluation.{said}
use Rattle.expression.specs.Forms.{operation_is}
use Rattle.expression.proofs.Operands.{then-fault, then-ok, left-fault, right-fault, both-ok}
use Rattle.expression.proofs.operate.Goals as goal

pub returns-in_err-l : goal.returns-in_err-l
returns-in_err-l c a b p q = let e = err_from_is_err_and c.from_residual.result c.from_residual.ensures.1 in
    rw (e.1, e.2) (then-fault result (operands (applied (operation_is c.args.o)) a b) (left-fault (applied (operation_is c.args.o)) a b (sym c.in_err-l.was ∙ p)))

pub returns-in_err-r : goal.returns-in_err-r
returns-in_err-r c a b p q = let e = err_from_is_err_and c.from_residual-in_err-r.result c.from_residual-in_err-r.ensures.1 in
    rw (e.1, e.2) (then-fault result (operands (applied (operation_is c.args.o)) a b) (right-fault (applied (operation_is c.args.o)) a b (sym c.in_ok-l.was ∙ p) (sym c.in_err-r.was ∙ q)))

pub returns : goal.returns
returns c a b p q = let x = to_z-of_z w32 c.in_ok-l.field-0 (search rules) in
    let y = to_z-of_z w32 c.in_ok-r.field-0 (search rules) in
    c.arithmetic.ensures ∙ ap₂ (λ (v w : ℤ). said (result (applied (operation_is c.args.o) v w))) x y
    ∙ then-ok result _ (both-ok (applied (operation_is c.args.o)) a b (sym c.in_ok-l.was ∙ p) (sym c.in_ok-r.was ∙ q))
