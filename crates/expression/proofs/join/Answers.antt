-- The first fault, or what is made of both values.
use mathlib.Core.Path.{sym, ap, ◌∙◌}
use Rattle.std.specs.Prelude.{Ok}
use Rattle.std.proofs.lemmas.Result.{err_from_is_err_and}
use Rattle.semantics.specs.Expressions.{connected}
use Rattle.expression.specs.Forms.{connective_is}
use Rattle.expression.proofs.Operands.{left-fault, right-fault, both-ok}
use Rattle.expression.proofs.join.Goals as goal

pub returns-in_err-l : goal.returns-in_err-l
returns-in_err-l c a b p q = let e = err_from_is_err_and c.from_residual.result c.from_residual.ensures.1 in
    rw (e.1, e.2) (left-fault (connected (connective_is c.args.o)) a b (sym c.in_err-l.was ∙ p))

pub returns-in_err-r : goal.returns-in_err-r
returns-in_err-r c a b p q = let e = err_from_is_err_and c.from_residual-in_err-r.result c.from_residual-in_err-r.ensures.1 in
    rw (e.1, e.2) (right-fault (connected (connective_is c.args.o)) a b (sym c.in_ok-l.was ∙ p) (sym c.in_err-r.was ∙ q))

pub returns : goal.returns
returns c a b p q = ap (λ t. Ok t) c.connect.ensures ∙ both-ok (connected (connective_is c.args.o)) a b (sym c.in_ok-l.was ∙ p) (sym c.in_ok-r.was ∙ q)
