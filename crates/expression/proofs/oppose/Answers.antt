use mathlib.Core.Path.{sym, ◌∙◌}
use Rattle.std.proofs.lemmas.Result.{err_from_is_err_and}
use Rattle.expression.proofs.Operands.{then-fault, then-ok}
use Rattle.expression.proofs.oppose.Goals as goal

pub returns-in_err-b : goal.returns-in_err-b
returns-in_err-b c a p = let e = err_from_is_err_and c.from_residual.result c.from_residual.ensures.1 in
    rw (e.1, e.2) (then-fault _ a (sym c.in_err-b.was ∙ p))

pub returns : goal.returns
returns c a p = then-ok _ a (sym c.in_ok-b.was ∙ p)
