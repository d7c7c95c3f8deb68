use mathlib.Core.Path.{sym, ap, ◌∙◌}
use Rattle.std.proofs.lemmas.Result.{err_from_is_err_and}
use Rattle.std.proofs.Common.{rules}
use lib.IntN.{ℤ, neg_ℤ}
use mir.Syntax.{w32}
use mir.ValLaws.{to_z-of_z}
use Rattle.expression.specs.Evaluation.{said}
use Rattle.semantics.specs.Expressions.{result}
use Rattle.expression.proofs.Operands.{then-fault, then-ok}
use Rattle.expression.proofs.negate.Goals as goal

pub returns-in_err-z : goal.returns-in_err-z
returns-in_err-z c a p = let e = err_from_is_err_and c.from_residual.result c.from_residual.ensures.1 in
    rw (e.1, e.2) (then-fault _ a (sym c.in_err-z.was ∙ p))

pub returns : goal.returns
returns c a p = c.negative.ensures ∙ ap (λ (v : ℤ). said (result (neg_ℤ v))) (to_z-of_z w32 c.in_ok-z.field-0 (search rules)) ∙ then-ok (λ v. result (neg_ℤ v)) a (sym c.in_ok-z.was ∙ p)
