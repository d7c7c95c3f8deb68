-- The first fault, or what is made of both values.
use mathlib.Core.Path.{sym, ap, ap₂, ◌∙◌}
use Rattle.std.proofs.Common.{rules}
use lib.IntN.{ℤ}
use mir.Syntax.{w32}
use mir.ValLaws.{to_z-of_z}
use Rattle.std.specs.Prelude.{Ok}
use Rattle.std.proofs.lemmas.Result.{err_from_is_err_and}
use Rattle.semantics.specs.Expressions.{compared}
use Rattle.expression.specs.Forms.{comparison_is}
use Rattle.expression.proofs.Operands.{left-fault, right-fault, both-ok}
use Rattle.expression.proofs.relate.Goals as goal

pub returns-in_err-l : goal.returns-in_err-l
returns-in_err-l c a b p q = let e = err_from_is_err_and c.from_residual.result c.from_residual.ensures.1 in
    rw (e.1, e.2) (left-fault (compared (comparison_is c.args.o)) a b (sym c.in_err-l.was ∙ p))

pub returns-in_err-r : goal.returns-in_err-r
returns-in_err-r c a b p q = let e = err_from_is_err_and c.from_residual-in_err-r.result c.from_residual-in_err-r.ensures.1 in
    rw (e.1, e.2) (right-fault (compared (comparison_is c.args.o)) a b (sym c.in_ok-l.was ∙ p) (sym c.in_err-r.was ∙ q))

pub returns : goal.returns
returns c a b p q = let x = to_z-of_z w32 c.in_ok-l.field-0 (search rules) in
    let y = to_z-of_z w32 c.in_ok-r.field-0 (search rules) in
    ap (λ t. Ok t) (c.compare.ensures ∙ ap₂ (λ (v w : ℤ). compared (comparison_is c.args.o) v w) x y)
    ∙ both-ok (compared (comparison_is c.args.o)) a b (sym c.in_ok-l.was ∙ p) (sym c.in_ok-r.was ∙ q)
