-- Two comparisons of leaves, joined.
use mathlib.Core.Path.{sym, ◌∙◌}
use native.Mathlib.Omega.{arith}
use Rattle.semantics.specs.Expressions.{truth_in}
use Rattle.expression.specs.Forms.{connective_is}
use Rattle.expression.proofs.Forms.{form-told}
use Rattle.expression.proofs.TwoLeaves.{two-joined}
use Rattle.expression.proofs.Wholes.{of_all, some-is}
use Rattle.expression.proofs.joining.Goals as goal

pub returns-then-n-s : goal.returns-then-n-s
unfolding truth_in
returns-then-n-s c ed b e = let s = c.args in
    let l = c.compared_at.ensures ed _ _ c.in_ok-a.was in
    let r = c.compared_at-2.ensures ed _ _ c.in_ok-b.was in
    of_all (two-joined ed s.vars.now s.s.now 0 16 (λ e. omega arith) (omega arith) (connective_is c.in-Connective.o) (form-told c.form_of.ensures c.in-Connective.is) l r
    (sym (some-is e) ∙ c.connect.ensures)) c.if-n-s.true
