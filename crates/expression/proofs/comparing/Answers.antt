-- Two leaves, compared.
use Rattle.std.proofs.Common.{rules}
use mathlib.Core.Path.{sym, ap₂, ◌∙◌}
use native.Mathlib.Omega.{arith}
use lib.IntN.{ℤ}
use mir.Syntax.{w32}
use mir.ValLaws.{to_z-of_z}
use Rattle.semantics.specs.Expressions.{compared, truth_in}
use Rattle.expression.specs.Forms.{comparison_is}
use Rattle.expression.proofs.Forms.{form-told}
use Rattle.expression.proofs.TwoLeaves.{two-compared}
use Rattle.expression.proofs.Wholes.{of_all, some-is}
use Rattle.expression.proofs.comparing.Goals as goal

pub returns-then-n-s : goal.returns-then-n-s
unfolding truth_in
returns-then-n-s c ed b e = let s = c.args in
    let l = c.leaf.ensures _ _ c.in_ok-a.was ed 15 (λ e. omega arith) in
    let r = c.leaf-2.ensures _ _ c.in_ok-b.was ed 15 (λ e. omega arith) in
    let x = to_z-of_z w32 c.in_ok-a.a (search rules) in
    let y = to_z-of_z w32 c.in_ok-b.b (search rules) in
    of_all (two-compared ed s.vars.now s.s.now 0 16 (λ e. omega arith) (omega arith) (comparison_is c.in-Comparison.o) (form-told c.form_of.ensures c.in-Comparison.is) l r
    (sym (some-is e) ∙ c.compare.ensures ∙ ap₂ (λ (v w : ℤ). compared (comparison_is c.in-Comparison.o) v w) x y)) c.if-n-s.true
