-- Two leaves, compared, one level below the top.
use Rattle.std.proofs.Common.{rules}
use mathlib.Core.Path.{ap, ap₂, ◌∙◌}
use native.Mathlib.Omega.{arith}
use lib.IntN.{ℤ}
use mir.Syntax.{w32}
use mir.ValLaws.{to_z-of_z}
use Rattle.semantics.specs.Expressions.{compared}
use Rattle.expression.specs.Evaluation.{known, finds_at}
use Rattle.expression.specs.Forms.{comparison_is}
use Rattle.expression.proofs.Forms.{form-told}
use Rattle.expression.proofs.TwoLeaves.{two-compared}
use Rattle.expression.proofs.Wholes.{found}
use Rattle.expression.proofs.compared_at.Goals as goal

pub returns : goal.returns
returns c ed b n e = let s = c.args in
    let l = c.leaf.ensures _ _ c.in_ok-a.was ed 14 (λ e. omega arith) in
    let r = c.leaf-2.ensures _ _ c.in_ok-b.was ed 14 (λ e. omega arith) in
    let x = to_z-of_z w32 c.in_ok-a.a (search rules) in
    let y = to_z-of_z w32 c.in_ok-b.b (search rules) in
    found (finds_at (two-compared ed s.vars.now s.s.now s.at 15 (λ e. omega arith) (omega arith) (comparison_is c.in-Comparison.o) (form-told c.form_of.ensures c.in-Comparison.is) l r
    (c.compare.ensures ∙ ap₂ (λ (v w : ℤ). compared (comparison_is c.in-Comparison.o) v w) x y))) (ap known e)
