-- Two leaves, with an operation.
use Rattle.std.proofs.Common.{rules}
use mathlib.Core.Path.{sym, ap₂, ◌∙◌}
use native.Mathlib.Omega.{arith}
use lib.IntN.{ℤ}
use mir.Syntax.{w32}
use mir.ValLaws.{to_z-of_z}
use Rattle.semantics.specs.Expressions.{applied, result, number_in}
use Rattle.expression.specs.Evaluation.{said}
use Rattle.expression.specs.Forms.{operation_is}
use Rattle.expression.proofs.Forms.{form-told}
use Rattle.expression.proofs.TwoLeaves.{two-operated}
use Rattle.expression.proofs.Wholes.{of_all, some-is}
use Rattle.expression.proofs.operating.Goals as goal

pub returns-then-n-s : goal.returns-then-n-s
unfolding number_in
returns-then-n-s c ed v e = let s = c.args in
    let l = c.leaf.ensures _ _ c.in_ok-a.was ed 15 (λ e. omega arith) in
    let r = c.leaf-2.ensures _ _ c.in_ok-b.was ed 15 (λ e. omega arith) in
    let x = to_z-of_z w32 c.in_ok-a.a (search rules) in
    let y = to_z-of_z w32 c.in_ok-b.b (search rules) in
    of_all (two-operated ed s.vars.now s.s.now 0 16 (λ e. omega arith) (omega arith) (operation_is c.in-Operation.o) (form-told c.form_of.ensures c.in-Operation.is) l r
    (sym (some-is e) ∙ c.arithmetic.ensures ∙ ap₂ (λ (v w : ℤ). said (result (applied (operation_is c.in-Operation.o) v w))) x y)) c.if-n-s.true
