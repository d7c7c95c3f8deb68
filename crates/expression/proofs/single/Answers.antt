-- The leaf's value, where the bytes end.
use Rattle.std.proofs.Common.{rules}
use mathlib.Core.Path.{sym, ap, ◌∙◌}
use native.Mathlib.Omega.{arith}
use lib.IntN.{ℤ}
use mir.Syntax.{w32}
use mir.ValLaws.{to_z-of_z}
use Rattle.std.specs.Prelude.{Ok, Some}
use Rattle.semantics.specs.Expressions.{number_in}
use Rattle.expression.proofs.Wholes.{of_all, some-is}
use Rattle.expression.proofs.single.Goals as goal

pub returns-then-n-s : goal.returns-then-n-s
unfolding number_in
returns-then-n-s c ed z e =
    ap (λ (v : ℤ). Some (Ok v)) (sym (some-is e) ∙ to_z-of_z w32 c.in_ok-z.z (search rules)) ∙ of_all (c.leaf.ensures _ _ c.in_ok-z.was ed 16 (λ e. omega arith)) c.if-n-s.true
