-- The difference from 0 is made in 64 bits, where it fits, and then ranged.
use mathlib.Core.Path.{sym, ap, ◌∙◌, subst}
use lib.IntN.{ℤ, pos, ◌-ℤ◌, neg_ℤ, +ℤ_idl}
use lib.Dec.{lit<}
use mir.Syntax.{w64}
use mir.Val.{SFits}
use mir.ValLaws.{to_z-of_z}
use Rattle.semantics.specs.Expressions.{result}
use Rattle.expression.specs.Evaluation.{said}
use Rattle.expression.proofs.Widths.{widens, widened, difference-fits}
use Rattle.expression.proofs.negative.Goals as goal

pub overflow_cast-a : goal.overflow_cast-a
overflow_cast-a c = widens c.args.a c.ranges.a

pub overflow_sub-a : goal.overflow_sub-a
overflow_sub-a c = subst (λ (y : ℤ). SFits w64 (pos 0 -ℤ y)) (sym (widened c.args.a c.ranges.a))
    (difference-fits (pos 0) c.args.a (record { sfits = lit< tt }) c.ranges.a)

pub returns : goal.returns
returns c = c.ranged.ensures
    ∙ ap (λ (z : ℤ). said (result z)) (to_z-of_z w64 _ (subst (λ (y : ℤ). SFits w64 (pos 0 -ℤ y)) (sym (widened c.args.a c.ranges.a)) (difference-fits (pos 0) c.args.a (record { sfits = lit< tt }) c.ranges.a)) ∙ ap (λ (y : ℤ). pos 0 -ℤ y) (widened c.args.a c.ranges.a) ∙ +ℤ_idl (neg_ℤ c.args.a))
