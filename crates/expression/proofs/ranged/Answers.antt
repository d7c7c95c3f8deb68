-- Three cases: `result_low`, `result-high`, and `result-in`, where the number fits 32 bits.
use mathlib.Core.Path.{sym, ap, ◌∙◌, subst}
use mathlib.Core.Bool.{true, false}
use lib.IntN.{ℤ, pos, negsuc}
use mir.Syntax.{w32, w64}
use mir.Val.{SFits}
use mir.ValLaws.{to_z-of_z}
use Rattle.std.specs.Prelude.{Ok}
use Rattle.expression.specs.Evaluation.{said}
use Rattle.expression.proofs.Widths.{left-plain, right-plain, between-fits, result_low, result-high, result-in}
use Rattle.expression.proofs.ranged.Goals as goal

pub returns-then-x-ltminus2147483648 : goal.returns-then-x-ltminus2147483648
returns-then-x-ltminus2147483648 c = sym (ap said (result_low c.args.x (left-plain c.args.x (negsuc 2147483647) true c.ranges.x c.if-x-ltminus2147483648.true)))

pub returns-then-x-gt2147483647 : goal.returns-then-x-gt2147483647
returns-then-x-gt2147483647 c = sym (ap said (result-high c.args.x (left-plain c.args.x (negsuc 2147483647) false c.ranges.x c.if-x-ltminus2147483648.false) (right-plain c.args.x (pos 2147483647) true c.ranges.x c.if-x-gt2147483647.true)))

pub overflow_cast-result : goal.overflow_cast-result
overflow_cast-result c = subst (SFits w32) (sym (to_z-of_z w64 c.args.x c.ranges.x)) (between-fits c.args.x (left-plain c.args.x (negsuc 2147483647) false c.ranges.x c.if-x-ltminus2147483648.false) (right-plain c.args.x (pos 2147483647) false c.ranges.x c.if-x-gt2147483647.false))

pub returns : goal.returns
returns c = ap (λ (z : ℤ). Ok z) (to_z-of_z w32 _ (overflow_cast-result c) ∙ to_z-of_z w64 c.args.x c.ranges.x)
    ∙ sym (ap said (result-in c.args.x (left-plain c.args.x (negsuc 2147483647) false c.ranges.x c.if-x-ltminus2147483648.false) (right-plain c.args.x (pos 2147483647) false c.ranges.x c.if-x-gt2147483647.false)))
