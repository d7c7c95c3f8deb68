-- By the comparison; numbers of 32 bits compare as their integers do, and are equal where their bits are (`eq-bits`).
use mathlib.Core.Path.{◌≡◌, sym, ap, ap₂, ◌∙◌}
use mathlib.Core.Bool.{not}
use lib.IntN.{ℤ}
use lib.Signed.{le_z, lt_z}
use mir.Syntax.{w32}
use mir.ValLaws.{to_z-of_z}
use Rattle.semantics.specs.Expressions.{compared}
use Rattle.expression.specs.Forms.{comparison_is}
use Rattle.expression.specs.declared.Comparison.{Comparison}
use Rattle.expression.specs.declared.Comparison.TheVariants.{AtMost, Less, Equal, Unequal}
use Rattle.expression.proofs.Widths.{eq-bits}
use Rattle.expression.proofs.compare.Goals as goal

-- the comparison that is asked for
by : (a b : ℤ) {p : Comparison} (o : Comparison) → p ≡ o → compared (comparison_is o) a b ≡ compared (comparison_is p) a b
by a b o e = sym (ap (λ (o : Comparison). compared (comparison_is o) a b) e)

pub returns-in-AtMost : goal.returns-in-AtMost
unfolding compared
returns-in-AtMost c = ap₂ le_z (to_z-of_z w32 c.args.a c.ranges.a) (to_z-of_z w32 c.args.b c.ranges.b) ∙ by c.args.a c.args.b AtMost c.in-AtMost.is

pub returns-in-Less : goal.returns-in-Less
unfolding compared
returns-in-Less c = ap₂ lt_z (to_z-of_z w32 c.args.a c.ranges.a) (to_z-of_z w32 c.args.b c.ranges.b) ∙ by c.args.a c.args.b Less c.in-Less.is

pub returns-in-Equal : goal.returns-in-Equal
unfolding compared
returns-in-Equal c = eq-bits c.args.a c.args.b c.ranges.a c.ranges.b ∙ by c.args.a c.args.b Equal c.in-Equal.is

pub returns-in-Unequal : goal.returns-in-Unequal
unfolding compared
returns-in-Unequal c = ap not (eq-bits c.args.a c.args.b c.ranges.a c.ranges.b) ∙ by c.args.a c.args.b Unequal c.in-Unequal.is
