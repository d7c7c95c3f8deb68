-- By the operation; the result of two numbers of 32 bits fits 64 (`wide_fits`) and is exact (`wide_is`).
use mathlib.Core.Path.{◌≡◌, sym, ap, ◌∙◌}
use lib.IntN.{ℤ}
use mir.Syntax.{w32, w64}
use mir.Val.{SFits, to_z, of_z}
use Rattle.semantics.specs.Expressions.{sum, difference, product, applied, result}
use Rattle.expression.specs.Evaluation.{said}
use Rattle.expression.specs.Forms.{operation_is}
use Rattle.expression.specs.declared.Operation.{Operation}
use Rattle.expression.specs.declared.Operation.TheVariants.{Sum, Difference, Product}
use Rattle.expression.proofs.Widths.{Wide, widens, wide_fits, wide_is}
use Rattle.expression.proofs.arithmetic.Goals as goal

-- the operation that is asked for
done : (a b : ℤ) {p : Operation} → SFits w32 a → SFits w32 b → (o : Operation) → p ≡ o →
    said (result (to_z w64 (of_z w64 (applied (operation_is o) (Wide a) (Wide b))))) ≡ said (result (applied (operation_is p) a b))
done a b f g o e =
    ap (λ (z : ℤ). said (result z)) (wide_is (operation_is o) a b f g ∙ sym (ap (λ (o : Operation). applied (operation_is o) a b) e))

pub overflow_cast-x : goal.overflow_cast-x
overflow_cast-x c = widens c.args.a c.ranges.a

pub overflow_cast-y : goal.overflow_cast-y
overflow_cast-y c = widens c.args.b c.ranges.b

pub overflow_add-x : goal.overflow_add-x
unfolding applied
overflow_add-x c = wide_fits sum c.args.a c.args.b c.ranges.a c.ranges.b

pub overflow_sub-x : goal.overflow_sub-x
unfolding applied
overflow_sub-x c = wide_fits difference c.args.a c.args.b c.ranges.a c.ranges.b

pub overflow_mul-x : goal.overflow_mul-x
unfolding applied
overflow_mul-x c = wide_fits product c.args.a c.args.b c.ranges.a c.ranges.b

pub returns-in-Sum : goal.returns-in-Sum
unfolding applied
returns-in-Sum c = c.ranged.ensures ∙ done c.args.a c.args.b c.ranges.a c.ranges.b Sum c.in-Sum.is

pub returns-in-Difference : goal.returns-in-Difference
unfolding applied
returns-in-Difference c = c.ranged-in-Difference.ensures ∙ done c.args.a c.args.b c.ranges.a c.ranges.b Difference c.in-Difference.is

pub returns-in-Product : goal.returns-in-Product
unfolding applied
returns-in-Product c = c.ranged-in-Product.ensures ∙ done c.args.a c.args.b c.ranges.a c.ranges.b Product c.in-Product.is
