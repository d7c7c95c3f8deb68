-- The sum is made in 64 bits, where it fits (`wide_fits`), and then ranged.
use mathlib.Core.Path.{refl, ap, ◌∙◌}
use Rattle.semantics.specs.Expressions.{ranged, sum, applied}
use Rattle.semantics.specs.Run.{valued}
use Rattle.expression.proofs.Widths.{wide_fits, wide_is}
use Rattle.effects.specs.Verdicts.{step_verdict}
use Rattle.effects.proofs.Adds.{held-bounds}
use Rattle.effects.proofs.stays.Goals as goal

pub overflow_add-from : goal.overflow_add-from
unfolding applied
overflow_add-from c = rw (c.from.ensures, c.from-2.ensures) (wide_fits sum _ _ c.ranges.x c.ranges.rate)

pub returns : goal.returns
unfolding applied
returns c = c.ranged.ensures
    ∙ ap (λ r. step_verdict (valued r)) (held-bounds _ _ _ refl refl c.ranges.low c.ranges.high ∙ ap (ranged c.args.low c.args.high) (rw (c.from.ensures, c.from-2.ensures) (wide_is sum _ _ c.ranges.x c.ranges.rate)))
