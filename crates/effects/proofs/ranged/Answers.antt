-- Three cases: below the range, above it, in it; the bounds are the same numbers in 64 bits.
use mathlib.Core.Path.{sym, ap₂, ◌∙◌}
use lib.Signed.{lt_z}
use mir.Syntax.{w64}
use mir.ValLaws.{to_z-of_z}
use Rattle.effects.proofs.Adds.{wide}
use Rattle.effects.proofs.Steps.{below-it, above-it, inside-it}
use Rattle.effects.proofs.ranged.Goals as goal

pub returns-then-z-from : goal.returns-then-z-from
returns-then-z-from c = below-it c.args.low c.args.high c.args.z (sym (ap₂ lt_z (to_z-of_z w64 _ c.ranges.z) (wide c.ranges.low c.from.ensures)) ∙ c.if-z-from.true)

pub returns-then-from-z : goal.returns-then-from-z
returns-then-from-z c = above-it c.args.low c.args.high c.args.z (sym (ap₂ lt_z (to_z-of_z w64 _ c.ranges.z) (wide c.ranges.low c.from.ensures)) ∙ c.if-z-from.false) (sym (ap₂ lt_z (wide c.ranges.high c.from-2.ensures) (to_z-of_z w64 _ c.ranges.z)) ∙ c.if-from-z.true)

pub returns : goal.returns
returns c = inside-it c.args.low c.args.high c.args.z (sym (ap₂ lt_z (to_z-of_z w64 _ c.ranges.z) (wide c.ranges.low c.from.ensures)) ∙ c.if-z-from.false) (sym (ap₂ lt_z (wide c.ranges.high c.from-2.ensures) (to_z-of_z w64 _ c.ranges.z)) ∙ c.if-from-z.false)
