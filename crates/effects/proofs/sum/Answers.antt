use mathlib.Core.Path.{sym, ap₂, ◌∙◌, subst}
use lib.IntN.{◌+ℤ◌}
use mir.Syntax.{w32}
use mir.Val.{SFits}
use mir.ValLaws.{to_z-of_z}
use Rattle.effects.proofs.Adds.{ranged-fits}
use Rattle.effects.proofs.sum.Goals as goal

pub overflow_add-result : goal.overflow_add-result
overflow_add-result c = subst (SFits w32) (sym (ap₂ ◌+ℤ◌ (to_z-of_z w32 _ c.ranges.x) (to_z-of_z w32 _ c.ranges.rate))) (ranged-fits _ _ _ c.ranges.low c.ranges.high c.requires)

pub returns : goal.returns
returns c = to_z-of_z w32 _ (overflow_add-result c) ∙ ap₂ ◌+ℤ◌ (to_z-of_z w32 _ c.ranges.x) (to_z-of_z w32 _ c.ranges.rate)
