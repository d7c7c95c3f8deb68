use mathlib.Core.Path.{◌∙◌}
use Rattle.program.proofs.Shifts.{shifted}
use Rattle.program.proofs.fill.shifted.Goals as goal

pub returns : goal.returns
returns c = c.unwrap_or.ensures ∙ shifted _ _ _ c.checked_add.ensures
