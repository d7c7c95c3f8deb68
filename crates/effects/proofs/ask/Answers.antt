use mathlib.Core.Path.{ap, ◌∙◌}
use Rattle.effects.specs.Told.{told_truth}
use Rattle.effects.proofs.Steps.{asked}
use Rattle.effects.proofs.ask.Goals as goal

pub returns : goal.returns
returns c ed y n = ap (told_truth y n) c.value.ensures ∙ asked y n ed c.args.values.now c.args.t.now (c.truth_value.ensures ed).is
