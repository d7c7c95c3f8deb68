-- A number that is told is within `most` (`number-parsed` of decimal).
use Rattle.std.proofs.Common.{sym, ◌∙◌}
use Rattle.decimal.proofs.Answers.{number-parsed}
use Rattle.mkevents.proofs.argument.Goals as goal

pub returns-in-Ok-told : goal.returns-in-Ok-told
returns-in-Ok-told g c = (number-parsed _ _ (sym c.in-Ok-told.is ∙ c.told.ensures)).1
