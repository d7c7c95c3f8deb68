use Rattle.expression.proofs.PaperNumbers.{says}
use Rattle.expression.proofs.truth_value.Goals as goal

pub returns-in-Some : goal.returns-in-Some
returns-in-Some c ed = says (c.comparing.ensures ed _ c.in-Some.is)
