use Rattle.paper.proofs.Answered.{refuses-with}
use Rattle.plant.specs.Variables.{accepted_variables}
use Rattle.plant.proofs.VariableAnswer.{refused-4}
use Rattle.plant.proofs.variables.read.Goals as goal

pub returns-in-None-clause-judged : goal.returns-in-None-clause-judged
returns-in-None-clause-judged c ed = refuses-with accepted_variables (refused-4 ed c.args.s.now (c.in-None.ensures ed))
