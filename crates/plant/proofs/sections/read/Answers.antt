-- Refused by the variables, by the equations or by 8, or all is passed: a law each.
use Rattle.paper.proofs.PassedOn.{passed_on}
use Rattle.plant.proofs.PlantJudged.{by-variables, by-equations, by_8, passed}
use Rattle.plant.proofs.sections.read.Goals as goal

pub returns-in_err-variables : goal.returns-in_err-variables
returns-in_err-variables c ed = passed_on _ _ _ c.from_residual.ensures.1 (by-variables ed _ _ (c.in_err-variables.ensures.judged ed))

pub returns-in_err-selectors : goal.returns-in_err-selectors
returns-in_err-selectors c ed = passed_on _ _ _ c.from_residual-in_err-selectors.ensures.1 (by-equations ed _ _ (c.in_ok-variables.ensures.judged ed) c.in_err-selectors.ensures)

pub returns-in_err-driven : goal.returns-in_err-driven
returns-in_err-driven c ed =
    passed_on _ _ _ c.from_residual-in_err-driven.ensures.1 (by_8 ed _ _ (c.in_ok-variables.ensures.judged ed) c.in_ok-selectors.ensures c.in_err-driven.ensures)

pub returns : goal.returns
returns c ed = passed ed _ _ (c.in_ok-variables.ensures.judged ed) c.in_ok-selectors.ensures c.in_ok-driven.ensures
