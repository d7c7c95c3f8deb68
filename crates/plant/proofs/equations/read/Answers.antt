-- Refused as `check` does; else the section stands (`taken-by`), and the rest is read of it.
use Rattle.paper.proofs.Answered.{was-refused}
use Rattle.paper.proofs.PassedOn.{passed_on}
use Rattle.plant.proofs.EquationAnswer.{taken-by, some_byte, all-stand, no-rates, answer-taken}
use Rattle.plant.proofs.equations.read.Goals as goal

pub bounds-s-0 : goal.bounds-s-0
bounds-s-0 c = some_byte _ _ (taken-by _ _ _ c.in_ok-check.ensures)

pub put_rates-requires : goal.put_rates-requires
put_rates-requires c = record { stand = all-stand _ _ (taken-by _ _ _ c.in_ok-check.ensures); clear = no-rates }

pub with_selectors-requires : goal.with_selectors-requires
with_selectors-requires c = (taken-by _ _ _ c.in_ok-check.ensures).section

pub returns-in_err-check : goal.returns-in_err-check
returns-in_err-check c = passed_on _ _ _ c.from_residual.ensures.1 (was-refused _ _ c.in_err-check.ensures)

pub returns : goal.returns
returns c = answer-taken _ _ (taken-by _ _ _ c.in_ok-check.ensures) c.with_selectors.ensures c.put_rates.ensures
