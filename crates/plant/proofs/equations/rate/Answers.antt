use native.Mathlib.Omega.{arith}
use Rattle.plant.proofs.EquationParts.{rate-there, rate-short}
use Rattle.plant.proofs.PaperNumbers.{step-says}
use Rattle.plant.proofs.equations.rate.Goals as goal

pub returns-then-s-at-lt5 : goal.returns-then-s-at-lt5
returns-then-s-at-lt5 c = step-says (rate-short _ _ _ (omega arith) (omega arith))

pub returns : goal.returns
returns c = step-says (rw c.from.ensures (rate-there _ _ _ (omega arith)))
