-- A switch has no length byte, length 0, too few bytes, or is there: one law for each.
use native.Mathlib.Omega.{arith}
use Rattle.semantics.specs.Sections.{read_switch}
use Rattle.codec.proofs.Reading.{no_byte}
use Rattle.plant.proofs.EquationParts.{switch-there, switch-empty, switch-short}
use Rattle.plant.proofs.PaperNumbers.{step-says}
use Rattle.plant.proofs.equations.switch.Goals as goal

pub returns-then-s-at : goal.returns-then-s-at
unfolding read_switch
returns-then-s-at c = step-says (no_byte _ (omega arith))

pub returns-then-n-lt1 : goal.returns-then-n-lt1
returns-then-n-lt1 c = step-says (switch-empty _ _ _ (omega arith) (omega (arith, c.from-n.ensures)))

pub returns-then-s-at-2 : goal.returns-then-s-at-2
returns-then-s-at-2 c = step-says (switch-short _ _ _ (omega arith) (omega (arith, c.from-n.ensures)) (omega (arith, c.from-n.ensures)))

pub returns : goal.returns
returns c = step-says (rw c.from-n.ensures (switch-there _ _ _ (omega arith) (omega (arith, c.from-n.ensures)) (omega (arith, c.from-n.ensures))))
