-- The kind's byte decides what the reader of an equation's body is; of any other kind it fails.
use native.Mathlib.Omega.{arith}
use borrow.Author.Tests.{ne_eqb}
use Rattle.semantics.specs.Sections.{Equation, read_steady, read_equation_body}
use Rattle.semantics.specs.Plant.{equation_named}
use Rattle.codec.proofs.Reading.{then-byte, no_byte, fails}
use Rattle.plant.proofs.EquationParts.{made}
use Rattle.plant.proofs.PaperNumbers.{step-says}
use Rattle.plant.proofs.equations.kind.Goals as goal

pub returns-then-s-lt1 : goal.returns-then-s-lt1
unfolding read_equation_body
returns-then-s-lt1 c = step-says (no_byte _ (omega arith))

pub returns-in-1 : goal.returns-in-1
unfolding read_equation_body read_steady equation_named
returns-in-1 c = step-says (then-byte _ (omega arith) (rw c.in-1.is (made Equation.steady (λ a x e. e) c.rate.ensures.reads)))

pub returns-in-2 : goal.returns-in-2
unfolding read_equation_body
returns-in-2 c = step-says (then-byte _ (omega arith) (rw c.in-2.is c.choice.ensures.reads))

pub returns-in_default : goal.returns-in_default
unfolding read_equation_body
returns-in_default c = step-says (then-byte _ (omega arith) (rw (ne_eqb _ _ c.in_default.in_default-own.rest.0.1, ne_eqb _ _ c.in_default.in_default-own.rest.1) fails))
