use mathlib.Core.Path.{◌∙◌}
use native.Mathlib.Omega.{arith}
use Rattle.edition.proofs.Widths.{of_first, of_second, one-wide, two-wide}
use Rattle.codec.proofs.Widths.{number-one, number-two}
use Rattle.codec.proofs.number.Goals as goal

pub bounds-s-at : goal.bounds-s-at
bounds-s-at c = omega (arith, one-wide (of_first c.in-First.is))

pub nat2-requires : goal.nat2-requires
nat2-requires c = omega (arith, two-wide (of_second c.in-Second.is))

pub returns-in-First : goal.returns-in-First
returns-in-First c = c.from.ensures ∙ number-one (of_first c.in-First.is) _ _

pub returns-in-Second : goal.returns-in-Second
returns-in-Second c = c.nat2.ensures ∙ number-two (of_second c.in-Second.is) _ _
