use mathlib.Core.Path.{ap₂, ◌∙◌}
use Rattle.semantics.specs.Plant.{mode_exists_in}
use Rattle.table_read.proofs.OperandTurns.{switches-nothing, switches-to}
use Rattle.table_read.proofs.operands.switches.Goals as goal

pub returns-then-b-ne2 : goal.returns-then-b-ne2
returns-then-b-ne2 c = λ ed cs d v. switches-nothing ed v cs _ c.if-b-ne2.true

pub returns : goal.returns
returns c = λ ed cs d v. switches-to ed v cs _ c.if-b-ne2.false (c.mode_exists.ensures cs d ∙ ap₂ (mode_exists_in cs) c.from.ensures c.from-2.ensures)
