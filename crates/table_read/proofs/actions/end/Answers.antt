-- The length is missing, too low, too high or past the end, or the operand's form decides: one law of ActionForms each.
use native.Mathlib.Omega.{arith}
use Rattle.table_read.proofs.ActionForms.{action-none, action-low, action-high, action-short, action-here, no-action-here}
use Rattle.table_read.proofs.actions.end.Goals as goal

pub returns-then-s-at : goal.returns-then-s-at
returns-then-s-at c = action-none _ _ _ (omega arith)

pub returns-then-l-w : goal.returns-then-l-w
returns-then-l-w c = action-low _ _ _ (omega arith) (omega arith)

pub returns-then-l-w-2 : goal.returns-then-l-w-2
returns-then-l-w-2 c = action-high _ _ _ (omega arith) (omega arith)

pub returns-then-s-at-2 : goal.returns-then-s-at-2
returns-then-s-at-2 c = action-short _ _ _ (omega arith) (omega arith) (omega arith) (omega arith)

pub returns-then-operand : goal.returns-then-operand
returns-then-operand c = action-here _ _ _ c.width-w.ensures c.number-l.ensures (omega arith) (omega arith) (omega arith) (omega arith) c.operand.ensures c.if-operand.true

pub returns-else-operand : goal.returns-else-operand
returns-else-operand c = no-action-here _ _ _ c.width-w.ensures c.number-l.ensures (omega arith) (omega arith) (omega arith) (omega arith) c.operand.ensures c.if-operand.false
