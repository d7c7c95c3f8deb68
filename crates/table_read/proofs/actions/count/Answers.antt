use native.Mathlib.Omega.{arith}
use Rattle.table_read.proofs.ActionLoop.{no-count, few, many, count-is}
use Rattle.table_read.proofs.actions.count.Goals as goal

pub returns-then-s-width : goal.returns-then-s-width
returns-then-s-width c = no-count _ _ (omega arith)

pub returns-then-n-lt1 : goal.returns-then-n-lt1
returns-then-n-lt1 c = few _ _ (omega arith) (omega arith)

pub returns-then-n-node_limit : goal.returns-then-n-node_limit
returns-then-n-node_limit c = many _ _ (omega arith) (omega arith)

pub returns : goal.returns
returns c = count-is _ _ c.number-n.ensures (omega arith) (omega arith) (omega arith)
