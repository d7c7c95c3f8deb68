-- The action is broken, its node too low or too high, or it is found: one law of ActionLoop each.
use native.Mathlib.Omega.{arith}
use Rattle.table_read.proofs.Ended.{ended, not-ended}
use Rattle.table_read.proofs.ActionLoop.{node-inside, next-broken, next_low, next-high, next-found}
use Rattle.table_read.proofs.actions.next.Goals as goal

pub returns-in_err-q : goal.returns-in_err-q
returns-in_err-q c = rw c.from_residual.ensures (next-broken _ _ (not-ended c.in_err-q.ensures))

pub overflow_add-at : goal.overflow_add-at
overflow_add-at c = omega (arith, node-inside _ c.width.ensures (ended c.in_ok-q.ensures))

pub number-node-requires : goal.number-node-requires
number-node-requires c = omega (arith, node-inside _ c.width.ensures (ended c.in_ok-q.ensures))

pub returns-then-node-low : goal.returns-then-node-low
returns-then-node-low c = next_low _ _ _ _ c.width.ensures c.number-node.ensures c.if-node-low.true

pub returns-then-node-node_limit : goal.returns-then-node-node_limit
returns-then-node-node_limit c = next-high _ _ _ _ c.width.ensures c.number-node.ensures (omega arith)

pub returns : goal.returns
returns c = next-found _ _ _ _ c.width.ensures c.number-node.ensures (ended c.in_ok-q.ensures) (omega arith) (omega arith)
