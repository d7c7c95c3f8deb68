use native.Mathlib.Omega.{arith}
use Rattle.table_read.proofs.Ended.{found, not_found}
use Rattle.table_read.proofs.ActionLoop.{refuse-count, count_of, node-inside, node-small, index-start, index-next, index-stop, index-over, index-end}
use Rattle.table_read.proofs.actions.read.Goals as goal

pub returns-in_default : goal.returns-in_default
returns-in_default c = refuse-count _ _ c.in_default.ensures

pub loop-init : goal.loop-init
loop-init c = index-start _ _ c.width-w.ensures (omega (arith, (count_of _ c.in-Some.ensures).some_bytes))

pub next-requires : goal.next-requires
next-requires c = c.loop.invariant.took.inside

pub returns-in_default-next : goal.returns-in_default-next
returns-in_default-next c = index-stop _ c.loop.invariant (count_of _ c.in-Some.ensures) c.loop-test.true (not_found c.in_default-next.ensures)

pub overflow_add-p : goal.overflow_add-p
overflow_add-p c = omega (arith, node-inside _ c.width-w.ensures (found c.in-Some-next.ensures))

pub number-node-requires : goal.number-node-requires
number-node-requires c = omega (arith, node-inside _ c.width-w.ensures (found c.in-Some-next.ensures))

pub overflow_add-kind : goal.overflow_add-kind
overflow_add-kind c = omega (arith, node-inside _ c.width-w.ensures (found c.in-Some-next.ensures))

pub overflow_add-kind-in-loop : goal.overflow_add-kind-in-loop
overflow_add-kind-in-loop c = omega (arith, node-inside _ c.width-w.ensures (found c.in-Some-next.ensures))

pub bounds-s-kind : goal.bounds-s-kind
bounds-s-kind c = omega (arith, node-inside _ c.width-w.ensures (found c.in-Some-next.ensures))

pub overflow_add-starts : goal.overflow_add-starts
overflow_add-starts c = omega (arith, node-inside _ c.width-w.ensures (found c.in-Some-next.ensures))

pub bounds-kinds-node : goal.bounds-kinds-node
bounds-kinds-node c = omega (arith, node-small _ _ _ _ c.width-w.ensures c.number-node.ensures (found c.in-Some-next.ensures))

pub offset_bounds-starts-node : goal.offset_bounds-starts-node
offset_bounds-starts-node c = omega (arith, node-small _ _ _ _ c.width-w.ensures c.number-node.ensures (found c.in-Some-next.ensures))

pub bounds-starts-node : goal.bounds-starts-node
bounds-starts-node c = omega (arith, node-small _ _ _ _ c.width-w.ensures c.number-node.ensures (found c.in-Some-next.ensures))

pub offset_bounds-ends-node : goal.offset_bounds-ends-node
offset_bounds-ends-node c = omega (arith, node-small _ _ _ _ c.width-w.ensures c.number-node.ensures (found c.in-Some-next.ensures))

pub bounds-ends-node : goal.bounds-ends-node
bounds-ends-node c = omega (arith, node-small _ _ _ _ c.width-w.ensures c.number-node.ensures (found c.in-Some-next.ensures))

pub overflow_add-low : goal.overflow_add-low
overflow_add-low c = omega (arith, node-small _ _ _ _ c.width-w.ensures c.number-node.ensures (found c.in-Some-next.ensures))

pub loop-preserved : goal.loop-preserved
loop-preserved c = index-next _ c.loop.invariant (found c.in-Some-next.ensures) c.width-w.ensures c.number-node.ensures

pub returns-then-p-s : goal.returns-then-p-s
returns-then-p-s c = index-over _ c.loop.invariant (count_of _ c.in-Some.ensures) (omega arith) (omega arith)

pub returns : goal.returns
returns c = index-end _ c.loop.invariant (count_of _ c.in-Some.ensures) (omega arith) (omega arith)
