use native.Mathlib.Omega.{arith}
use Rattle.table_step.proofs.EntryTurns.{count-before-end, entry-inside, entry-small, gather-start, gather-next, gather-end}
use Rattle.table_step.proofs.entries.acting.Goals as goal

pub bounds-t-at : goal.bounds-t-at
bounds-t-at c = count-before-end _ c.requires

pub overflow_add-p : goal.overflow_add-p
overflow_add-p c = omega (arith, count-before-end _ c.requires)

pub loop-init : goal.loop-init
loop-init c = gather-start _ _ _ c.new-set.ensures

pub number-requires : goal.number-requires
number-requires c = omega (arith, entry-inside _ c.loop.invariant.at c.loop-test.true c.requires)

pub put-requires : goal.put-requires
put-requires c = omega (arith, c.number.ensures, entry-small _ c.loop.invariant.at c.loop-test.true c.requires)

pub overflow_add-p-in-loop : goal.overflow_add-p-in-loop
overflow_add-p-in-loop c = omega (arith, c.entry_bytes-p.ensures, entry-inside _ c.loop.invariant.at c.loop-test.true c.requires)

pub loop-preserved : goal.loop-preserved
loop-preserved c = let l = c.loop in
    let h = c.loop-test.true in
    gather-next _ c.args.t.now c.args.at l.invariant h c.number.ensures (omega (arith, c.number.ensures, entry-small _ l.invariant.at h c.requires)) c.put.ensures (omega (arith, c.entry_bytes-p.ensures))

pub returns : goal.returns
returns c = gather-end _ c.args.t.now c.args.at c.loop.invariant (omega arith)
