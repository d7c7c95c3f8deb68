use Rattle.std.proofs.Common.{◌+◌, ◌*◌, ◌≤◌, length, refl, add-one, arith}
use Rattle.std.proofs.lemmas.Grind.{common_steps}
use Rattle.running.specs.Faulting.FirstFault.{fault_at}
use Rattle.running.proofs.faults.first.Goals as goal

pub returns-then-answer-gt-HALTED : goal.returns-then-answer-gt-HALTED
returns-then-answer-gt-HALTED c =
    let n = c.loop-n.n in
    let l : n * c.args.size + c.args.size ≤ length c.args.records.now = grind (arith, common_steps) in
    fault_at n (rw (c.told.ensures, add-one) refl) c.if-answer-gt-HALTED.true l c.loop-n.invariant
