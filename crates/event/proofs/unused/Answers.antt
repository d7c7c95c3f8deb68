use Rattle.event.proofs.Bytes.{kept, turned}
use Rattle.event.proofs.unused.Goals as goal

pub returns-then-all_zero : goal.returns-then-all_zero
returns-then-all_zero c = kept c.args.s.now c.all_zero.ensures c.args.e c.if-all_zero.true

pub returns-else-all_zero : goal.returns-else-all_zero
returns-else-all_zero c = turned c.args.s.now c.all_zero.ensures c.args.e c.if-all_zero.false
