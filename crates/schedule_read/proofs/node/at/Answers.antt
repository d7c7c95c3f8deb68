use Rattle.schedule_read.proofs.Passing.{made-at}
use Rattle.schedule_read.proofs.node.at.Goals as goal

pub invariant_of-result : goal.invariant_of-result
invariant_of-result c = record { made = made-at c.args.i c.requires.1 c.requires.0 }
