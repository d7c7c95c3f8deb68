use Rattle.std.proofs.Common.{arith}
use Rattle.running.proofs.run.Goals as goal

pub returns : goal.returns
returns g c = omega (arith, c.call.auto.arg5, c.tell.ensures.within)
