use native.Mathlib.Omega.{arith}
use Rattle.schedule_read.proofs.Promises.{promised}
use Rattle.schedule_read.proofs.LentSchedule.{schedule-lent}
use Rattle.schedule_read.proofs.call.program.Goals as goal

pub returns : goal.returns
returns c = λ ed f s e small j. schedule-lent ed f (promised ed f e j) small (λ few. omega (arith, c.min-m.ensures)) c.kinds-acts.ensures c.put_index.ensures c.ranges-2.ensures
