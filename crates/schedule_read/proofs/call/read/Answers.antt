use Rattle.std.proofs.lemmas.Result.{err_from_is_err_and}
use Rattle.schedule_read.proofs.Stages.{counts-refused, counted}
use Rattle.schedule_read.proofs.call.read.Goals as goal

pub returns-in_err-x : goal.returns-in_err-x
returns-in_err-x c = let p = err_from_is_err_and c.from_residual.result c.from_residual.ensures.1 in
    rw (p.1, p.2) (counts-refused _ c.args.file.now c.in_err-x.ensures)

pub returns : goal.returns
returns c = counted _ c.args.file.now c.in_ok-x.ensures
