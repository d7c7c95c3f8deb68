-- The index refuses, or the size of its tree is told.
use Rattle.std.proofs.lemmas.Result.{err_from_is_err_and}
use Rattle.semantics.specs.Editions.{edition1}
use Rattle.compiler.proofs.SizeStages.{size-refused, size-over, size_exact}
use Rattle.compiler.proofs.Indexes.{indexed, planted}
use Rattle.compiler.proofs.size.of.Goals as goal

pub returns-in_err-x : goal.returns-in_err-x
returns-in_err-x c = let p = err_from_is_err_and c.from_residual.result c.from_residual.ensures.1 in
    rw (p.1, p.2) (size-refused edition1 c.args.file.now {why = c.in_err-x.field-0.0} c.in_err-x.ensures)

pub of-requires : goal.of-requires
of-requires c = planted (indexed edition1 c.args.file.now c.in_ok-x.ensures)

pub returns-in-Ok : goal.returns-in-Ok
returns-in-Ok c = size_exact (indexed edition1 c.args.file.now c.in_ok-x.ensures) c.in-Ok.ensures

pub returns-in-Err : goal.returns-in-Err
returns-in-Err c = size-over (indexed edition1 c.args.file.now c.in_ok-x.ensures) c.in-Err.ensures
