-- The index and the size refuse, or what they found is planned.
use native.Mathlib.Omega.{arith}
use Rattle.std.proofs.lemmas.Result.{err_from_is_err_and}
use Rattle.compiler.proofs.Indexes.{indexed, planted}
use Rattle.compiler.proofs.Planning.{measure-refused, measure-over, found}
use Rattle.compiler.proofs.call.planned.Goals as goal

pub returns-in_err-x : goal.returns-in_err-x
returns-in_err-x c = let p = err_from_is_err_and c.from_residual.result c.from_residual.ensures.1 in
    rw (p.1, p.2) (measure-refused _ c.args.file.now {why = c.in_err-x.field-0.0} c.in_err-x.ensures)

pub of-requires : goal.of-requires
of-requires c = planted (indexed _ c.args.file.now c.in_ok-x.ensures)

pub returns-in_default : goal.returns-in_default
returns-in_default c = measure-over (indexed _ c.args.file.now c.in_ok-x.ensures) c.in_default.ensures

pub made-requires : goal.made-requires
made-requires c = let k = c.type_inv.file in
    record {
      file = c.args.file.now;
      found = found (indexed _ c.args.file.now c.in_ok-x.ensures) c.in-Ok.ensures (omega (arith, k 1)) (omega (arith, k 2));
    }

pub returns : goal.returns
returns c = let k = c.type_inv.file in
    c.made.ensures _ (found (indexed _ c.args.file.now c.in_ok-x.ensures) c.in-Ok.ensures (omega (arith, k 1)) (omega (arith, k 2)))
