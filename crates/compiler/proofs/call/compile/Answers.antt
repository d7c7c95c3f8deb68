-- What is planned is refused, too long for the buffer, or written.
use native.Mathlib.Omega.{arith}
use Rattle.std.proofs.lemmas.Result.{err_from_is_err_and}
use Rattle.semantics.specs.Editions.{edition1}
use Rattle.paper.specs.declared.refusals.Refusal.TheVariants.{TableRoom}
use Rattle.compiler.proofs.CallStages.{refused-too, too_short, long-enough, compile-refused, compile-done}
use Rattle.compiler.proofs.call.compile.Goals as goal

pub returns-in_err-p : goal.returns-in_err-p
returns-in_err-p c = let a = c.args in
    let p = err_from_is_err_and c.from_residual.result c.from_residual.ensures.1 in
    rw (p.1, p.2) (compile-refused edition1 a.file.now a.table.now c.in_err-p.field-0.0 (refused-too edition1 a.file.now a.table.now c.in_err-p.ensures))

pub returns-then-table-p : goal.returns-then-table-p
returns-then-table-p c = let a = c.args in
    let g = c.in_ok-p.ensures in
    compile-refused edition1 a.file.now a.table.now TableRoom (too_short edition1 a.file.now a.table.now g.judged (omega (arith, g.whole, c.if-table-p.true)))

pub write-length-requires : goal.write-length-requires
write-length-requires c = (c.in_ok-p.ensures, c.if-table-p.false)

pub returns : goal.returns
returns c = let a = c.args in
    let g = c.in_ok-p.ensures in
    let j = long-enough edition1 a.file.now a.table.now g.judged (omega (arith, g.whole, c.if-table-p.false)) in
    let w = c.write-length.ensures in
    compile-done edition1 a.file.now a.table.now j (w.written _ g.judged) w.comparisons
