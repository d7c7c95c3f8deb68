-- One law for each return: `by-measure`, `by_table`, `by-records`, `by-others` (ExamStages).
use Prim.Native.Nat.{◌<◌, ◌≤◌}
use native.Mathlib.Omega.{arith}
use lib.ListN.{length}
use Rattle.std.proofs.lemmas.Result.{err_from_is_err_and}
use Rattle.semantics.specs.Editions.{edition1}
use Rattle.semantics.specs.Refusals.{refusal_of}
use Rattle.rule_run.specs.Called.{passed}
use Rattle.paper.proofs.Answered.{was-refused, was-accepted}
use Rattle.exam.proofs.Numbers.{listed, number-answered}
use Rattle.exam.proofs.ExamStages.{by-measure, by_table, by-records, by-others}
use Rattle.exam.proofs.judged.Goals as goal

pub returns-in_err-length : goal.returns-in_err-length
unfolding refusal_of
returns-in_err-length c es ts rs os a b d e = let p = err_from_is_err_and c.from_residual.result c.from_residual.ensures.1 in
    rw (p.1, p.2) (by-measure edition1 c.args.file.now c.args.start.now es ts rs os (was-refused length _ c.in_err-length.ensures))

pub returns-then-table-length : goal.returns-then-table-length
unfolding refusal_of
returns-then-table-length c es ts rs os a b d e =
    let k = was-accepted length _ c.in_ok-length.ensures in
    by_table edition1 c.args.file.now c.args.start.now es ts rs os k.judged (let l : length ts < length k.value = omega (arith, k.is, b, c.if-table-length.true) in l)

pub returns-in_err-check : goal.returns-in_err-check
unfolding refusal_of
returns-in_err-check c es ts rs os a b d e =
    let k = was-accepted length _ c.in_ok-length.ensures in
    let p = err_from_is_err_and c.from_residual-in_err-check.result c.from_residual-in_err-check.ensures.1 in
    let f = number-answered passed _ (c.in_err-check.ensures es rs a d) in
    rw (p.1, p.2) (by-records edition1 c.args.file.now c.args.start.now es ts rs os k.judged (let l : length k.value ≤ length ts = omega (arith, k.is, b, c.if-table-length.false) in l) f (listed c.in_err-check.field-0.0))

pub returns : goal.returns
unfolding refusal_of
returns c es ts rs os a b d e =
    let k = was-accepted length _ c.in_ok-length.ensures in
    let f = number-answered passed _ (c.in_ok-check.ensures es rs a d) in
    let g = number-answered passed _ (c.check-2.ensures es os a e) in
    by-others edition1 c.args.file.now c.args.start.now es ts rs os k.judged (let l : length k.value ≤ length ts = omega (arith, k.is, b, c.if-table-length.false) in l) f g
