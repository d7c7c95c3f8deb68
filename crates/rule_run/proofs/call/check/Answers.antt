-- The file is refused, or admission says what is answered.
use mathlib.Core.List.{[]}
use Rattle.rule_run.proofs.Calling.{check-file, room_of, check-admission, check-passed}
use Rattle.rule_run.proofs.call.check.Goals as goal

pub returns-in_err-x : goal.returns-in_err-x
returns-in_err-x c = let a = c.args in λ es d i j. check-file _ a.file.now a.start.now es d c.from_residual.result c.from_residual.ensures.1 c.in_err-x.ensures

pub admit-requires : goal.admit-requires
admit-requires c = let a = c.args in room_of _ a.file.now a.start.now [] [] c.in_ok-x.ensures

pub returns-in_err-admit : goal.returns-in_err-admit
returns-in_err-admit c = let a = c.args in λ es d i j. check-admission _ a.file.now a.start.now es d c.in_ok-x.ensures c.in_err-admit.field-0.0 (λ p k. c.in_err-admit.ensures p k es d i j)
    c.from_residual-in_err-admit.result c.from_residual-in_err-admit.ensures.1

pub returns : goal.returns
returns c = let a = c.args in λ es d i j. check-passed _ a.file.now a.start.now es d c.in_ok-x.ensures (λ p k. c.in_ok-admit.ensures p k es d i j)
