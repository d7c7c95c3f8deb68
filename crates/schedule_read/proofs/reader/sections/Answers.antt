-- Each section is missing, or stands where the one before it ends (`there`); a law of PartsStand for each return.
use mathlib.Core.Path.{sym, ◌∙◌}
use native.Mathlib.Omega.{arith}
use Rattle.std.proofs.Common.{length, ap}
use Rattle.schedule_read.proofs.PartsStand.{there, variables-missing, variables-inside, equations-missing, equations-inside, schedule-missing, bytes-over, all-found}
use Rattle.schedule_read.proofs.reader.sections.Goals as goal

pub returns-in_err-variables : goal.returns-in_err-variables
returns-in_err-variables c = rw c.from_residual.ensures (variables-missing c.args.file.now c.requires (sym c.in_err-variables.was ∙ c.next.ensures.part))

pub next-requires-2 : goal.next-requires-2
next-requires-2 c = let a = sym c.in_ok-variables.was ∙ c.next.ensures.part in
    omega (arith, variables-inside c.args.file.now c.requires a, c.next.ensures.behind _ c.in_ok-variables.was, ap length c.next.ensures.same)

pub returns-in_err-equations : goal.returns-in_err-equations
returns-in_err-equations c = let a = sym c.in_ok-variables.was ∙ c.next.ensures.part in
    let b = there c.next.ensures.same (c.next.ensures.behind _ c.in_ok-variables.was) (sym c.in_err-equations.was ∙ c.next-2.ensures.part) in
    rw c.from_residual-in_err-equations.ensures (equations-missing c.args.file.now c.requires a b)

pub next-requires-3 : goal.next-requires-3
next-requires-3 c = let a = sym c.in_ok-variables.was ∙ c.next.ensures.part in
    let b = there c.next.ensures.same (c.next.ensures.behind _ c.in_ok-variables.was) (sym c.in_ok-equations.was ∙ c.next-2.ensures.part) in
    omega (arith, equations-inside c.args.file.now c.requires a b, c.next-2.ensures.behind _ c.in_ok-equations.was, ap length (c.next-2.ensures.same ∙ c.next.ensures.same))

pub returns-in_err-schedule : goal.returns-in_err-schedule
returns-in_err-schedule c = let a = sym c.in_ok-variables.was ∙ c.next.ensures.part in
    let b = there c.next.ensures.same (c.next.ensures.behind _ c.in_ok-variables.was) (sym c.in_ok-equations.was ∙ c.next-2.ensures.part) in
    let d = there (c.next-2.ensures.same ∙ c.next.ensures.same) (c.next-2.ensures.behind _ c.in_ok-equations.was) (sym c.in_err-schedule.was ∙ c.next-3.ensures.part) in
    rw c.from_residual-in_err-schedule.ensures (schedule-missing c.args.file.now c.requires a b d)

pub returns-then-r-file : goal.returns-then-r-file
returns-then-r-file c = let a = sym c.in_ok-variables.was ∙ c.next.ensures.part in
    let b = there c.next.ensures.same (c.next.ensures.behind _ c.in_ok-variables.was) (sym c.in_ok-equations.was ∙ c.next-2.ensures.part) in
    let d = there (c.next-2.ensures.same ∙ c.next.ensures.same) (c.next-2.ensures.behind _ c.in_ok-equations.was) (sym c.in_ok-schedule.was ∙ c.next-3.ensures.part) in
    bytes-over c.args.file.now c.requires a b d (omega (arith, c.next-3.ensures.behind _ c.in_ok-schedule.was))

pub returns : goal.returns
returns c = let a = sym c.in_ok-variables.was ∙ c.next.ensures.part in
    let b = there c.next.ensures.same (c.next.ensures.behind _ c.in_ok-variables.was) (sym c.in_ok-equations.was ∙ c.next-2.ensures.part) in
    let d = there (c.next-2.ensures.same ∙ c.next.ensures.same) (c.next-2.ensures.behind _ c.in_ok-equations.was) (sym c.in_ok-schedule.was ∙ c.next-3.ensures.part) in
    all-found c.args.file.now c.requires a b d (omega (arith, c.next-3.ensures.behind _ c.in_ok-schedule.was))
