-- The truth of one wait is the walk over it alone (`still-asked`).
use mathlib.Core.Path.{sym, ap, ◌∙◌}
use Rattle.std.specs.Prelude.{Ok}
use Rattle.codec.specs.Parts.{part_at}
use Rattle.program.specs.Rows.{start_row, end_row}
use Rattle.effects.specs.PaperNumbers.{Away, Stay}
use Rattle.effects.specs.Told.{told_step, told_truth}
use Rattle.effects.proofs.Told.{err_is}
use Rattle.execution.proofs.Scans.{still-asked}
use Rattle.execution.proofs.still.Goals as goal

pub returns-in_err-ask : goal.returns-in_err-ask
returns-in_err-ask c = let p = c.args.p.now in
    λ ed. ap told_step (err_is _ _ c.from_residual.ensures.1)
    ∙ still-asked ed c.args.values.now (part_at p.bytes.now (start_row p.index.now) (end_row p.index.now) c.args.n) c.operand.ensures (c.in_err-ask.ensures ed (Away 31) Stay)

pub returns-then-branch : goal.returns-then-branch
returns-then-branch c = let p = c.args.p.now in
    λ ed. sym (ap (λ b. told_truth (Away 31) Stay (Ok b)) c.if-branch.true)
    ∙ still-asked ed c.args.values.now (part_at p.bytes.now (start_row p.index.now) (end_row p.index.now) c.args.n) c.operand.ensures (c.in_ok-ask.ensures ed (Away 31) Stay)

pub returns : goal.returns
returns c = let p = c.args.p.now in
    λ ed. sym (ap (λ b. told_truth (Away 31) Stay (Ok b)) c.if-branch.false)
    ∙ still-asked ed c.args.values.now (part_at p.bytes.now (start_row p.index.now) (end_row p.index.now) c.args.n) c.operand.ensures (c.in_ok-ask.ensures ed (Away 31) Stay)
