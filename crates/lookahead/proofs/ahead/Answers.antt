-- What the reader promises is handed on from step to step: `first-promised`, then `next-promised` (table_step Callers).
use Rattle.table_step.proofs.Callers.{first-promised, next-promised}
use Rattle.lookahead.proofs.Looking.{three-steps}
use Rattle.lookahead.proofs.ahead.Goals as goal

pub start-at-requires : goal.start-at-requires
start-at-requires c = record { table = c.requires.table; lent = c.requires.lent }

pub step-first-requires : goal.step-first-requires
step-first-requires c = let q = c.requires in first-promised _ q.lent c.start-at.ensures q.fits

pub step-second-requires : goal.step-second-requires
step-second-requires c = let q = c.requires in
    next-promised _ _ (first-promised _ q.lent c.start-at.ensures q.fits) c.step-first.ensures

pub step-third-requires : goal.step-third-requires
step-third-requires c = let q = c.requires in
    next-promised _ _ (next-promised _ _ (first-promised _ q.lent c.start-at.ensures q.fits) c.step-first.ensures) c.step-second.ensures

pub returns : goal.returns
returns c = λ t d f. three-steps _ d (c.start-at.ensures t d) f c.args.a c.args.b c.args.c c.step-first.result c.step-second.result c.step-third.result c.step-first.ensures c.step-second.ensures c.step-third.ensures
