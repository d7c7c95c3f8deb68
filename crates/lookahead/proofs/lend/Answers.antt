-- The reader's `program` lends the table: its contract, and the start, are what three steps ask (`lending`).
use mathlib.Core.Path.{sym}
use native.Mathlib.Omega.{arith}
use lib.Seq.{length-take-le}
use Rattle.lookahead.proofs.Looking.{lending, answers-start}
use Rattle.lookahead.proofs.lend.Goals as goal

pub slice_bounds-values-end : goal.slice_bounds-values-end
slice_bounds-values-end c = c.requires.values

pub slice_bounds-ahead-end : goal.slice_bounds-ahead-end
slice_bounds-ahead-end c = sym (length-take-le _ _ c.requires.values)

pub slice_bounds-modes-end : goal.slice_bounds-modes-end
slice_bounds-modes-end c = c.requires.modes

pub slice_bounds-ahead-end-2 : goal.slice_bounds-ahead-end-2
slice_bounds-ahead-end-2 c = sym (length-take-le _ _ c.requires.modes)

pub ahead-requires : goal.ahead-requires
ahead-requires c = lending _ (omega (arith, c.well_formed)) c.program-ranges.ensures c.requires

pub returns : goal.returns
returns c = answers-start _ (omega (arith, c.well_formed)) c.program-ranges.ensures c.requires c.args.a c.args.b c.args.c c.ahead.result c.ahead.ensures
