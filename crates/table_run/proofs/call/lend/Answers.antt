-- What the events ask and leave: `asking-of`, `whole_of` (Calling).
use mathlib.Core.Path.{sym}
use native.Mathlib.Omega.{arith}
use lib.Seq.{length-take-le}
use Rattle.table_run.proofs.Calling.{values-there, modes-there, asked_of, asking-of, whole_of}
use Rattle.table_run.proofs.call.lend.Goals as goal

pub slice_bounds-values-end : goal.slice_bounds-values-end
slice_bounds-values-end c = values-there _ c.args.table.now c.requires.0 c.requires.1.admits

pub slice_bounds-all-end : goal.slice_bounds-all-end
slice_bounds-all-end c = sym (length-take-le _ _ (values-there _ c.args.table.now c.requires.0 c.requires.1.admits))

pub slice_bounds-modes-end : goal.slice_bounds-modes-end
slice_bounds-modes-end c = modes-there _ c.args.table.now c.requires.0 c.requires.1.admits

pub slice_bounds-all-end-2 : goal.slice_bounds-all-end-2
slice_bounds-all-end-2 c = sym (length-take-le _ _ (modes-there _ c.args.table.now c.requires.0 c.requires.1.admits))

pub all-requires : goal.all-requires
all-requires c = asking-of _ c.args.table.now c.requires.0 (omega (arith, c.well_formed)) c.program-ranges.ensures c.requires.1

pub returns : goal.returns
returns c = λ t a. whole_of _ c.args.table.now c.requires.0 a (c.all.ensures t (asked_of _ c.args.table.now c.requires.0 a (omega (arith, c.well_formed)) c.program-ranges.ensures))
