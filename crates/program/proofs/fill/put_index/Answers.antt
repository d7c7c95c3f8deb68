use mathlib.Core.Path.{◌≡◌}
use native.Mathlib.Omega.{arith}
use Rattle.std.proofs.Common.{rules}
use lib.ListN.{length}
use Rattle.program.proofs.FilledRows.{room, filled}
use Rattle.program.proofs.fill.put_index.Goals as goal

pub put_places-requires : goal.put_places-requires
put_places-requires c = let l : length c.args.p.mode_offsets ≡ 128 = search rules in room c.args.p.mode_offsets 128 _ l (omega arith)

pub returns : goal.returns
returns c = let l : length c.args.p.mode_offsets ≡ 128 = search rules in
    filled c.args.p _ _ _ _ _ c.args.ix.now c.requires.0 (omega arith) c.requires.1 c.requires.2 c.requires.3
    c.put_places.ensures c.put_kinds.ensures c.put_places-2.ensures c.put_places-3.ensures
