use mathlib.Core.Path.{◌≡◌}
use native.Mathlib.Omega.{arith}
use Rattle.std.proofs.Common.{rules}
use lib.ListN.{length}
use Rattle.program.proofs.FilledRows.{room, rows_are}
use Rattle.program.proofs.fill.ranges.Goals as goal

pub put_ranges-requires : goal.put_ranges-requires
put_ranges-requires c = let l : length c.args.p.lows ≡ 32 = search rules in room c.args.p.lows 32 _ l (omega arith)

pub put_ranges-requires-2 : goal.put_ranges-requires-2
put_ranges-requires-2 c = let l : length c.args.p.highs ≡ 32 = search rules in room c.args.p.highs 32 _ l (omega arith)

pub put_ranges-requires-3 : goal.put_ranges-requires-3
put_ranges-requires-3 c = let l : length c.args.p.steady ≡ 32 = search rules in room c.args.p.steady 32 _ l (omega arith)

pub returns : goal.returns
returns c = let p = c.args.p in
    let l : length p.lows ≡ 32 = search rules in
    let h : length p.highs ≡ 32 = search rules in
    let t : length p.steady ≡ 32 = search rules in
    rows_are p.lows p.highs p.steady l h t c.put_ranges.ensures c.put_ranges-2.ensures c.put_ranges-3.ensures
