-- The rows and ranges are put one after the other; each array of the index has its own length.
use mathlib.Core.Path.{◌≡◌}
use native.Mathlib.Omega.{arith}
use Rattle.std.proofs.Common.{rules}
use lib.ListN.{length}
use Rattle.program.proofs.FilledRows.{location-in, filled-still}
use Rattle.table_read.proofs.LentTable.{table-lent}
use Rattle.table_read.proofs.call.program.Goals as goal

pub returns : goal.returns
returns c = λ ed f t e small j.
    let x = c.args.x in
    let i = c.put_index.ensures in
    let modes : length x.plant.mode_offsets ≡ 128 = search rules in
    let kinds : length x.actions.kinds ≡ 256 = search rules in
    let starts : length x.actions.starts ≡ 256 = search rules in
    let ends : length x.actions.ends ≡ 256 = search rules in
    let places : length x.locations.places ≡ 1024 = search rules in
    rw c.put_locations.ensures (table-lent ed f small e j
    (filled-still _ x.locations.places x.parts.locations.start i (omega (arith, modes)) (omega (arith, kinds)) (omega (arith, starts)) (omega (arith, ends)))
    (location-in _ x.locations.places x.parts.locations.start i.long (omega (arith, places)))
    c.ranges-2.ensures)
