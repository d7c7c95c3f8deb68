-- The section: its length, the number of locations and their rows.
use native.Mathlib.Omega.{arith}
use Rattle.table_write.proofs.TableBytes.{fitting, locations-long, locations-put}
use Rattle.table_write.proofs.table.put_locations.Goals as goal

pub put4-j-requires : goal.put4-j-requires
put4-j-requires c = let x = c.requires.0 in
    (omega (arith, x.room, locations-long x.has), omega (arith, x.has.short))

pub put2-l-requires : goal.put2-l-requires
put2-l-requires c = let p = c.put4-j in
    let x = c.requires.0 in
    (omega (arith, x.room, locations-long x.has, p.ensures.0, p.auto.d), omega (arith, x.has.few))

pub number-requires : goal.number-requires
number-requires c = let p = c.put4-j in
    let q = c.put2-l in
    let x = c.requires.0 in
    (fitting x.has (omega (arith, x.room, locations-long x.has, p.ensures.0, q.ensures.0, p.auto.d, q.auto.d)), c.requires.1)

pub returns : goal.returns
returns c = let n = c.number.ensures in
    record { locations_put = locations-put (omega (arith, c.requires.0.room)) c.put4-j.ensures c.put2-l.ensures n.numbered; comparisons = n.comparisons }
