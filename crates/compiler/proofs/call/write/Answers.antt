-- Three pieces, whose lengths are those that were planned.
use native.Mathlib.Omega.{arith}
use Rattle.compiler.proofs.Written.{front_fits, operands, counted, planned-long, front-planned, list-long, table-written, comparisons-made}
use Rattle.compiler.proofs.call.write.Goals as goal

pub put_front-i-requires-clause-short : goal.put_front-i-requires-clause-short
put_front-i-requires-clause-short c = rw (c.of.ensures, c.of-2.ensures) (front_fits c.requires.0)

pub put_front-i-requires-clause-room : goal.put_front-i-requires-clause-room
put_front-i-requires-clause-room c = let g = c.requires.0 in rw (c.of.ensures, c.of-2.ensures) (omega (arith, planned-long g, front-planned g, c.requires.1))

pub put_actions-j-requires-clause-in_index : goal.put_actions-j-requires-clause-in_index
put_actions-j-requires-clause-in_index c = let g = c.requires.0 in rw c.of-3.ensures (operands g, g.list)

pub put_actions-j-requires-clause-room : goal.put_actions-j-requires-clause-room
put_actions-j-requires-clause-room c = let g = c.requires.0 in
    let p = rw (c.of.ensures, c.of-2.ensures) at c.put_front-i.ensures in
    rw c.of-3.ensures (omega (arith, planned-long g, front-planned g, list-long g, c.requires.1, p.ends, c.put_front-i.auto.table))

pub put_locations-requires : goal.put_locations-requires
put_locations-requires c = let g = c.requires.0 in
    let p = rw (c.of.ensures, c.of-2.ensures) at c.put_front-i.ensures in
    let q = rw c.of-3.ensures at c.put_actions-j.ensures in
    (counted g (omega (arith, planned-long g, front-planned g, list-long g, c.requires.1, p.ends, c.put_front-i.auto.table, q.ends, c.put_actions-j.auto.table)), omega (arith, g.full))

pub returns-clause-written : goal.returns-clause-written
returns-clause-written c =
    let p = rw (c.of.ensures, c.of-2.ensures) at c.put_front-i.ensures in
    let q = rw c.of-3.ensures at c.put_actions-j.ensures in
    table-written c.requires.0 p q c.put_locations.ensures.locations_put

pub returns-clause-comparisons : goal.returns-clause-comparisons
returns-clause-comparisons c = comparisons-made c.requires.0 c.put_locations.ensures.comparisons
