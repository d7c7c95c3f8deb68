-- Version, length and the two sections that are copied: four pieces.
use native.Mathlib.Omega.{arith}
use Rattle.semantics.specs.Bytes.{out4}
use Rattle.semantics.specs.TableFile.{in_section2}
use Rattle.semantics.proofs.WrittenTables.{section2-length}
use Rattle.edition.specs.Editions.{edition_of}
use Rattle.table_write.proofs.TableBytes.{head-is, front_long, put_then, put_as}
use Rattle.table_write.proofs.table.put_front.Goals as goal

pub put1-i-requires : goal.put1-i-requires
put1-i-requires c = omega (arith, c.requires.room, front_long (edition_of c.args.ed) c.args.whole c.args.vs.now c.args.es.now)

pub put4-j-requires : goal.put4-j-requires
put4-j-requires c = let p = c.put1-i in
    (omega (arith, c.requires.room, front_long (edition_of c.args.ed) c.args.whole c.args.vs.now c.args.es.now, p.ensures.0, p.auto.d), c.requires.short.2)

pub put_section-l-requires : goal.put_section-l-requires
put_section-l-requires c = let q = c.put4-j in
    let p = c.put1-i in
    let k = front_long (edition_of c.args.ed) c.args.whole c.args.vs.now c.args.es.now in
    (omega (arith, c.requires.room, k, section2-length c.args.vs.now, p.ensures.0, p.auto.d, q.ensures.0, q.auto.d), c.requires.short.0)

pub put_section-requires : goal.put_section-requires
put_section-requires c = let q = c.put4-j.ensures.0 in
    let k = front_long (edition_of c.args.ed) c.args.whole c.args.vs.now c.args.es.now in
    let p = c.put1-i.ensures.0 in
    (omega (arith, c.requires.room, k, q, p, c.put_section-l.ensures.ends, section2-length c.args.vs.now, section2-length c.args.es.now), c.requires.short.1)

pub returns : goal.returns
unfolding out4
returns c = let p = c.put1-i.ensures in
    let q = c.put4-j.ensures in
    let h = put_then (record { ends = p.0; writes = p.1 }) (record { ends = q.0; writes = q.1 }) (omega arith) in
    let a = c.args in
    put_as (head-is (edition_of a.ed) a.whole (in_section2 a.vs.now) (in_section2 a.es.now) c.version.ensures)
    (put_then (put_then h c.put_section-l.ensures (omega arith)) c.put_section.ensures (omega arith))
