-- The section after its length: two pieces.
use native.Mathlib.Omega.{arith}
use Rattle.semantics.specs.Bytes.{out2}
use Rattle.semantics.specs.TableFile.{in_section2}
use Rattle.semantics.proofs.WrittenTables.{section2-length}
use Rattle.table_write.proofs.TableBytes.{put_then}
use Rattle.table_write.proofs.table.put_section.Goals as goal

pub put2-j-requires : goal.put2-j-requires
put2-j-requires c = (omega (arith, c.requires.0, section2-length c.args.s.now), omega (arith, c.requires.1))

pub put_slice-requires : goal.put_slice-requires
put_slice-requires c = let p = c.put2-j in
    omega (arith, c.requires.0, section2-length c.args.s.now, p.ensures.0, p.auto.d)

pub returns : goal.returns
unfolding in_section2 out2
returns c = let p = c.put2-j.ensures in
    let q = c.put_slice.ensures in
    put_then (record { ends = p.0; writes = p.1 }) (record { ends = q.0; writes = q.1 }) (omega (arith, c.requires.0))
