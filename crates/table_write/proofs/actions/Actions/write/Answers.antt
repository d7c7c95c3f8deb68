use native.Mathlib.Omega.{arith}
use Rattle.edition.specs.Editions.{edition_of}
use Rattle.table_write.proofs.ActionLoop.{rows_next, rows-room, rows_none, rows_end}
use Rattle.table_write.proofs.TableBytes.{put_then, put_as}
use Rattle.table_write.proofs.actions.Actions.write.Goals as goal

pub loop-n-init : goal.loop-n-init
loop-n-init c = rows_none _ _ _ _ _ _ _

pub row-at-requires : goal.row-at-requires
row-at-requires c = let a = c.args in
    let l = c.loop-n in
    let room = rows-room (edition_of a.ed) a.s.now a.self.kinds.now a.self.starts.now a.self.ends.now c.loop-n-test.true in
    record {
      in_index = (c.requires.in_index.each l.n c.loop-n-test.true, omega (arith, c.requires.in_index.few, (edition_of a.ed).nodes_fit));
      room = omega (arith, room, l.invariant.ends, c.requires.room, l.auto.body);
    }

pub loop-n-preserved : goal.loop-n-preserved
loop-n-preserved c = let a = c.args in
    let l = c.loop-n in
    put_as (rows_next _ a.s.now a.self.kinds.now a.self.starts.now a.self.ends.now l.n) (put_then l.invariant c.row-at.ensures (omega (arith, c.requires.room)))

pub returns : goal.returns
returns c = rows_end _ _ _ _ _ (omega arith) c.loop-n.invariant
