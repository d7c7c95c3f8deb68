-- No row of kind 0; else kind and operand are the bytes of an action.
use mathlib.Core.Path.{sym, ap}
use mathlib.Core.List.{flat_map}
use native.Mathlib.Omega.{arith}
use lib.ListN.{length}
use Rattle.semantics.specs.TableFile.{write_action}
use Rattle.edition.specs.Editions.{edition_of}
use Rattle.table_write.proofs.ActionLoop.{coded-short, here-none, row-some}
use Rattle.table_write.proofs.TableBytes.{put-none, put_as}
use Rattle.table_write.proofs.actions.Actions.row.Goals as goal

pub returns-then-k-eq0 : goal.returns-then-k-eq0
unfolding flat_map
returns-then-k-eq0 c = put_as (ap (flat_map (write_action (edition_of c.args.ed))) (sym (here-none c.args.n _ c.if-k-eq0.true))) (put-none _ _)

pub put_row-requires : goal.put_row-requires
put_row-requires c = let h = c.requires.in_index.0 in
    let d = h.coded c.if-k-eq0.false in
    (c.requires.in_index.1, coded-short d, omega (arith, ap length (row-some c.args.n d (edition_of c.args.ed)), c.requires.room))

pub returns : goal.returns
returns c = put_as (row-some c.args.n (c.requires.in_index.0.coded c.if-k-eq0.false) _) c.put_row.ensures
