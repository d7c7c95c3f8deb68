-- The section: its length, the number of actions and their rows.
use mathlib.Core.Path.{ap}
use Prim.Native.Nat.{ℕ, ◌+◌}
use native.Mathlib.Omega.{arith}
use Rattle.edition.specs.Editions.{edition_of}
use Rattle.edition.proofs.Widths.{width-high}
use Rattle.table_write.proofs.TableBytes.{actions-long, actions-put}
use Rattle.table_write.proofs.table.put_actions.Goals as goal

pub overflow_add-list : goal.overflow_add-list
overflow_add-list c = let e = edition_of c.args.ed in
    omega (arith, c.requires.in_index.1.short, c.requires.in_index.0.few, e.entries_fit, c.width.ensures, width-high e.width)

pub put2-j-requires : goal.put2-j-requires
put2-j-requires c = let e = edition_of c.args.ed in
    let l = actions-long c.requires.in_index.0 c.requires.in_index.1 in
    (omega (arith, c.requires.room, l), omega (arith, c.requires.in_index.1.short, c.requires.in_index.0.few, e.entries_fit, c.width.ensures, width-high e.width))

pub put_number-l-requires : goal.put_number-l-requires
put_number-l-requires c = let p = c.put2-j in
    let l = actions-long c.requires.in_index.0 c.requires.in_index.1 in
    (omega (arith, c.requires.room, l, p.ensures.0, p.auto.d), omega (arith, c.requires.in_index.1.few, c.requires.in_index.0.few, (edition_of c.args.ed).nodes_fit))

pub write-requires : goal.write-requires
write-requires c = let p = c.put2-j in
    let q = c.put_number-l in
    let l = c.requires.in_index.1.sizes c.args.s.now c.requires.in_index.0.each in
    record { in_index = c.requires.in_index.0; room = omega (arith, c.requires.room, l, actions-long c.requires.in_index.0 c.requires.in_index.1, p.ensures.0, q.ensures.0, p.auto.d, q.auto.d) }

pub returns : goal.returns
returns c = let e = ap (λ (x : ℕ). c.args.list.at + x) c.width.ensures in
    actions-put c.requires.in_index.0 c.requires.in_index.1 (omega (arith, c.requires.room)) e c.put2-j.ensures c.put_number-l.ensures c.write.ensures
