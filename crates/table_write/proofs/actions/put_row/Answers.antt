-- Length, node, kind and operand: four pieces.
use mathlib.Core.Path.{ap}
use Prim.Native.Nat.{ℕ, ◌+◌, ◌≤◌}
use lib.ListN.{length}
use native.Mathlib.Omega.{arith}
use Rattle.edition.specs.Editions.{edition_of}
use Rattle.edition.proofs.Widths.{width-high}
use Rattle.numbering.proofs.EntryLines.{byte_fits}
use Rattle.table_write.proofs.ActionLoop.{row-bytes, row-length}
use Rattle.table_write.proofs.TableBytes.{put_then, put_as, put-wide}
use Rattle.table_write.proofs.actions.put_row.Goals as goal

pub overflow_add-l-2 : goal.overflow_add-l-2
overflow_add-l-2 c = omega (arith, c.requires.1, c.width.ensures, width-high (edition_of c.args.ed).width)

pub put_number-i-requires : goal.put_number-i-requires
put_number-i-requires c = let a = c.args in
    let w = (edition_of a.ed).width in
    let l = row-length (edition_of a.ed) a.n a.k a.operand.now in
    (omega (arith, c.requires.2, l), byte_fits w _ (omega (arith, c.requires.1, c.width.ensures, width-high w)))

pub put_number-j-requires : goal.put_number-j-requires
put_number-j-requires c = let a = c.args in
    let p = c.put_number-i in
    (omega (arith, c.requires.2, row-length (edition_of a.ed) a.n a.k a.operand.now, p.ensures.0, p.auto.d), c.requires.0)

pub put1-o-requires : goal.put1-o-requires
put1-o-requires c = let a = c.args in
    let q = c.put_number-j in
    let p = c.put_number-i in
    omega (arith, c.requires.2, row-length (edition_of a.ed) a.n a.k a.operand.now, p.ensures.0, p.auto.d, q.ensures.0, q.auto.d)

pub put_slice-requires : goal.put_slice-requires
put_slice-requires c = let a = c.args in
    let r = c.put1-o in
    let q = c.put_number-j in
    let p = c.put_number-i in
    omega (arith, c.requires.2, row-length (edition_of a.ed) a.n a.k a.operand.now, p.ensures.0, p.auto.d, q.ensures.0, q.auto.d, r.ensures.0, r.auto.d)

pub returns : goal.returns
returns c = let a = c.args in
    let w = (edition_of a.ed).width in
    let p = put-wide w _ c.put_number-i.ensures in
    let q = put-wide w _ c.put_number-j.ensures in
    let r = c.put1-o.ensures in
    let t = c.put_slice.ensures in
    let h : a.at ≤ length a.body.now = omega (arith, c.requires.2) in
    let head = put_then (put_then p q h) (record { ends = r.0; writes = r.1 }) h in
    let e = ap (λ (x : ℕ). length a.operand.now + 1 + x) c.width.ensures in
    put_as (row-bytes (edition_of a.ed) a.n a.k a.operand.now e) (put_then head (record { ends = t.0; writes = t.1 }) h)
