use Rattle.std.proofs.Common.{rules}
use mathlib.Core.Path.{◌∙◌}
use lib.IntN.{pos}
use lib.ListN.{get_or}
use mir.Syntax.{w32}
use mir.Val.{SFits}
use mir.ValLaws.{to_z-of_z}
use native.Mathlib.Omega.{arith}
use Rattle.codec.specs.Padding.{pad}
use Rattle.start_read.proofs.StartBytes.{within-range}
use Rattle.start_read.proofs.StartTurns.{values-start, values-next, values-stop, values-end, inside-held}
use Rattle.start_read.proofs.read_values.Goals as goal

pub loop-i-init : goal.loop-i-init
unfolding pad
loop-i-init c = let a = c.args in values-start a.s.now a.n a.lows.now a.highs.now

pub returns-then-not-contains : goal.returns-then-not-contains
returns-then-not-contains c = let a = c.args in let l = c.loop-i in
    let z = c.int4-z in
    let f : SFits w32 z.result = record { sfits = z.type_inv } in
    let n = c.new.ensures in
    let h = rw (n.exhausted, n.start, n.end) at c.contains.ensures.value in
    let t = inside-held (get_or a.lows.now l.i (pos 0)) (get_or a.highs.now l.i (pos 0)) (search rules) (search rules) f z.ensures (h ∙ within-range _ _ _) in
    values-stop a.s.now a.n a.lows.now a.highs.now l.i l.invariant (omega arith) (omega arith) (t ∙ c.if-not-contains.true)

pub loop-i-preserved : goal.loop-i-preserved
loop-i-preserved c = let a = c.args in let l = c.loop-i in
    let z = c.int4-z in
    let f : SFits w32 z.result = record { sfits = z.type_inv } in
    let n = c.new.ensures in
    let h = rw (n.exhausted, n.start, n.end) at c.contains.ensures.value in
    let t = inside-held (get_or a.lows.now l.i (pos 0)) (get_or a.highs.now l.i (pos 0)) (search rules) (search rules) f z.ensures (h ∙ within-range _ _ _) in
    values-next a.s.now a.n a.lows.now a.highs.now l.i l.invariant (omega arith) (omega arith) (t ∙ c.if-not-contains.false) _ (to_z-of_z w32 _ f ∙ z.ensures)

pub returns : goal.returns
returns c = let a = c.args in
    let l = c.loop-i in
    values-end a.s.now a.n a.lows.now a.highs.now l.i l.invariant (omega arith) (omega arith)
