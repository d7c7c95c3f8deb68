use mathlib.Core.Path.{◌∙◌}
use native.Mathlib.Omega.{arith}
use Rattle.codec.proofs.Writing.{wrote_as}
use Rattle.records.proofs.SetBytes.{eight, set-start, set_room, set_next, set-end}
use Rattle.records.proofs.put_set.Goals as goal

pub loop-k-init : goal.loop-k-init
loop-k-init c = set-start c.set_words-k.ensures.1

pub offset_bounds-acting-k : goal.offset_bounds-acting-k
offset_bounds-acting-k c = omega (arith, c.loop-k.invariant.few)

pub bounds-acting-k : goal.bounds-acting-k
bounds-acting-k c = omega (arith, c.loop-k.invariant.few)

pub put_slice-at-requires : goal.put_slice-at-requires
put_slice-at-requires c = let r = set_room c.loop-k.invariant (omega (arith, c.set_words-k.ensures.0, c.requires)) in
    omega (arith, r.0, r.1)

pub loop-k-preserved : goal.loop-k-preserved
loop-k-preserved c = let p = c.put_slice-at.ensures in
    set_next c.loop-k.invariant (omega (arith, c.set_words-k.ensures.0, c.requires)) c.args.acting.now.fit (omega arith) (wrote_as (c.to_be_bytes.ensures ∙ eight _) p.1) (omega (arith, p.0))

pub shape_of-d : goal.shape_of-d
shape_of-d c = (set_room c.loop-k.invariant (omega (arith, c.set_words-k.ensures.0, c.requires))).1

pub returns : goal.returns
returns c = let e = c.set_words-k.ensures.0 in
    set-end c.loop-k.invariant (omega (arith, e, c.requires)) e c.loop-k-test.false
