use mathlib.Core.Path.{◌≡◌, refl, ◌∙◌}
use Prim.Native.Nat.{◌<◌}
use native.Mathlib.Omega.{arith}
use lib.ListN.{length}
use lib.Seq.{length-take-le, take_all}
use Rattle.codec.proofs.Writing.{wrote_none, put-more, wrote_as, take_more}
use Rattle.codec.proofs.put_slice.Goals as goal

pub loop-b-init : goal.loop-b-init
loop-b-init c = (omega arith, omega arith, refl, wrote_none _ _)

pub loop-b-preserved : goal.loop-b-preserved
loop-b-preserved c = let l = c.loop-b in
    let s = c.args.s.now in
    let p = c.put1-at in
    let h : l.b-index < length s = omega arith in (
      omega arith,
      omega (arith, p.ensures.0),
      p.auto.d ∙ l.invariant.2,
      wrote_as (take_more s l.b-index h) (put-more l.invariant.3 p.ensures.1 (omega arith) (omega (arith, length-take-le l.b-index s l.invariant.0))),
    )

pub returns : goal.returns
returns c = let l = c.loop-b in
    let e : l.b-index ≡ length c.args.s.now = omega arith in
    (omega arith, wrote_as (take_all l.b-index c.args.s.now (omega arith)) l.invariant.3)
