use Rattle.std.proofs.Common.{refl, ◌∙◌, arith}
use mathlib.Core.List.{flat_map}
use Rattle.semantics.specs.Practice.{drawn, practice_list}
use Rattle.semantics.proofs.PracticeCall.{seed_after, list_length}
use Rattle.codec.proofs.Writing.{wrote_none, put-more, wrote_as}
use Rattle.practice.proofs.Draws.{seed-next, list-next}
use Rattle.practice.proofs.events.put_list.Goals as goal

pub loop-init : goal.loop-init
unfolding seed_after practice_list drawn flat_map
loop-init c = (refl, refl, refl, wrote_none _ 0)

pub loop-preserved : goal.loop-preserved
loop-preserved c = let l = c.loop in
    let seed = c.args.seed in
    let p = c.put_slice-at in
    let e = seed-next seed l.counter c.draw-next.ensures l.invariant.2 in
    let n = list_length seed l.counter in (
      omega (arith, p.ensures.0),
      p.auto.d ∙ l.invariant.1,
      e,
      wrote_as (list-next seed l.counter e) (put-more l.invariant.3 (wrote_as c.event_of.ensures p.ensures.1) (omega arith) (omega arith)),
    )
