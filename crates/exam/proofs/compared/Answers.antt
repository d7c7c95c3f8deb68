-- Both fronts are as long as the records; what is said of them is `agreed`.
use mathlib.Core.Path.{◌∙◌}
use native.Mathlib.Omega.{arith}
use Rattle.records.proofs.Records.{room_for}
use Rattle.exam.proofs.Comparing.{front-most, front-agreed}
use Rattle.exam.proofs.Sizes.{front_length}
use Rattle.exam.proofs.compared.Goals as goal

pub slice_bounds-agreed-end : goal.slice_bounds-agreed-end
slice_bounds-agreed-end c = let r = c.requires.0 in let e = c.records_length-size.ensures r.schedule r.schedule_read in front_length _ c.args.a.now (omega (arith, e, room_for _ r.schedule.plant _ _ r.enough))

pub slice_bounds-agreed-end-2 : goal.slice_bounds-agreed-end-2
slice_bounds-agreed-end-2 c = let r = c.requires.1 in let e = c.records_length-size.ensures r.schedule r.schedule_read in front_length _ c.args.b.now (omega (arith, e, room_for _ r.schedule.plant _ _ r.enough))

pub returns : goal.returns
returns c = λ s h.
    let a = c.args in
    let n = c.records_length-size.result in
    rw (← c.records_length-size.ensures s h) (c.agreed.ensures n (front-most n a.a.now) (front-most n a.b.now) ∙ front-agreed n a.r a.t a.a.now a.b.now)
