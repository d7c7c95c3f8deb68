-- Either all stay in their ranges, and all add, or the first that leaves its range is the answer.
use lib.ListN.{length}
use Rattle.effects.proofs.Told.{err_is, stops, stay-goes_on}
use Rattle.effects.proofs.Adds.{variables-long, none-added, all_stay}
use native.Mathlib.Omega.{arith}
use Rattle.effects.proofs.advance.Goals as goal

pub returns-in_err-all_stay : goal.returns-in_err-all_stay
returns-in_err-all_stay c = let p = variables-long c.args.p.now.ranges.now (length c.args.values.now) c.requires.few (omega arith) in
    rw (err_is _ _ c.from_residual.ensures.1) (none-added _ _ _ p c.in_err-all_stay.ensures.told (stops _))

pub add_all-requires : goal.add_all-requires
add_all-requires c = (c.requires, omega arith, c.in_ok-all_stay.ensures.stay stay-goes_on)

pub returns : goal.returns
returns c = all_stay _ _ _ (variables-long c.args.p.now.ranges.now (length c.args.values.now) c.requires.few (omega arith)) (length c.args.values.now) (c.in_ok-all_stay.ensures.stay stay-goes_on) (omega arith) c.add_all.ensures
