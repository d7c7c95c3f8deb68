use Rattle.modes.proofs.Walks.{all-next, all_end}
use Rattle.modes.proofs.lay_all.Goals as goal

pub loop-j-preserved : goal.loop-j-preserved
loop-j-preserved c = all-next c.loop-j.invariant c.loop-j-test.true c.mode_place.ensures c.lay_rates.ensures

pub returns : goal.returns
returns c = all_end c.loop-j.invariant c.loop-j-test.false
