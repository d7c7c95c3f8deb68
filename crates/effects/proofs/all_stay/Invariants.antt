-- The first v variables stay in their ranges (`FirstStay`).
use lib.ListN.{length}
use Rattle.effects.specs.Ranges.{variables_in, FirstStay}
use Rattle.effects.proofs.all_stay.Given as goal

abbrev pub invariant-loop-v : goal.invariant-loop-v
invariant-loop-v l = FirstStay (variables_in l.p.ranges.now (length l.values)) l.rates l.values l.v
