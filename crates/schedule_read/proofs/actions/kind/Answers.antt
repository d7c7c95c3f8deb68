-- Each of the seven kinds is computed; a kind that is none of them has no action (`no_action`).
use Rattle.std.proofs.Common.{rules}
use mathlib.Core.Path.{refl}
use Rattle.schedules.specs.Nodes.{kind_of}
use Rattle.schedule_read.proofs.NodeActions.{number_of, acts-as, no_action}
use Rattle.schedule_read.proofs.actions.kind.Goals as goal

pub returns-in-3 : goal.returns-in-3
unfolding kind_of number_of
returns-in-3 c = acts-as _ (rw c.in-3.is refl)

pub returns-in-4 : goal.returns-in-4
unfolding kind_of number_of
returns-in-4 c = acts-as _ (rw c.in-4.is refl)

pub returns-in-5 : goal.returns-in-5
unfolding kind_of number_of
returns-in-5 c = acts-as _ (rw c.in-5.is refl)

pub returns-in-6 : goal.returns-in-6
unfolding kind_of number_of
returns-in-6 c = acts-as _ (rw c.in-6.is refl)

pub returns-in-7 : goal.returns-in-7
unfolding kind_of number_of
returns-in-7 c = acts-as _ (rw c.in-7.is refl)

pub returns-in-8 : goal.returns-in-8
unfolding kind_of number_of
returns-in-8 c = acts-as _ (rw c.in-8.is refl)

pub returns-in-9 : goal.returns-in-9
unfolding kind_of number_of
returns-in-9 c = acts-as _ (rw c.in-9.is refl)

pub returns-in_default : goal.returns-in_default
returns-in_default c = acts-as _ (no_action _ (search rules) (search rules) (search rules) (search rules) (search rules) (search rules) (search rules))
