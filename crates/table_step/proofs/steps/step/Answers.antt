-- Either the run is over (`step-over`), or the event is judged, then settled (`step-at`).
use Rattle.table_step.proofs.Settling.{judging, moving, step-over, step-at}
use Rattle.table_step.proofs.steps.step.Goals as goal

pub returns-in_default : goal.returns-in_default
returns-in_default c = λ t o d g f. step-over _ t o g f c.args.e c.in_default.is

pub judge-event-requires : goal.judge-event-requires
judge-event-requires c = judging _ _ c.requires c.in-Some.is

pub settled-requires : goal.settled-requires
settled-requires c = moving _ _ c.args.e c.requires c.in-Some.is c.judge-event.ensures

pub returns : goal.returns
returns c = λ t o d g f. step-at _ _ t o d g f c.args.e c.settled.result _ c.in-Some.is c.judge-event.ensures c.settled.ensures
