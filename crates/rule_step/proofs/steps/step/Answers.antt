-- No node acts and the run is over (`step-over`), or what the judged event makes of the acting nodes is the step (`step-at`).
use Rattle.rule_step.proofs.Settling.{judging, movable, step-over, step-at}
use Rattle.rule_step.proofs.steps.step.Goals as goal

pub returns-then-is_empty : goal.returns-then-is_empty
returns-then-is_empty c = λ s o d i g f. step-over _ s o d i g f _ (c.is_empty.ensures.yes c.if-is_empty.true)

pub judge-event-requires : goal.judge-event-requires
judge-event-requires c = judging _ c.requires (c.is_empty.ensures.no c.if-is_empty.false)

pub settled-requires : goal.settled-requires
settled-requires c = movable _ c.args.acting.now c.args.e c.requires (c.is_empty.ensures.no c.if-is_empty.false) c.judge-event.ensures

pub returns : goal.returns
returns c = λ s o d k g f. step-at _ s o d k g f _ (c.is_empty.ensures.no c.if-is_empty.false) c.judge-event.ensures (c.settled.ensures _)
