use Rattle.rule_step.proofs.Settling.{moved_on, moved-to-end, moved-to-halt}
use Rattle.rule_step.proofs.steps.moved.Goals as goal

pub returns-in-To : goal.returns-in-To
returns-in-To c = λ s x h. moved_on c.advance.ensures c.advance.new.set.fit s x h c.in-To.is

pub returns-in-Finished : goal.returns-in-Finished
returns-in-Finished c = λ s x h. moved-to-end c.advance.ensures c.advance.new.set.fit s x h c.in-Finished.is

pub returns-in-Halted : goal.returns-in-Halted
returns-in-Halted c = λ s x h. moved-to-halt c.advance.ensures c.advance.new.set.fit s x h c.in-Halted.is
