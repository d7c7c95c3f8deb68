-- Each result has its law, the same for both runs (execution Stepping).
use mathlib.Core.Path.{ap}
use Rattle.schedules.specs.Calls.{program_of}
use Rattle.paper.specs.Answers.{answer_number}
use Rattle.effects.proofs.Told.{told-untaken, told-stay, told-move}
use Rattle.execution.proofs.Stepping.{stands_over, settled-away, settled-above, settled-below, settled-stay, settled-move}
use Rattle.rule_step.proofs.Settling.{acts-here, stands_at, answered}
use Rattle.rule_step.proofs.steps.settled.Goals as goal

pub moved-requires : goal.moved-requires
moved-requires c = c.requires.standing _ _ (told-move c.in-Ok-Some.is (rw c.in-Ok-Some.is at c.in-Ok-Some.field-0-is))

pub returns-in-Err-Away : goal.returns-in-Err-Away
returns-in-Err-Away c = λ ed s x h vs ms e vs' ms' l. settled-away ed (program_of s) _ x _ (acts-here s h) vs ms e vs' ms' l (told-untaken c.in-Err-Away.is (rw c.in-Err-Away.is at c.in-Err-Away.field-0-is)) (stands_at s h)

pub returns-in-Err-Above : goal.returns-in-Err-Above
returns-in-Err-Above c = let r = c.end.ensures in
    λ ed s x h vs ms e vs' ms' l. answered ed s (ap answer_number r.answer) (settled-above ed (program_of s) _ x _ (acts-here s h) vs ms e vs' ms' l (told-untaken c.in-Err-Above.is (rw c.in-Err-Above.is at c.in-Err-Above.field-0-is)) (stands_over r.none))

pub returns-in-Err-Below : goal.returns-in-Err-Below
returns-in-Err-Below c = let r = c.end-in-Err-Below.ensures in
    λ ed s x h vs ms e vs' ms' l. answered ed s (ap answer_number r.answer) (settled-below ed (program_of s) _ x _ (acts-here s h) vs ms e vs' ms' l (told-untaken c.in-Err-Below.is (rw c.in-Err-Below.is at c.in-Err-Below.field-0-is)) (stands_over r.none))

pub returns-in-Ok-None : goal.returns-in-Ok-None
returns-in-Ok-None c = λ ed s x h vs ms e vs' ms' l. settled-stay ed (program_of s) _ x _ (acts-here s h) vs ms e vs' ms' l (told-stay c.in-Ok-None.is (rw c.in-Ok-None.is at c.in-Ok-None.field-0-is)) (stands_at s h)

pub returns-in-Ok-Some : goal.returns-in-Ok-Some
returns-in-Ok-Some c = λ ed s x h vs ms e vs' ms' l. settled-move ed (program_of s) _ x _ (acts-here s h) vs ms e vs' ms' l (told-move c.in-Ok-Some.is (rw c.in-Ok-Some.is at c.in-Ok-Some.field-0-is)) (c.moved.ensures s x h)
