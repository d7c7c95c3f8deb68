-- Document 01, "Run by the rules", with document 02, item 2: the number of an event's answer.
use Rattle.std.specs.Prelude.{ℕ}
use Rattle.paper.specs.declared.answers.TurnedAway.{TurnedAway}
use Rattle.paper.specs.declared.answers.TurnedAway.TheVariants.{Over, Senseless, NotActing, NoSwitch, NoContinue, SwitchTrue, NotYet, SwitchFalse, ContinueTrue}
use Rattle.paper.specs.declared.answers.Answer.{Answer}
use Rattle.paper.specs.declared.answers.Answer.TheVariants as Answers

-- of an event that is turned away
abbrev pub turned_number : TurnedAway → ℕ
turned_number Over = 23
turned_number Senseless = 24
turned_number NotActing = 25
turned_number NoSwitch = 26
turned_number NoContinue = 27
turned_number SwitchTrue = 28
turned_number NotYet = 29
turned_number SwitchFalse = 30
turned_number ContinueTrue = 31

-- of any event
abbrev pub answer_number : Answer → ℕ
answer_number Answers.Taken = 200
answer_number Answers.Finished = 201
answer_number Answers.Halted = 202
answer_number Answers.Above = 203
answer_number Answers.Below = 204
answer_number (Answers.TurnedAway why) = turned_number why
