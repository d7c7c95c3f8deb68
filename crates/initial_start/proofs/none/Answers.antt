use Rattle.initial_start.proofs.StartGiven.{none-held}
use Rattle.initial_start.proofs.none.Goals as goal

pub returns : goal.returns
returns c = none-held
