use Rattle.schedule_read.proofs.PartsStand.{length-read}
use Rattle.schedule_read.proofs.parts.length_field.Goals as goal

pub returns : goal.returns
returns c = length-read _ c.nat2.ensures
