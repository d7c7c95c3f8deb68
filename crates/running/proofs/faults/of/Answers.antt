-- The records' length by their number is their size (`sized`).
use Rattle.std.proofs.Common.{◌∙◌}
use Rattle.running.proofs.Scanned.{sized, resized}
use Rattle.running.proofs.faults.of.Goals as goal

pub returns : goal.returns
returns c = λ size s e. let k = c.in_ok-size.ensures in resized (k.1 ∙ sized c.args.count size _ k.0 e) c.first.ensures
