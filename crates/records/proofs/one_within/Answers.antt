use Rattle.std.proofs.Common.{arith}
use Rattle.std.proofs.lemmas.Grind.{common_steps}
use Rattle.semantics.specs.Bytes.{within}
use Rattle.semantics.specs.Run.{how_many}
use Rattle.records.proofs.one_within.Goals as goal

pub returns-clause-count : goal.returns-clause-count
unfolding within how_many
returns-clause-count c = grind (arith, common_steps)
