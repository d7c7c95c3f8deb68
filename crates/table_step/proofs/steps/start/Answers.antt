use mathlib.Core.Path.{refl}
use Rattle.table_step.proofs.Settling.{located-first, stands-first}
use Rattle.table_step.proofs.steps.start.Goals as goal

pub acting-requires : goal.acting-requires
acting-requires c = located-first _ c.location.ensures c.requires

pub returns : goal.returns
returns c = λ t d. stands-first _ t d refl c.location.ensures c.acting.ensures
