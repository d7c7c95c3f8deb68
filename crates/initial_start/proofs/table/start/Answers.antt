use mathlib.Core.Path.{sym, ap, ap₂, ◌∙◌}
use Rattle.semantics.specs.Editions.{edition1}
use Rattle.paper.proofs.Answered.{was-refused}
use Rattle.initial_start.specs.Held.{held}
use Rattle.initial_start.specs.Initial.{sections_start}
use Rattle.initial_start.proofs.StartGiven.{table-none, table-stands, table-gives}
use Rattle.initial_start.proofs.table.start.Goals as goal

pub returns-in_default : goal.returns-in_default
returns-in_default c = c.none.ensures ∙ ap held (sym (table-none edition1 _ (was-refused _ _ c.in_default.ensures)))

pub of-requires : goal.of-requires
of-requires c = (table-stands edition1 _ c.in-Ok.ensures).variables.inside

pub of-requires-2 : goal.of-requires-2
of-requires-2 c = (table-stands edition1 _ c.in-Ok.ensures).equations.inside

pub returns : goal.returns
returns c = c.of-3.ensures edition1 ∙ ap held (ap₂ (sections_start edition1) c.of.ensures c.of-2.ensures ∙ table-gives edition1 _ c.in-Ok.ensures)
