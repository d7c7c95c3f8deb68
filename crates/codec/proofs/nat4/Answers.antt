use mathlib.Core.Path.{◌∙◌}
use Rattle.codec.proofs.Words.{from-four}
use Rattle.codec.proofs.nat4.Goals as goal

pub returns : goal.returns
returns c = c.from_be_bytes.ensures ∙ from-four _ _ _ _
