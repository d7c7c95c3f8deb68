use mathlib.Core.Path.{◌∙◌}
use Rattle.codec.proofs.Words.{from-two}
use Rattle.codec.proofs.nat2.Goals as goal

pub returns : goal.returns
returns c = c.from.ensures ∙ c.from_be_bytes.ensures ∙ from-two _ _
