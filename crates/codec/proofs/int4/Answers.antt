use mathlib.Core.Path.{ap, ◌∙◌}
use mir.Syntax.{w32}
use mir.ValLaws.{to_z-of_z}
use Rattle.semantics.specs.Bytes.{signed}
use Rattle.codec.proofs.Words.{from-four, to-signed}
use Rattle.codec.proofs.int4.Goals as goal

pub returns : goal.returns
returns c = to_z-of_z w32 c.from_be_bytes.result (record { sfits = c.from_be_bytes.type_inv }) ∙ c.from_be_bytes.ensures ∙ to-signed _ ∙ ap signed (from-four _ _ _ _)
