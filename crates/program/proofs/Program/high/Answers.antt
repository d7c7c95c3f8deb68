use mathlib.Core.Path.{◌∙◌}
use lib.IntN.{pos}
use mir.Syntax.{w32}
use mir.ValLaws.{to_z-of_z}
use Rattle.program.proofs.Rows.{row_at}
use Rattle.program.proofs.Program.high.Goals as goal

pub returns : goal.returns
returns c = to_z-of_z w32 _ (record { sfits = c.result-1.given }) ∙ row_at 32 c.args.self.now.ranges.now c.args.v (pos 0)
