use Rattle.program.proofs.Rows.{row_at}
use Rattle.program.proofs.Program.location.Goals as goal

pub returns : goal.returns
returns c = row_at 1024 c.args.self.now.index.now c.args.x 0
