use Rattle.program.proofs.Rows.{row_at}
use Rattle.program.proofs.Program.kind.Goals as goal

pub returns : goal.returns
returns c = row_at 256 c.args.self.now.index.now c.args.n 0
