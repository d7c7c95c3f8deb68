use Rattle.program.proofs.Rows.{row_at}
use Rattle.program.proofs.Program.end.Goals as goal

pub returns : goal.returns
returns c = row_at 768 c.args.self.now.index.now c.args.n 0
