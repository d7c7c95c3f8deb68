use mathlib.Core.Path.{◌∙◌}
use borrow.Author.Tests.{lt-leb}
use native.Mathlib.Omega.{arith}
use lib.ListN.{length}
use Rattle.schedule_read.proofs.PartsStand.{header-short, header-version}
use Rattle.schedule_read.proofs.parts.header.Goals as goal

pub returns-then-file-ge3 : goal.returns-then-file-ge3
returns-then-file-ge3 c = header-version _ _ c.version.ensures (omega arith)

pub returns-else-file-ge3 : goal.returns-else-file-ge3
returns-else-file-ge3 c = lt-leb 3 (length c.args.file.now) (omega arith) ∙ header-short _ c.args.file.now (omega arith)
