use native.Mathlib.Omega.{arith}
use Rattle.table_read.proofs.PartsStand.{header-short, header-version, header-length}
use Rattle.table_read.proofs.parts.header.Goals as goal

pub returns-then-t-lt5 : goal.returns-then-t-lt5
returns-then-t-lt5 c = header-short _ _ (omega arith)

pub returns-then-t-version : goal.returns-then-t-version
returns-then-t-version c = header-version _ _ c.version.ensures (omega arith) c.if-t-version.true

pub returns : goal.returns
returns c = header-length _ _ c.version.ensures (omega arith) c.if-t-version.false c.nat4.ensures
