use native.Mathlib.Omega.{arith}
use Rattle.table_read.proofs.LocationLoop.{no-count, few, many, count-is}
use Rattle.table_read.proofs.locations.count.Goals as goal

pub returns-then-s-lt2 : goal.returns-then-s-lt2
returns-then-s-lt2 c = no-count _ (omega arith)

pub returns-then-n-lt1 : goal.returns-then-n-lt1
returns-then-n-lt1 c = few _ c.nat2-n.ensures (omega arith) (omega arith)

pub returns-then-n-gt-LOCATIONS : goal.returns-then-n-gt-LOCATIONS
returns-then-n-gt-LOCATIONS c = many _ c.nat2-n.ensures (omega arith) (omega arith)

pub returns : goal.returns
returns c = count-is _ c.nat2-n.ensures (omega arith) (omega arith) (omega arith)
