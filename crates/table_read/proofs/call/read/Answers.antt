use mathlib.Core.Path.{refl}
use Rattle.std.proofs.Common.{Err}
use Rattle.table_read.proofs.TableCounts.{no-counts, counts-are}
use Rattle.table_read.proofs.call.read.Goals as goal

pub returns-in-Err : goal.returns-in-Err
returns-in-Err c = no-counts _ c.args.table.now (Err c.in-Err.unread) c.in-Err.unread refl (rw c.in-Err.is at c.index-read.ensures)

pub returns : goal.returns
returns c = counts-are _ c.args.table.now (rw c.in-Ok.is at c.index-read.ensures)
