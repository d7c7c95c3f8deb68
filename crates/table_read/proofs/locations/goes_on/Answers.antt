use mathlib.Core.Path.{refl}
use borrow.Author.Tests.{lt-ltb, le-ltb}
use Rattle.semantics.specs.TableFile.{FINISHED}
use Rattle.semantics.specs.Tables.{is_going_on}
use Rattle.table_read.proofs.locations.goes_on.Goals as goal

pub returns-then-t-n : goal.returns-then-t-n
unfolding is_going_on FINISHED
returns-then-t-n c = rw (lt-ltb _ _ c.if-t-n.true) refl

pub returns-else-t-n : goal.returns-else-t-n
unfolding is_going_on FINISHED
returns-else-t-n c = rw (le-ltb _ _ c.if-t-n.false) refl
