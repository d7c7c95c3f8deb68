-- The first n nodes are counted.
use Rattle.edition.specs.Editions.{edition_of}
use Rattle.table_write.specs.ActionTable.{Measured}
use Rattle.table_write.proofs.actions.Actions.measured.Given as goal

abbrev pub invariant-loop-n : goal.invariant-loop-n
invariant-loop-n l = Measured (edition_of l.ed) l.self.kinds.now l.self.starts.now l.self.ends.now l.n l.c l.size
