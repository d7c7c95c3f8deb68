-- The rows of the first n nodes are written.
use Rattle.edition.specs.Editions.{edition_of}
use Rattle.table_write.specs.ActionTable.{rows_to}
use Rattle.table_write.specs.Pieces.{Put}
use Rattle.table_write.proofs.actions.Actions.write.Given as goal

abbrev pub invariant-loop-n : goal.invariant-loop-n
invariant-loop-n l = Put l.initial.body l.from (rows_to (edition_of l.ed) l.s l.self.kinds.now l.self.starts.now l.self.ends.now l.n) l.body l.at
