-- The first i actions are read up to p, their nodes ascend below low, and the arrays have them by node (`Indexing`).
use Rattle.edition.specs.Editions.{edition_of}
use Rattle.table_read.proofs.ActionLoop.{Indexing}
use Rattle.table_read.proofs.actions.read.Given as goal

abbrev pub invariant-loop : goal.invariant-loop
invariant-loop l = Indexing (edition_of l.ed) l.s l.counter l.p l.low l.kinds l.starts l.ends
