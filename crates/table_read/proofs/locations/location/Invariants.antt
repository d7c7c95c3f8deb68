-- The first i entries were read up to p and fit, and the next node is `low` or above (`Entries`).
use Rattle.edition.specs.Editions.{edition_of}
use Rattle.table_read.proofs.EntryLoop.{Entries}
use Rattle.table_read.proofs.locations.location.Given as goal

abbrev pub invariant-loop : goal.invariant-loop
invariant-loop l = Entries (edition_of l.ed) l.n l.kinds l.s l.at l.counter l.p l.low
