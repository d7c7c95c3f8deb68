-- The set has the nodes of the entries so far (`Gathering`).
use Rattle.edition.specs.Editions.{edition_of}
use Rattle.table_step.proofs.EntryTurns.{Gathering}
use Rattle.table_step.proofs.entries.acting.Given as goal

abbrev pub invariant-loop : goal.invariant-loop
invariant-loop l = Gathering (edition_of l.ed) l.t l.at l.counter l.p l.set.words
