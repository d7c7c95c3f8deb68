-- None of the entries so far is node n's (`Looking`).
use Rattle.edition.specs.Editions.{edition_of}
use Rattle.table_step.proofs.EntryTurns.{Looking}
use Rattle.table_step.proofs.entries.target.Given as goal

abbrev pub invariant-loop : goal.invariant-loop
invariant-loop l = Looking (edition_of l.ed) l.t l.at l.n l.truth l.counter l.p
