-- The loop keeps `Going` for every table that is asked for; each need is one of its laws (execution Loops).
use Prim.Native.Nat.{◌^◌, ◌<◌}
use lib.ListN.{length}
use Rattle.semantics.specs.Tables.{Table}
use Rattle.semantics.specs.Calls.{program_of_table}
use Rattle.edition.specs.Editions.{edition_of}
use Rattle.program.specs.Lent.{lent_of}
use Rattle.execution.specs.Runs.{Going}
use Rattle.table_step.specs.Situations.{StandsFor}
use Rattle.table_run.specs.Runs.{Asked}
use Rattle.table_run.proofs.runs.all.Given as goal

abbrev pub invariant-loop : goal.invariant-loop
invariant-loop l = (length l.events < 2 ^ 64)
    × ((tb : Table) → Asked (edition_of l.ed) tb (lent_of l.p) l.initial.values l.initial.modes l.events l.initial.records → Going (edition_of l.ed) (program_of_table tb) (StandsFor tb l.at) (record { values = l.initial.values; modes = l.initial.modes }) l.events l.initial.records l.counter l.from l.to l.counts l.values l.modes l.records)
