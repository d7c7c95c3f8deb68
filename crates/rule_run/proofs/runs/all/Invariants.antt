-- The loop keeps `Going` for every schedule that is asked for; each need is one of its laws (execution Loops).
use Prim.Native.Nat.{◌^◌, ◌<◌}
use lib.ListN.{length}
use Rattle.schedules.specs.Files.{Schedule}
use Rattle.schedules.specs.Calls.{program_of}
use Rattle.edition.specs.Editions.{edition_of}
use Rattle.program.specs.Lent.{lent_of}
use Rattle.execution.specs.Runs.{Going}
use Rattle.rule_step.specs.Situations.{StandsFor}
use Rattle.rule_run.specs.Runs.{Asked}
use Rattle.rule_run.proofs.runs.all.Given as goal

abbrev pub invariant-loop : goal.invariant-loop
invariant-loop l = (length l.events < 2 ^ 64)
    × ((s : Schedule) → Asked (edition_of l.ed) s (lent_of l.p) l.kinds l.subtrees l.initial.values l.initial.modes l.events l.initial.records → Going (edition_of l.ed) (program_of s) (StandsFor s l.acting.words) (record { values = l.initial.values; modes = l.initial.modes }) l.events l.initial.records l.counter l.from l.to l.counts l.values l.modes l.records)
