-- The first v rates are those of the row.
use mathlib.Core.Path.{◌≡◌}
use lib.ListN.{length, take}
use Rattle.program.specs.Rows.{steady_row}
use Rattle.program.proofs.Program.steady.Given as goal

abbrev pub invariant-loop-v : goal.invariant-loop-v
invariant-loop-v l = (length l.rates ≡ 32) × (take l.v l.rates ≡ take l.v (steady_row l.self.ranges.now))
