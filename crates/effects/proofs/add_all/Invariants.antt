-- The values up to v have their rates added, the others not (`first_sums`).
use mathlib.Core.Path.{◌≡◌}
use Rattle.effects.specs.Ranges.{first_sums}
use Rattle.effects.proofs.add_all.Given as goal

abbrev pub invariant-loop-v : goal.invariant-loop-v
invariant-loop-v l = l.values ≡ first_sums l.rates l.initial.values l.v
