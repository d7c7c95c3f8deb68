-- The digits so far stand for n, which is within `most`; a number that starts with digits above `most` is above it too (`value-over`).
use mathlib.Core.Path.{◌≡◌}
use Prim.Native.Nat.{◌≤◌}
use lib.ListN.{drop}
use Rattle.decimal.specs.Decimal.{value_from}
use Rattle.decimal.proofs.value.Given as goal

abbrev pub invariant-loop-b : goal.invariant-loop-b
invariant-loop-b l = (l.n ≤ l.most) × (value_from 0 l.s ≡ value_from l.n (drop l.b-index l.s))
