-- The first k entries are put.
use mathlib.Core.Path.{◌≡◌}
use mathlib.Core.List.{map}
use Prim.Native.Nat.{ℕ}
use lib.ListN.{take}
use lib.Seq.{sets}
use Rattle.program.proofs.fill.put_row.Given as goal

abbrev pub invariant-loop-k : goal.invariant-loop-k
invariant-loop-k g l = (f : _ → ℕ) → ((x : _) (r : ℕ) → goal.F-post g l.entry x r → r ≡ f x) → l.ix ≡ sets l.initial.ix l.i (take l.k (map f l.from))
