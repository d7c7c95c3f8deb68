-- The bytes so far are written, and the next place is behind them.
use mathlib.Core.Path.{◌≡◌}
use Prim.Native.Nat.{◌+◌, ◌≤◌}
use lib.ListN.{length, take}
use Rattle.codec.specs.Writing.{Wrote}
use Rattle.codec.proofs.put_slice.Given as goal

abbrev pub invariant-loop-b : goal.invariant-loop-b
invariant-loop-b l = (l.b-index ≤ length l.s) × (l.at ≡ l.i + l.b-index) × (length l.d ≡ length l.initial.d) × Wrote l.initial.d l.i (take l.b-index l.s) l.d
