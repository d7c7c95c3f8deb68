-- The bytes of the values so far are written, up to the next place.
use mathlib.Core.Path.{◌≡◌}
use mathlib.Core.List.{flat_map}
use Prim.Native.Nat.{◌+◌, ◌*◌, ◌≤◌}
use lib.ListN.{length, take}
use Rattle.semantics.specs.Run.{value_bytes}
use Rattle.codec.specs.Writing.{Wrote}
use Rattle.records.proofs.put_values.Given as goal

abbrev pub invariant-loop-z : goal.invariant-loop-z
invariant-loop-z l = (l.z-index ≤ length l.values) × (l.at ≡ l.i + 4 * l.z-index) × (length l.d ≡ length l.initial.d) × Wrote l.initial.d l.i (flat_map value_bytes (take l.z-index l.values)) l.d
