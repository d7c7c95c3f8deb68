-- All but the k lowest words are written.
use Prim.Native.Nat.{◌*◌}
use Rattle.records.proofs.SetBytes.{Upto}
use Rattle.records.proofs.put_set.Given as goal

abbrev pub invariant-loop-k : goal.invariant-loop-k
invariant-loop-k l = Upto l.initial.d l.i l.acting.words (8 * l.initial.k) l.k l.at l.d
