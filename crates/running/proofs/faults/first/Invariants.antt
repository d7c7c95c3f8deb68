-- The records before n tell of no fault.
use Rattle.std.proofs.Common.{ℕ, ◌≤◌, ◌<◌}
use Rattle.running.specs.Faulting.{answer_at}
use Rattle.running.proofs.faults.first.Given as goal

abbrev pub invariant-loop-n : goal.invariant-loop-n
invariant-loop-n l = (k : ℕ) → k < l.n → answer_at l.records l.size k ≤ 202
