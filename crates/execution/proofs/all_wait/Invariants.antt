-- A walk from one acting node to the next: whether all are waits is whether those from n on are (`all`).
use mathlib.Core.Path.{◌≡◌}
use Prim.Native.Nat.{◌-◌}
use Rattle.semantics.specs.Bytes.{every}
use Rattle.nodeset.specs.Sets.{members}
use Rattle.program.specs.Rows.{kind_row}
use Rattle.execution.proofs.Scans.{At, is_wait_kind, all}
use Rattle.execution.proofs.all_wait.Given as goal

abbrev pub invariant-loop-n : goal.invariant-loop-n
invariant-loop-n l = At l.acting.words l.n × (every (is_wait_kind (kind_row l.p.index.now)) (members l.acting.words) ≡ all (kind_row l.p.index.now) l.acting.words l.n)

abbrev pub decreases-loop-n : goal.decreases-loop-n
decreases-loop-n l = 256 - l.n
