-- A walk from one acting node to the next: the walk of all is that of those from n on (`still_from`).
use mathlib.Core.Path.{◌≡◌}
use mathlib.Core.List.{map}
use Prim.Native.Nat.{◌-◌}
use Rattle.semantics.specs.Editions.{Edition}
use Rattle.semantics.specs.Run.{check_waits}
use Rattle.nodeset.specs.Sets.{members}
use Rattle.codec.specs.Parts.{part_at}
use Rattle.program.specs.Rows.{start_row, end_row}
use Rattle.execution.proofs.Scans.{At, still_from}
use Rattle.execution.proofs.all_still.Given as goal

abbrev pub invariant-loop-n : goal.invariant-loop-n
invariant-loop-n l = At l.acting.words l.n × ((ed : Edition) → check_waits ed l.values (map (part_at l.p.bytes.now (start_row l.p.index.now) (end_row l.p.index.now)) (members l.acting.words)) ≡ still_from ed l.values (part_at l.p.bytes.now (start_row l.p.index.now) (end_row l.p.index.now)) l.acting.words l.n)

abbrev pub decreases-loop-n : goal.decreases-loop-n
decreases-loop-n l = 256 - l.n
