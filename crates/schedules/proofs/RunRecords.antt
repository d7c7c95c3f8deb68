-- The records of a run by the rules: each is the record of its event, byte for byte as document 01 lays it out.
use mathlib.Core.Path.{◌≡◌}
use mathlib.Core.List.{List, flat_map}
use Prim.Native.Nat.{ℕ}
use Rattle.semantics.specs.Editions.{Edition}
use Rattle.semantics.specs.Refusals.{accepted}
use Rattle.semantics.specs.Run.{record_of}
use Rattle.semantics.specs.Records.{AtFront, RecordsIn}
use Rattle.semantics.specs.Statements.{RunHolds}
use Rattle.semantics.proofs.Facts.{All}
use Rattle.semantics.proofs.WrittenRecords.{Byte}
use Rattle.semantics.proofs.RunRecords.{run-recorded}
use Rattle.schedules.specs.Files.{Schedule, judge_file, rule_control}
use Rattle.schedules.specs.Calls.{rule_run_of}
use Rattle.schedules.proofs.FirstNumber.{passed}
use Rattle.schedules.proofs.CallsHold.{sound-rules, rule-run-holds}
use Rattle.schedules.proofs.MovesByRule.{acting-rises}
use Rattle.schedules.proofs.ScheduleSound.{comes_of}
use Rattle.schedules.proofs.WrittenBytes.{program-bytes}

pub rule-recorded : (ed : Edition) (file start events buffer : List ℕ) → All Byte file → All Byte start → (rule_run_of ed file start events buffer).refusal ≡ 0 →
    (s : Schedule) × (judge_file ed file ≡ accepted s) × (h : RunHolds ed s.plant (rule_control s) start events buffer (rule_run_of ed file start events buffer)) ×
    (bytes : List ℕ) × RecordsIn ed (rule_control s) h.said bytes × AtFront bytes buffer (rule_run_of ed file start events buffer).records
unfolding rule_control
rule-recorded ed file start events buffer z y e =
    let q = rule-run-holds ed file start events buffer e in
    let s = q.0 in
    let c = rule_control s in
    let g = passed ed file s q.1 in
    let h = q.2 in
    let written = run-recorded ed s.plant c (sound-rules ed file s q.1) (program-bytes ed file s g z) (λ r k. acting-rises s.nodes s.root r g.tree (comes_of s k)) y h in
    (s, q.1, h, flat_map (record_of ed c) h.said, written, h.written)
