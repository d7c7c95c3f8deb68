-- The index of a file that was not refused, and its schedule.
use mathlib.Core.List.{List}
use Prim.Native.Nat.{ℕ}
use Rattle.std.proofs.Common.{Ok}
use Rattle.semantics.specs.Editions.{Edition}
use Rattle.schedules.specs.Files.{Schedule}
use Rattle.moves.specs.MoveContracts.{Planted}
use Rattle.schedule_read.specs.ScheduleFile.{ScheduleIndexed}
use Rattle.schedule_read.specs.declared.call.ScheduleIndex.{ScheduleIndex}
use Rattle.schedule_read.proofs.Promises.{Promised, index-schedule, promised}

pub record Indexed (ed : Edition) (f : List ℕ) (ix : ScheduleIndex) : Type 0 where
  pub schedule : Schedule
  pub promise : Promised ed f ix schedule

pub indexed : (ed : Edition) (f : List ℕ) {ix : ScheduleIndex} → ScheduleIndexed ed f (Ok ix) → Indexed ed f ix
indexed ed f h = let p = index-schedule ed f h in record { schedule = p.0; promise = promised ed f h p.1 }

pub planted : {ed : Edition} {f : List ℕ} {ix : ScheduleIndex} → Indexed ed f ix → Planted ix.nodes.kinds ix.subtrees
planted g = record { tree = g.schedule.root; lies = g.promise.tree }
