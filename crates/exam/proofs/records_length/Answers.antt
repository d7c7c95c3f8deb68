-- The counts that were read are those of the schedule and are small (`counts`); they make a record's size (`length-of`), and there is room (`room_for`).
use mathlib.Core.Path.{ap, ◌∙◌}
use Prim.Native.Nat.{◌*◌, ◌/◌, ◌≤◌}
use native.Mathlib.Omega.{arith}
use lib.ListN.{length}
use Rattle.semantics.specs.Editions.{edition1}
use Rattle.semantics.specs.Calls.{event_count, record_size}
use Rattle.records.proofs.Records.{room_for}
use Rattle.exam.proofs.Sizes.{counts, length-of, not-refused}
use Rattle.exam.proofs.records_length.Goals as goal

pub unreachable-requires : goal.unreachable-requires
unreachable-requires c = not-refused edition1 c.args.file.now c.in_default.field-0 c.in_default.ensures c.requires.schedule_read

pub record_length-requires : goal.record_length-requires
record_length-requires c = let k = counts edition1 c.args.file.now c.in-Ok.ensures c.requires.schedule_read in (k.few, k.few_selectors)

pub overflow_mul-result : goal.overflow_mul-result
unfolding event_count
overflow_mul-result c = let a = c.args in
    let p = c.requires in
    let n = length a.events.now / 3 in
    let k = length-of edition1 a.file.now n c.in-Ok.ensures p.schedule_read c.record_length.ensures in
    let r : n * record_size edition1 p.schedule.plant ≤ length a.records.now = room_for edition1 p.schedule.plant a.events.now a.records.now p.enough in
    let e = ap (λ w. length a.events.now / w * c.record_length.result) c.event_bytes.ensures in
    omega (arith, e, k, r, c.well_formed)

pub returns : goal.returns
unfolding event_count
returns c = λ s h. ap (λ w. length c.args.events.now / w * c.record_length.result) c.event_bytes.ensures ∙ length-of edition1 c.args.file.now _ c.in-Ok.ensures h c.record_length.ensures
