use Prim.Native.Nat.{◌<◌}
use native.Mathlib.Omega.{arith}
use Rattle.semantics.specs.Calls.{event_count, program_of_table}
use Rattle.edition.specs.Editions.{edition_of}
use Rattle.execution.proofs.Stepping.{shown}
use Rattle.execution.proofs.Loops.{none-counted, events-counted, going_start, going-event, going-room, going-values, going-modes, going-records, going-counts, going_next, going_end}
use Rattle.table_run.proofs.runs.all.Goals as goal

pub nonzero_div-end : goal.nonzero_div-end
nonzero_div-end c = omega (arith, c.event_bytes-bytes.ensures, (edition_of c.args.ed).event_holds)

pub start-at-requires : goal.start-at-requires
start-at-requires c = record { table = c.requires.table; lent = c.requires.asked.lent }

pub loop-init : goal.loop-init
loop-init c = (omega (arith, c.well_formed), λ t a. going_start _ (program_of_table t) (let z = c.default-counts.ensures in none-counted _ z.0 z.1.0 z.1.1) a.may (c.start-at.ensures t a.lent))

pub at-e-requires : goal.at-e-requires
at-e-requires c = let q = c.requires in
    let ed = edition_of c.args.ed in
    let h : c.loop.counter < event_count ed c.args.events.now = omega (arith, c.loop-test.true, events-counted ed c.args.events.now c.event_bytes-bytes.ensures) in
    omega (arith, going-event _ (program_of_table q.table) (c.loop.invariant.1 q.table q.asked) h)

pub step-requires : goal.step-requires
step-requires c = let q = c.requires in
    let g = c.loop.invariant.1 q.table q.asked in
    record { table = q.table; lent = q.asked.lent; place = g.place; stands = g.stands; fits = g.so_far.fits }

pub put_record-to-requires : goal.put_record-to-requires
put_record-to-requires c = let q = c.requires in
    let ed = edition_of c.args.ed in
    let h : c.loop.counter < event_count ed c.args.events.now = omega (arith, c.loop-test.true, events-counted ed c.args.events.now c.event_bytes-bytes.ensures) in
    let g = c.loop.invariant.1 q.table q.asked in
    let r = c.step.ensures q.table g.place q.asked.lent g.stands g.so_far.fits in
    going-room _ (program_of_table q.table) g q.asked.may h r.1

pub book-requires : goal.book-requires
book-requires c = let q = c.requires in
    let ed = edition_of c.args.ed in
    let h : c.loop.counter < event_count ed c.args.events.now = omega (arith, c.loop-test.true, events-counted ed c.args.events.now c.event_bytes-bytes.ensures) in
    going-counts _ (program_of_table q.table) (c.loop.invariant.1 q.table q.asked) h c.loop.invariant.0

pub overflow_add-from : goal.overflow_add-from
overflow_add-from c = let q = c.requires in
    let ed = edition_of c.args.ed in
    let h : c.loop.counter < event_count ed c.args.events.now = omega (arith, c.loop-test.true, events-counted ed c.args.events.now c.event_bytes-bytes.ensures) in
    omega (arith, c.event_bytes-bytes.ensures, c.loop.invariant.0, going-event _ (program_of_table q.table) (c.loop.invariant.1 q.table q.asked) h)

pub loop-preserved : goal.loop-preserved
loop-preserved c = let record-put = c.put_record-to.ensures in
    let ed = edition_of c.args.ed in
    let h : c.loop.counter < event_count ed c.args.events.now = omega (arith, c.loop-test.true, events-counted ed c.args.events.now c.event_bytes-bytes.ensures) in (
      c.loop.invariant.0,
      λ t a.
          let g = c.loop.invariant.1 t a in
          let r = c.step.ensures t g.place a.lent g.stands g.so_far.fits in
          going_next _ (program_of_table t) g h c.at-e.ensures r.0 r.1 _ (shown r.0.stands.shows) (rw c.from-answer.ensures at record-put.1) record-put.0 (rw c.from-answer.ensures at c.book.ensures) (omega (arith, c.event_bytes-bytes.ensures)),
    )

pub shape_of-values : goal.shape_of-values
shape_of-values c = let q = c.requires in going-values _ (program_of_table q.table) (c.loop.invariant.1 q.table q.asked) q.asked.may

pub shape_of-modes : goal.shape_of-modes
shape_of-modes c = let q = c.requires in going-modes _ (program_of_table q.table) (c.loop.invariant.1 q.table q.asked) q.asked.may

pub shape_of-records : goal.shape_of-records
shape_of-records c = let q = c.requires in going-records _ (program_of_table q.table) (c.loop.invariant.1 q.table q.asked) q.asked.may

pub returns : goal.returns
returns c = let ed = edition_of c.args.ed in
    λ t a. going_end _ (program_of_table t) (c.loop.invariant.1 t a) (omega (arith, c.loop-test.false, events-counted ed c.args.events.now c.event_bytes-bytes.ensures))
