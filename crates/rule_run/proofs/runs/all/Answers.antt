use Prim.Native.Nat.{◌<◌}
use native.Mathlib.Omega.{arith}
use Rattle.semantics.specs.Calls.{event_count}
use Rattle.schedules.specs.Calls.{program_of}
use Rattle.moves.proofs.Callers.{charted}
use Rattle.edition.specs.Editions.{edition_of}
use Rattle.execution.proofs.Stepping.{shown}
use Rattle.execution.proofs.Loops.{none-counted, events-counted, going_start, going-event, going-room, going-values, going-modes, going-records, going-counts, going_next, going_end}
use Rattle.rule_step.proofs.Callers.{first-stands}
use Rattle.rule_run.proofs.runs.all.Goals as goal

pub of-moves-requires : goal.of-moves-requires
of-moves-requires c = let a = c.requires.asked in record { tree = c.requires.schedule.root; lies = a.tree }

pub nonzero_div-end : goal.nonzero_div-end
nonzero_div-end c = omega (arith, c.event_bytes-bytes.ensures, (edition_of c.args.ed).event_holds)

pub loop-init : goal.loop-init
loop-init c = let z = c.default-counts.ensures in
    (omega (arith, c.well_formed), λ s a. going_start _ (program_of s) (none-counted _ z.0 z.1.0 z.1.1) a.may (first-stands s c.start-acting.result.fit (c.start-acting.ensures.gives s.root (charted a.tree c.of-moves.ensures))))

pub at-e-requires : goal.at-e-requires
at-e-requires c = let q = c.requires in
    let ed = edition_of c.args.ed in
    let h : c.loop.counter < event_count ed c.args.events.now = omega (arith, c.loop-test.true, events-counted ed c.args.events.now c.event_bytes-bytes.ensures) in
    omega (arith, going-event _ (program_of q.schedule) (c.loop.invariant.1 q.schedule q.asked) h)

pub step-requires : goal.step-requires
step-requires c = let q = c.requires in
    let g = c.loop.invariant.1 q.schedule q.asked in
    record { schedule = q.schedule; lent = q.asked.lent; charted = charted q.asked.tree c.of-moves.ensures; place = g.place; stands = g.stands; fits = g.so_far.fits }

pub put_record-to-requires : goal.put_record-to-requires
put_record-to-requires c = let q = c.requires in
    let ed = edition_of c.args.ed in
    let h : c.loop.counter < event_count ed c.args.events.now = omega (arith, c.loop-test.true, events-counted ed c.args.events.now c.event_bytes-bytes.ensures) in
    let g = c.loop.invariant.1 q.schedule q.asked in
    let r = c.step.ensures q.schedule g.place q.asked.lent (charted q.asked.tree c.of-moves.ensures) g.stands g.so_far.fits in
    going-room _ (program_of q.schedule) g q.asked.may h r.1

pub book-requires : goal.book-requires
book-requires c = let q = c.requires in
    let ed = edition_of c.args.ed in
    let h : c.loop.counter < event_count ed c.args.events.now = omega (arith, c.loop-test.true, events-counted ed c.args.events.now c.event_bytes-bytes.ensures) in
    going-counts _ (program_of q.schedule) (c.loop.invariant.1 q.schedule q.asked) h c.loop.invariant.0

pub overflow_add-from : goal.overflow_add-from
overflow_add-from c = let q = c.requires in
    let ed = edition_of c.args.ed in
    let h : c.loop.counter < event_count ed c.args.events.now = omega (arith, c.loop-test.true, events-counted ed c.args.events.now c.event_bytes-bytes.ensures) in
    omega (arith, c.event_bytes-bytes.ensures, c.loop.invariant.0, going-event _ (program_of q.schedule) (c.loop.invariant.1 q.schedule q.asked) h)

pub loop-preserved : goal.loop-preserved
loop-preserved c = let record-put = c.put_record-to.ensures in
    let ed = edition_of c.args.ed in
    let h : c.loop.counter < event_count ed c.args.events.now = omega (arith, c.loop-test.true, events-counted ed c.args.events.now c.event_bytes-bytes.ensures) in (
      c.loop.invariant.0,
      λ s a.
          let g = c.loop.invariant.1 s a in
          let r = c.step.ensures s g.place a.lent (charted a.tree c.of-moves.ensures) g.stands g.so_far.fits in
          going_next _ (program_of s) g h c.at-e.ensures r.0 r.1 _ (shown r.0.stands) (rw c.from-answer.ensures at record-put.1) record-put.0 (rw c.from-answer.ensures at c.book.ensures) (omega (arith, c.event_bytes-bytes.ensures)),
    )

pub shape_of-values : goal.shape_of-values
shape_of-values c = let q = c.requires in going-values _ (program_of q.schedule) (c.loop.invariant.1 q.schedule q.asked) q.asked.may

pub shape_of-modes : goal.shape_of-modes
shape_of-modes c = let q = c.requires in going-modes _ (program_of q.schedule) (c.loop.invariant.1 q.schedule q.asked) q.asked.may

pub shape_of-records : goal.shape_of-records
shape_of-records c = let q = c.requires in going-records _ (program_of q.schedule) (c.loop.invariant.1 q.schedule q.asked) q.asked.may

pub returns : goal.returns
returns c = let ed = edition_of c.args.ed in
    λ s a. going_end _ (program_of s) (c.loop.invariant.1 s a) (omega (arith, c.loop-test.false, events-counted ed c.args.events.now c.event_bytes-bytes.ensures))
