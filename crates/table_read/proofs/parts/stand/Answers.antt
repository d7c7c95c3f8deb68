-- One law of PartsStand for each return.
use native.Mathlib.Omega.{arith}
use Rattle.codec.proofs.Sections.{cuts2, cuts4, ended, not-ended}
use Rattle.table_read.proofs.PartsStand.{no-variables, no-equations, no-actions, no-locations, left_over, parts-found}
use Rattle.table_read.proofs.parts.stand.Goals as goal

pub returns-in_err-v : goal.returns-in_err-v
returns-in_err-v c = rw c.from_residual.ensures (no-variables c.args.t.now (not-ended cuts2 _ 5 c.requires c.in_err-v.ensures))

pub end2-requires-2 : goal.end2-requires-2
end2-requires-2 c = (ended cuts2 _ 5 c.requires c.in_ok-v.ensures).inside

pub returns-in_err-e : goal.returns-in_err-e
returns-in_err-e c = let t = c.args.t.now in
    let vs = ended cuts2 t 5 c.requires c.in_ok-v.ensures in
    rw c.from_residual-in_err-e.ensures (no-equations t vs (not-ended cuts2 t _ vs.inside c.in_err-e.ensures))

pub end2-requires-3 : goal.end2-requires-3
end2-requires-3 c = let vs = ended cuts2 _ 5 c.requires c.in_ok-v.ensures in
    (ended cuts2 _ _ vs.inside c.in_ok-e.ensures).inside

pub returns-in_err-a : goal.returns-in_err-a
returns-in_err-a c = let t = c.args.t.now in
    let vs = ended cuts2 t 5 c.requires c.in_ok-v.ensures in
    let es = ended cuts2 t _ vs.inside c.in_ok-e.ensures in
    rw c.from_residual-in_err-a.ensures (no-actions t vs es (not-ended cuts2 t _ es.inside c.in_err-a.ensures))

pub end4-requires : goal.end4-requires
end4-requires c = let vs = ended cuts2 _ 5 c.requires c.in_ok-v.ensures in
    let es = ended cuts2 _ _ vs.inside c.in_ok-e.ensures in
    (ended cuts2 _ _ es.inside c.in_ok-a.ensures).inside

pub returns-in_err-l : goal.returns-in_err-l
returns-in_err-l c = let t = c.args.t.now in
    let vs = ended cuts2 t 5 c.requires c.in_ok-v.ensures in
    let es = ended cuts2 t _ vs.inside c.in_ok-e.ensures in
    let acts = ended cuts2 t _ es.inside c.in_ok-a.ensures in
    rw c.from_residual-in_err-l.ensures (no-locations t vs es acts (not-ended cuts4 t _ acts.inside c.in_err-l.ensures))

pub returns-then-l-t : goal.returns-then-l-t
returns-then-l-t c = let t = c.args.t.now in
    let vs = ended cuts2 t 5 c.requires c.in_ok-v.ensures in
    let es = ended cuts2 t _ vs.inside c.in_ok-e.ensures in
    let acts = ended cuts2 t _ es.inside c.in_ok-a.ensures in
    left_over t vs es acts (ended cuts4 t _ acts.inside c.in_ok-l.ensures) c.if-l-t.true

pub overflow_add-result : goal.overflow_add-result
overflow_add-result c = let vs = ended cuts2 _ 5 c.requires c.in_ok-v.ensures in
    let es = ended cuts2 c.args.t.now _ vs.inside c.in_ok-e.ensures in
    omega (arith, es.is, es.inside)

pub overflow_add-result-2 : goal.overflow_add-result-2
overflow_add-result-2 c = let vs = ended cuts2 _ 5 c.requires c.in_ok-v.ensures in
    let es = ended cuts2 c.args.t.now _ vs.inside c.in_ok-e.ensures in
    let acts = ended cuts2 c.args.t.now _ es.inside c.in_ok-a.ensures in
    omega (arith, acts.is, acts.inside)

pub overflow_add-result-3 : goal.overflow_add-result-3
overflow_add-result-3 c = let vs = ended cuts2 _ 5 c.requires c.in_ok-v.ensures in
    let es = ended cuts2 c.args.t.now _ vs.inside c.in_ok-e.ensures in
    let acts = ended cuts2 c.args.t.now _ es.inside c.in_ok-a.ensures in
    let ls = ended cuts4 c.args.t.now _ acts.inside c.in_ok-l.ensures in
    omega (arith, ls.is, ls.inside)

pub returns : goal.returns
returns c = let t = c.args.t.now in
    let vs = ended cuts2 t 5 c.requires c.in_ok-v.ensures in
    let es = ended cuts2 t _ vs.inside c.in_ok-e.ensures in
    let acts = ended cuts2 t _ es.inside c.in_ok-a.ensures in
    parts-found t vs es acts (ended cuts4 t _ acts.inside c.in_ok-l.ensures) c.if-l-t.false
