-- The plan of what was found: its kinds of actions, and the two counts.
use mathlib.Core.Path.{refl}
use Prim.Native.Nat.{◌≤◌}
use native.Mathlib.Omega.{arith}
use Rattle.edition.specs.Editions.{edition_of}
use Rattle.compiler.proofs.Planning.{listed, plan-made}
use Rattle.compiler.proofs.call.made.Goals as goal

pub kinds-acts-requires : goal.kinds-acts-requires
kinds-acts-requires c = let n = c.requires.found.promise.nodes in
    let e = (edition_of c.args.ed).entries_fit in
    (omega (arith, n.few, e), omega (arith, n.few, e, n.kinds_full))

pub measured-list-requires : goal.measured-list-requires
measured-list-requires c = listed c.requires.found c.kinds-acts.ensures

pub table_length-requires : goal.table_length-requires
table_length-requires c = let f = c.requires.found in
    let v = f.promise.variables.inside in
    let q = f.promise.equations.inside in
    let l : c.measured-list.result.at ≤ 52224 = omega (arith, c.measured-list.ensures.short, f.promise.nodes.few, (edition_of c.args.ed).entries_fit) in
    record {
      ordered = (v.ordered, q.ordered);
      short = (omega (arith, v.ends, f.short), omega (arith, q.ends, f.short), l, c.row_bytes-size.ensures.1);
    }

pub returns : goal.returns
returns c = λ f g. plan-made _ g c.kinds-acts.ensures c.measured-list.ensures refl c.row_bytes-size.ensures.0
    (c.table_length.ensures.is, c.table_length.ensures.fits)
