use mathlib.Core.Path.{refl, sym, ap, ◌∙◌}
use mathlib.Core.List.{map}
use native.Mathlib.Omega.{arith}
use lib.ListN.{length-map}
use Rattle.program.proofs.Stores.{stored_next, stored-all, map_at}
use Rattle.program.proofs.fill.put_row.Goals as goal

pub loop-k-init : goal.loop-k-init
loop-k-init g c f h = refl

pub loop-k-preserved : goal.loop-k-preserved
loop-k-preserved g c f h = let k = c.loop-k.k in
    let x = c.index-from-k in
    let s = c.args.from.now in
    stored_next 0 (map f s) _ _ k (omega (arith, length-map s f)) (c.loop-k.invariant f h) (h _ _ c.entry.ensures ∙ ap f x.is ∙ sym (map_at f s k x.result c.loop-k-test.true))

pub returns : goal.returns
returns g c f h = let s = c.args.from.now in stored-all 0 (map f s) _ _ c.loop-k.k (omega (arith, length-map s f)) (c.loop-k.invariant f h)
