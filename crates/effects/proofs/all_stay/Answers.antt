-- A variable's numbers as they are held are those of the lists (`held-ranged`); all before it stay in their ranges.
use mathlib.Core.Path.{sym, ap, ◌∙◌}
use Prim.Native.Nat.{◌<◌}
use lib.IntN.{pos}
use lib.ListN.{length, get_or}
use Rattle.semantics.specs.Run.{valued}
use Rattle.program.specs.Rows.{high_row}
use Rattle.effects.specs.Verdicts.{step_verdict, is_going_on}
use Rattle.effects.specs.Told.{told_step}
use Rattle.effects.proofs.Told.{err_is, stops, stay-goes_on, stays-not}
use Rattle.effects.proofs.Adds.{variables-long, sum_told, held-ranged, none_yet, one_more, one-leaves, none-leaves, first-all}
use native.Mathlib.Omega.{arith}
use Rattle.effects.proofs.all_stay.Goals as goal

pub loop-v-init : goal.loop-v-init
loop-v-init c = none_yet _ _ _

pub returns-in_err-stays-clause-told : goal.returns-in_err-stays-clause-told
returns-in_err-stays-clause-told c = let b = c.args in
    let v = c.loop-v.v in
    let p = c.requires.0 in
    let h : v < length b.values.now = omega arith in
    let e = held-ranged (get_or b.p.now.ranges.now v (pos 0)) (get_or (high_row b.p.now.ranges.now) v (pos 0)) (get_or b.values.now v (pos 0)) (get_or b.rates.now v (pos 0))
    c.low.ensures c.high.ensures (record { sfits = c.low.type_inv }) (record { sfits = c.high.type_inv }) c.stays-arg-1.given c.stays-arg-in-loop-v-1.given in
    let told = c.in_err-stays.ensures ∙ ap (λ r. step_verdict (valued r)) e ∙ sym (sum_told b.p.now.ranges.now b.rates.now b.values.now v p.few c.requires.1 h) in
    ap told_step (err_is _ _ c.from_residual.ensures.1)
    ∙ one-leaves _ _ _ (variables-long b.p.now.ranges.now (length b.values.now) p.few c.requires.1) v c.loop-v.invariant h told (stops _)

pub returns-in_err-stays-clause-stay : goal.returns-in_err-stays-clause-stay
returns-in_err-stays-clause-stay c g = stays-not (err_is _ _ c.from_residual.ensures.1) g

pub loop-v-preserved : goal.loop-v-preserved
loop-v-preserved c = let b = c.args in
    let v = c.loop-v.v in
    let p = c.requires.0 in
    let h : v < length b.values.now = omega arith in
    let e = held-ranged (get_or b.p.now.ranges.now v (pos 0)) (get_or (high_row b.p.now.ranges.now) v (pos 0)) (get_or b.values.now v (pos 0)) (get_or b.rates.now v (pos 0))
    c.low.ensures c.high.ensures (record { sfits = c.low.type_inv }) (record { sfits = c.high.type_inv }) c.stays-arg-1.given c.stays-arg-in-loop-v-1.given in
    let told = c.in_ok-stays.ensures ∙ ap (λ r. step_verdict (valued r)) e ∙ sym (sum_told b.p.now.ranges.now b.rates.now b.values.now v p.few c.requires.1 h) in
    one_more _ _ _ v h c.loop-v.invariant (sym (ap is_going_on told) ∙ stay-goes_on)

pub returns-clause-told : goal.returns-clause-told
returns-clause-told c = let b = c.args in none-leaves _ _ _ (variables-long b.p.now.ranges.now (length b.values.now) c.requires.0.few c.requires.1) c.loop-v.v c.loop-v.invariant (omega arith)

pub returns-clause-stay : goal.returns-clause-stay
returns-clause-stay c g = first-all (omega arith) c.loop-v.invariant
