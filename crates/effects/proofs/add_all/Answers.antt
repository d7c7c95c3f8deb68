use mathlib.Core.Path.{◌≡◌, refl, sym, ap, ap₂, ◌∙◌}
use mathlib.Core.List.{List}
use Prim.Native.Nat.{ℕ, ◌<◌}
use lib.IntN.{ℤ, pos, ◌+ℤ◌}
use lib.ListN.{length, get_or, set}
use Rattle.semantics.specs.Expressions.{ranged}
use Rattle.semantics.specs.Plant.{added}
use Rattle.semantics.specs.Run.{valued}
use Rattle.program.specs.Rows.{high_row}
use Rattle.effects.specs.Verdicts.{step_verdict, is_going_on}
use Rattle.effects.specs.Ranges.{rate_in, first_sums}
use Rattle.effects.proofs.Adds.{fill_here, fill_more, length-sums, sums_at, sum_told, Held, held, held-sum, held-ranged}
use native.Mathlib.Omega.{arith}
use Rattle.effects.proofs.add_all.Goals as goal

pub loop-v-init : goal.loop-v-init
loop-v-init c = refl

-- what is added to stands as it was
old : (r vs : List ℤ) {ws : List ℤ} (i : ℕ) → ws ≡ first_sums r vs i → i < length vs → get_or ws i (pos 0) ≡ get_or vs i (pos 0)
old r vs i e h = ap (λ (x : List ℤ). get_or x i (pos 0)) e ∙ fill_here (added (rate_in r) 0 vs) vs i (pos 0) (length-sums r vs) h

pub sum-requires : goal.sum-requires
sum-requires c = let b = c.args in
    let i = c.loop-v.v in
    let lo = get_or b.p.now.ranges.now i (pos 0) in
    let hi = get_or (high_row b.p.now.ranges.now) i (pos 0) in
    let rate = get_or b.rates.now i (pos 0) in
    let h : i < length b.values.now = omega arith in
    let e = held-ranged lo hi (get_or c.loop-v.values i (pos 0)) rate c.low.ensures c.high.ensures
    (record { sfits = c.low.type_inv }) (record { sfits = c.high.type_inv }) c.sum-arg-1.given c.sum-arg-in-loop-v-1.given in
    ap (λ x. is_going_on (step_verdict (valued x))) (e ∙ ap (λ (z : ℤ). ranged lo hi (z +ℤ rate)) (old b.rates.now b.values.now i c.loop-v.invariant h))
    ∙ ap is_going_on (sym (sum_told b.p.now.ranges.now b.rates.now b.values.now i c.requires.0.few c.requires.1 h)) ∙ c.requires.2.each i h

pub loop-v-preserved : goal.loop-v-preserved
loop-v-preserved c = let v = c.args.values.now in
    let r = c.args.rates.now in
    let i = c.loop-v.v in
    let h : i < length v = omega arith in
    let t = added (rate_in r) 0 v in
    let sum = held-sum (get_or c.loop-v.values i (pos 0)) (get_or r i (pos 0)) c.sum-arg-1.given c.sum-arg-in-loop-v-1.given in
    let new : Held c.sum.result ≡ get_or t i (pos 0) = held c.sum.result c.sum.type_inv ∙ c.sum.ensures ∙ sum ∙ ap (λ (z : ℤ). z +ℤ get_or r i (pos 0)) (old r v i c.loop-v.invariant h) ∙ sym (sums_at r v i h) in
    ap₂ (λ (x : List ℤ) (z : ℤ). set x i z) c.loop-v.invariant new ∙ fill_more t v i (pos 0) (length-sums r v) h

pub returns : goal.returns
returns c = let b = c.args in
    let e : c.loop-v.v ≡ length b.values.now = omega arith in
    c.loop-v.invariant ∙ ap (first_sums b.rates.now b.values.now) e
