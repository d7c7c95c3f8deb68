-- The answer of the range, by the numbers themselves, decides.
use mathlib.Core.Path.{ap, ◌∙◌}
use lib.IntN.{pos}
use lib.ListN.{length, get_or, set}
use mir.Syntax.{w32}
use mir.ValLaws.{to_z-of_z}
use Rattle.semantics.specs.Expressions.{ranged}
use Rattle.semantics.specs.Run.{valued}
use Rattle.program.specs.Rows.{high_row}
use Rattle.effects.specs.Verdicts.{step_verdict}
use Rattle.effects.proofs.Told.{err_is, stops, stay-goes_on}
use Rattle.effects.proofs.Adds.{declared-in, held-bounds, wide}
use Rattle.effects.proofs.Acts.{stored-in, stored-out}
use native.Mathlib.Omega.{arith}
use Rattle.effects.proofs.store.Goals as goal

pub returns-in_err-ranged : goal.returns-in_err-ranged
returns-in_err-ranged c d = let a = c.args in
    let low = get_or a.p.now.ranges.now a.v (pos 0) in
    let high = get_or (high_row a.p.now.ranges.now) a.v (pos 0) in
    let is = declared-in a.p.now.ranges.now (length a.values.now) c.requires.1 (omega arith) a.v a.z c.requires.0 in
    let e = held-bounds low high _ c.low.ensures c.high.ensures (record { sfits = c.low.type_inv }) (record { sfits = c.high.type_inv }) in
    let told = c.in_err-ranged.ensures ∙ ap (λ x. step_verdict (valued x)) (e ∙ ap (ranged low high) (wide c.ranges.z c.from.ensures)) in
    rw (err_is _ _ c.from_residual.ensures.1) (stored-out _ a.values.now a.v d low high a.z is _ told (stops _))

pub returns : goal.returns
returns c d = let a = c.args in
    let low = get_or a.p.now.ranges.now a.v (pos 0) in
    let high = get_or (high_row a.p.now.ranges.now) a.v (pos 0) in
    let is = declared-in a.p.now.ranges.now (length a.values.now) c.requires.1 (omega arith) a.v a.z c.requires.0 in
    let e = held-bounds low high _ c.low.ensures c.high.ensures (record { sfits = c.low.type_inv }) (record { sfits = c.high.type_inv }) in
    let told = c.in_ok-ranged.ensures ∙ ap (λ x. step_verdict (valued x)) (e ∙ ap (ranged low high) (wide c.ranges.z c.from.ensures)) in
    let g = stored-in _ a.values.now a.v d low high a.z is _ told stay-goes_on in
    record { answer = g.answer; left = ap (set a.values.now a.v) (to_z-of_z w32 a.z c.ranges.z) ∙ g.left }
