use Prim.Native.Nat.{◌+◌, ◌*◌}
use native.Mathlib.Omega.{arith}
use mathlib.Core.Path.{◌∙◌}
use Rattle.codec.specs.Padding.{pad}
use Rattle.plant.specs.Variables.{column}
use Rattle.plant.proofs.VariableSection.{going_start, going_next, stopped, ended, variable_at, tested, value}
use Rattle.plant.proofs.variables.values.Goals as goal

pub loop-i-init : goal.loop-i-init
unfolding column pad
loop-i-init c ed = going_start ed c.args.s.now c.args.n c.requires

pub returns-then-not-contains-clause-judged : goal.returns-then-not-contains-clause-judged
returns-then-not-contains-clause-judged c ed = let low = value c.int4-low.type_inv c.int4-low.ensures in
    let high = value c.int4-high.type_inv c.int4-high.ensures in
    let first = value c.int4-first.type_inv c.int4-first.ensures in
    let n = c.new.ensures in
    let h = rw (n.exhausted, n.start, n.end) at c.contains.ensures.value in
    stopped ed (c.loop-i.invariant ed) c.loop-i-test.true (omega arith) (tested (variable_at c.args.s.now (1 + 12 * c.loop-i.i)) low high first h ∙ c.if-not-contains.true)

pub loop-i-preserved : goal.loop-i-preserved
loop-i-preserved c ed = let low = value c.int4-low.type_inv c.int4-low.ensures in
    let high = value c.int4-high.type_inv c.int4-high.ensures in
    let first = value c.int4-first.type_inv c.int4-first.ensures in
    let n = c.new.ensures in
    let h = rw (n.exhausted, n.start, n.end) at c.contains.ensures.value in
    let o = tested (variable_at c.args.s.now (1 + 12 * c.loop-i.i)) low high first h ∙ c.if-not-contains.false in
    going_next ed (c.loop-i.invariant ed) c.loop-i-test.true (omega arith) o _ _ _ low high first (omega arith)

pub returns-clause-judged : goal.returns-clause-judged
returns-clause-judged c ed = ended ed (c.loop-i.invariant ed) (omega arith)
