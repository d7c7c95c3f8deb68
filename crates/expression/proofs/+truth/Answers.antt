-- By the depth that is left, and one law of Steps for each form.
use mathlib.Core.Path.{sym}
use Rattle.expression.specs.Forms.{comparison_is, connective_is}
use Rattle.expression.proofs.Forms.{form-told, no-truth}
use Rattle.expression.proofs.Wholes.{found, lost}
use Rattle.expression.specs.Evaluation.{finds_at}
use Rattle.expression.proofs.Steps.{truth-deep, truth-past, step-true, step-comparison, comparison-left, comparison-right, step-connective, connective-left, connective-right, step-opposite, opposite-none, other-truth}
use Rattle.expression.proofs.+truth.Goals as goal

pub returns-then-depth-eq0 : goal.returns-then-depth-eq0
returns-then-depth-eq0 t c ed = let a = c.args in truth-deep ed a.vars.now a.s.now a.at a.depth c.if-depth-eq0.true

pub returns-then-s-at : goal.returns-then-s-at
returns-then-s-at t c ed = let a = c.args in truth-past ed a.vars.now a.s.now a.at a.depth c.if-depth-eq0.false c.if-s-at.true

pub returns-in_err-l-in-Comparison : goal.returns-in_err-l-in-Comparison
returns-in_err-l-in-Comparison t c ed = let a = c.args in
    rw c.from_residual.ensures (comparison-left ed a.vars.now a.s.now a.at a.depth c.if-depth-eq0.false c.if-s-at.false (comparison_is c.in-Comparison.o) (form-told c.form_of.ensures c.in-Comparison.is) (lost (c.number.ensures ed) c.in_err-l-in-Comparison.was))

pub returns-in_err-r-in-Comparison : goal.returns-in_err-r-in-Comparison
returns-in_err-r-in-Comparison t c ed = let a = c.args in
    rw c.from_residual-in_err-r-in-Comparison.ensures (comparison-right ed a.vars.now a.s.now a.at a.depth c.if-depth-eq0.false c.if-s-at.false (comparison_is c.in-Comparison.o) (form-told c.form_of.ensures c.in-Comparison.is)
    (found (c.number.ensures ed) c.in_ok-l-in-Comparison.was) (lost (c.number-in-Comparison.ensures ed) c.in_err-r-in-Comparison.was))

pub returns-in_ok-r-in-Comparison : goal.returns-in_ok-r-in-Comparison
returns-in_ok-r-in-Comparison t c ed = let a = c.args in
    let k = found (c.number.ensures ed) c.in_ok-l-in-Comparison.was in
    let l = found (c.number-in-Comparison.ensures ed) c.in_ok-r-in-Comparison.was in
    finds_at (step-comparison ed a.vars.now a.s.now a.at a.depth c.if-depth-eq0.false c.if-s-at.false (comparison_is c.in-Comparison.o) (form-told c.form_of.ensures c.in-Comparison.is) k l (c.relate.ensures _ _ k.is l.is))

pub returns-in_err-l-in-Connective : goal.returns-in_err-l-in-Connective
returns-in_err-l-in-Connective t c ed = let a = c.args in
    rw c.from_residual-in_err-l-in-Connective.ensures (connective-left ed a.vars.now a.s.now a.at a.depth c.if-depth-eq0.false c.if-s-at.false (connective_is c.in-Connective.o) (form-told c.form_of.ensures c.in-Connective.is) (lost (c.truth.ensures ed) c.in_err-l-in-Connective.was))

pub returns-in_err-r-in-Connective : goal.returns-in_err-r-in-Connective
returns-in_err-r-in-Connective t c ed = let a = c.args in
    rw c.from_residual-in_err-r-in-Connective.ensures (connective-right ed a.vars.now a.s.now a.at a.depth c.if-depth-eq0.false c.if-s-at.false (connective_is c.in-Connective.o) (form-told c.form_of.ensures c.in-Connective.is)
    (found (c.truth.ensures ed) c.in_ok-l-in-Connective.was) (lost (c.truth-in-Connective.ensures ed) c.in_err-r-in-Connective.was))

pub returns-in_ok-r-in-Connective : goal.returns-in_ok-r-in-Connective
returns-in_ok-r-in-Connective t c ed = let a = c.args in
    let k = found (c.truth.ensures ed) c.in_ok-l-in-Connective.was in
    let l = found (c.truth-in-Connective.ensures ed) c.in_ok-r-in-Connective.was in
    finds_at (step-connective ed a.vars.now a.s.now a.at a.depth c.if-depth-eq0.false c.if-s-at.false (connective_is c.in-Connective.o) (form-told c.form_of.ensures c.in-Connective.is) k l (c.join.ensures _ _ k.is l.is))

pub returns-in_err-a-in-Opposite : goal.returns-in_err-a-in-Opposite
returns-in_err-a-in-Opposite t c ed = let a = c.args in
    rw c.from_residual-in_err-a-in-Opposite.ensures (opposite-none ed a.vars.now a.s.now a.at a.depth c.if-depth-eq0.false c.if-s-at.false (form-told c.form_of.ensures c.in-Opposite.is) (lost (c.truth-in-Opposite.ensures ed) c.in_err-a-in-Opposite.was))

pub returns-in_ok-a-in-Opposite : goal.returns-in_ok-a-in-Opposite
returns-in_ok-a-in-Opposite t c ed = let a = c.args in
    let k = found (c.truth-in-Opposite.ensures ed) c.in_ok-a-in-Opposite.was in
    finds_at (step-opposite ed a.vars.now a.s.now a.at a.depth c.if-depth-eq0.false c.if-s-at.false (form-told c.form_of.ensures c.in-Opposite.is) k (c.oppose.ensures _ k.is))

pub returns-in-True : goal.returns-in-True
returns-in-True t c ed = let a = c.args in step-true ed a.vars.now a.s.now a.at a.depth c.if-depth-eq0.false c.if-s-at.false (form-told c.form_of.ensures c.in-True.is)

pub returns-in_default : goal.returns-in_default
returns-in_default t c ed = let a = c.args in
    let d = c.in_default in
    other-truth ed a.vars.now a.s.now a.at a.depth c.if-depth-eq0.false c.if-s-at.false _ (no-truth c.form_of.result d.not-Comparison d.not-Connective d.not-Opposite d.not-True) (sym c.form_of.ensures.is)
