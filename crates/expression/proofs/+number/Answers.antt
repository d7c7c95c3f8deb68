-- By the depth that is left, and one law of Steps for each form.
use mathlib.Core.Path.{sym}
use Rattle.expression.specs.Forms.{operation_is}
use Rattle.expression.proofs.Forms.{form-told, no-number}
use Rattle.expression.proofs.Wholes.{found, lost}
use Rattle.expression.specs.Evaluation.{finds_at}
use Rattle.expression.proofs.Steps.{number-deep, number-past, step-constant, step-variable, step-operation, operation-left, operation-right, step-negation, negation-none, other-number}
use Rattle.expression.proofs.+number.Goals as goal

pub returns-then-depth-eq0 : goal.returns-then-depth-eq0
returns-then-depth-eq0 t c ed = let a = c.args in number-deep ed a.vars.now a.s.now a.at a.depth c.if-depth-eq0.true

pub returns-then-s-at : goal.returns-then-s-at
returns-then-s-at t c ed = let a = c.args in number-past ed a.vars.now a.s.now a.at a.depth c.if-depth-eq0.false c.if-s-at.true

pub returns-in-Constant : goal.returns-in-Constant
returns-in-Constant t c ed = let a = c.args in
    rw c.unfaulted.ensures (step-constant ed a.vars.now a.s.now a.at a.depth c.if-depth-eq0.false c.if-s-at.false (form-told c.form_of.ensures c.in-Constant.is) (c.constant.ensures ed a.vars.now))

pub returns-in-Variable : goal.returns-in-Variable
returns-in-Variable t c ed = let a = c.args in
    rw c.unfaulted-in-Variable.ensures (step-variable ed a.vars.now a.s.now a.at a.depth c.if-depth-eq0.false c.if-s-at.false (form-told c.form_of.ensures c.in-Variable.is) (c.variable.ensures ed))

pub returns-in_err-l-in-Operation : goal.returns-in_err-l-in-Operation
returns-in_err-l-in-Operation t c ed = let a = c.args in
    rw c.from_residual.ensures (operation-left ed a.vars.now a.s.now a.at a.depth c.if-depth-eq0.false c.if-s-at.false (operation_is c.in-Operation.o) (form-told c.form_of.ensures c.in-Operation.is) (lost (c.number.ensures ed) c.in_err-l-in-Operation.was))

pub returns-in_err-r-in-Operation : goal.returns-in_err-r-in-Operation
returns-in_err-r-in-Operation t c ed = let a = c.args in
    rw c.from_residual-in_err-r-in-Operation.ensures (operation-right ed a.vars.now a.s.now a.at a.depth c.if-depth-eq0.false c.if-s-at.false (operation_is c.in-Operation.o) (form-told c.form_of.ensures c.in-Operation.is)
    (found (c.number.ensures ed) c.in_ok-l-in-Operation.was) (lost (c.number-in-Operation.ensures ed) c.in_err-r-in-Operation.was))

pub returns-in_ok-r-in-Operation : goal.returns-in_ok-r-in-Operation
returns-in_ok-r-in-Operation t c ed = let a = c.args in
    let k = found (c.number.ensures ed) c.in_ok-l-in-Operation.was in
    let l = found (c.number-in-Operation.ensures ed) c.in_ok-r-in-Operation.was in
    finds_at (step-operation ed a.vars.now a.s.now a.at a.depth c.if-depth-eq0.false c.if-s-at.false (operation_is c.in-Operation.o) (form-told c.form_of.ensures c.in-Operation.is) k l (c.operate.ensures _ _ k.is l.is))

pub returns-in_err-a-in-Negation : goal.returns-in_err-a-in-Negation
returns-in_err-a-in-Negation t c ed = let a = c.args in
    rw c.from_residual-in_err-a-in-Negation.ensures (negation-none ed a.vars.now a.s.now a.at a.depth c.if-depth-eq0.false c.if-s-at.false (form-told c.form_of.ensures c.in-Negation.is) (lost (c.number-in-Negation.ensures ed) c.in_err-a-in-Negation.was))

pub returns-in_ok-a-in-Negation : goal.returns-in_ok-a-in-Negation
returns-in_ok-a-in-Negation t c ed = let a = c.args in
    let k = found (c.number-in-Negation.ensures ed) c.in_ok-a-in-Negation.was in
    finds_at (step-negation ed a.vars.now a.s.now a.at a.depth c.if-depth-eq0.false c.if-s-at.false (form-told c.form_of.ensures c.in-Negation.is) k (c.negate.ensures _ k.is))

pub returns-in_default : goal.returns-in_default
returns-in_default t c ed = let a = c.args in
    let d = c.in_default in
    other-number ed a.vars.now a.s.now a.at a.depth c.if-depth-eq0.false c.if-s-at.false _ (no-number c.form_of.result d.not-Constant d.not-Variable d.not-Operation d.not-Negation) (sym c.form_of.ensures.is)
