-- A constant and a variable are found whatever depth is left.
use Rattle.expression.proofs.Forms.{form-told}
use Rattle.expression.proofs.Steps.{step-constant, step-variable, known-found}
use Rattle.expression.proofs.leaf.Goals as goal

pub returns-in-Constant : goal.returns-in-Constant
returns-in-Constant c z n e ed d deep = let a = c.args in
    known-found e (step-constant ed a.vars.now a.s.now a.at d deep c.if-s-at.false (form-told c.form_of.ensures c.in-Constant.is) (c.constant.ensures ed a.vars.now))

pub returns-in-Variable : goal.returns-in-Variable
returns-in-Variable c z n e ed d deep = let a = c.args in
    known-found e (step-variable ed a.vars.now a.s.now a.at d deep c.if-s-at.false (form-told c.form_of.ensures c.in-Variable.is) (c.variable.ensures ed))
