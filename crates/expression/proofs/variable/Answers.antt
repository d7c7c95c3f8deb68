-- Past the end, no such variable, or its value, which fits 32 bits.
use mathlib.Core.Path.{refl}
use Rattle.std.proofs.Common.{rules}
use lib.IntN.{pos}
use lib.ListN.{get_or}
use mir.Syntax.{w32}
use mir.Val.{SFits}
use mir.ValLaws.{to_z-of_z}
use Rattle.expression.proofs.Steps.{variable-cut, variable-there, variable-missing}
use Rattle.expression.proofs.variable.Goals as goal

pub returns-then-s-at : goal.returns-then-s-at
returns-then-s-at c ed = let a = c.args in variable-cut ed a.vars.now a.s.now a.at c.if-s-at.true

pub returns-then-vars-i : goal.returns-then-vars-i
returns-then-vars-i c ed = let a = c.args in variable-missing ed a.vars.now a.s.now a.at c.if-s-at.false (rw c.from-i.ensures at c.if-vars-i.true)

pub returns : goal.returns
returns c ed = let a = c.args in
    let x = get_or a.vars.now (get_or a.s.now a.at 0) (pos 0) in
    let f : SFits w32 x = search rules in
    rw (c.from-i.ensures, to_z-of_z w32 x f) (variable-there ed a.vars.now a.s.now a.at c.if-s-at.false (rw c.from-i.ensures at c.if-vars-i.false) refl f)
