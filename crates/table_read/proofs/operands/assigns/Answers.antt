-- An operand without its form fits; else its variable, then its number.
use Prim.Native.Nat.{◌≤◌, ◌<◌}
use lib.ListN.{get_or}
use native.Mathlib.Omega.{arith}
use Rattle.table_read.proofs.OperandTurns.{assigns-nothing, assigns-missing, assigns-known}
use Rattle.table_read.proofs.operands.assigns.Goals as goal

pub returns-then-b-lt1 : goal.returns-then-b-lt1
returns-then-b-lt1 c = λ ed cs. assigns-nothing ed _ cs _ c.if-b-lt1.true

pub returns-then-from-variables : goal.returns-then-from-variables
returns-then-from-variables c = λ ed cs.
    let a = c.args in
    let i : a.variables ≤ get_or a.b.now 0 0 = omega (arith, c.from.ensures) in
    assigns-missing ed _ cs _ (omega arith) i

pub returns : goal.returns
returns c = λ ed cs.
    let a = c.args in
    let i : get_or a.b.now 0 0 < a.variables = omega (arith, c.from.ensures) in
    assigns-known ed _ cs _ (omega arith) i (c.number_reads.ensures ed)
