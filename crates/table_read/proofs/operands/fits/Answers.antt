use Rattle.table_read.proofs.OperandTurns.{fits-test, fits-wait, fits-assignment, fits-switch, fits-other}
use Rattle.table_read.proofs.operands.fits.Goals as goal

pub returns-in-1 : goal.returns-in-1
returns-in-1 c = λ ed cs d. fits-test ed _ cs _ c.in-1.is (c.truth_reads.ensures ed)

pub returns-in-2 : goal.returns-in-2
returns-in-2 c = λ ed cs d. fits-wait ed _ cs _ c.in-2.is (c.truth_reads-in-2.ensures ed)

pub returns-in-3 : goal.returns-in-3
returns-in-3 c = λ ed cs d. fits-assignment ed _ cs _ c.in-3.is (c.assigns.ensures ed cs)

pub returns-in-4 : goal.returns-in-4
returns-in-4 c = λ ed cs d. fits-switch ed _ cs _ c.in-4.is (c.switches.ensures ed cs d _)

pub returns-in_default : goal.returns-in_default
returns-in_default c = λ ed cs d. fits-other ed _ cs _ _ (c.in_default.in_default-own.rest.0.0.0.1) (c.in_default.in_default-own.rest.0.0.1) (c.in_default.in_default-own.rest.0.1) (c.in_default.in_default-own.rest.1)
