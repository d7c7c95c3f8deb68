-- One law of StartBytes for each return.
use native.Mathlib.Omega.{arith}
use Rattle.start_read.proofs.StartBytes.{wrong_size, values-unfit, modes-unfit, all_fit}
use Rattle.start_read.proofs.read.Goals as goal

pub returns-then-s-place : goal.returns-then-s-place
returns-then-s-place c p a = wrong_size p c.args.s.now a (λ e. omega arith)

pub returns-in_default : goal.returns-in_default
returns-in_default c p a = values-unfit p c.args.s.now a (omega arith) c.in_default.ensures

pub returns-in_default-read_modes : goal.returns-in_default-read_modes
returns-in_default-read_modes c p a = modes-unfit p c.args.s.now a (omega arith) c.in_default-read_modes.ensures

pub returns : goal.returns
returns c p a = all_fit p c.args.s.now a (omega arith) c.in-Some.ensures c.in-Some-read_modes.ensures
