-- By the number of equations: none is `steady-none`; else the rates of those after the first, then the first (`steady-more`).
-- what is asked of the calls, and learnt
use mathlib.Core.Path.{◌∙◌}
use native.Mathlib.Omega.{arith}
use Rattle.plant.proofs.EquationIndex.{equation-fits, next_fits, equation-kind, equations-left, steady-none, steady-more}
use Rattle.plant.proofs.equations.+put_rates.Goals as goal

pub returns-then-n-eq0 : goal.returns-then-n-eq0
returns-then-n-eq0 t c = λ u. c.requires.clear ∙ steady-none _ c.if-n-eq0.true u

pub overflow_add-k : goal.overflow_add-k
overflow_add-k t c = omega (arith, equation-fits c.args.s.now c.args.at c.args.n c.requires.stand (omega arith))

pub nat2-requires : goal.nat2-requires
nat2-requires t c = omega (arith, equation-fits c.args.s.now c.args.at c.args.n c.requires.stand (omega arith))

pub overflow_add-k-2 : goal.overflow_add-k-2
overflow_add-k-2 t c = omega (arith, next_fits c.args.s.now c.args.at c.args.n c.requires.stand (omega arith) c.nat2.result c.nat2.ensures)

pub put_rates-requires : goal.put_rates-requires
put_rates-requires t c = (omega (arith, c.decreases), (equations-left c.args.s.now c.args.at c.args.n c.requires.stand (omega arith) c.nat2.result c.nat2.ensures, c.requires.clear))

pub put_steady-requires : goal.put_steady-requires
put_steady-requires t c = equation-kind c.args.s.now c.args.at c.args.n c.requires.stand (omega arith)

pub returns : goal.returns
returns t c = λ u. steady-more c.args.s.now c.args.at c.args.n (omega arith) c.nat2.result c.nat2.ensures c.put_rates.ensures c.put_steady.ensures u
