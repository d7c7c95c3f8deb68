-- A mode that stands has its switches after its rates (`switches-stand`), and ends where they end (`mode-ends`).
use native.Mathlib.Omega.{arith}
use Rattle.plant.proofs.EquationIndex.{switches-stand, mode-ends, mode-fits}
use Rattle.plant.proofs.places.mode_end.Goals as goal

pub overflow_add-k : goal.overflow_add-k
overflow_add-k c = omega (arith, mode-fits c.args.s.now c.args.at c.requires)

pub bounds-s-at : goal.bounds-s-at
bounds-s-at c = omega (arith, mode-fits c.args.s.now c.args.at c.requires)

pub overflow_add-k-2 : goal.overflow_add-k-2
overflow_add-k-2 c = omega (arith, mode-fits c.args.s.now c.args.at c.requires, c.from.ensures)

pub overflow_add-k-3 : goal.overflow_add-k-3
overflow_add-k-3 c = omega (arith, mode-fits c.args.s.now c.args.at c.requires, c.from.ensures)

pub bounds-s-k : goal.bounds-s-k
bounds-s-k c = rw c.from.ensures (mode-fits c.args.s.now c.args.at c.requires)

pub switches_end-requires : goal.switches_end-requires
switches_end-requires c = rw c.from.ensures (switches-stand c.args.s.now c.args.at c.requires)

pub returns : goal.returns
returns c = mode-ends c.args.s.now c.args.at (rw c.from.ensures at c.switches_end.ensures)
