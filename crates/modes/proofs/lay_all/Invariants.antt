-- The rates of the current modes from selector j on are left to be written (`LayingAll`).
use Rattle.modes.proofs.Walks.{LayingAll}
use Rattle.modes.proofs.lay_all.Given as goal

abbrev pub invariant-loop-j : goal.invariant-loop-j
invariant-loop-j l = LayingAll l.p.bytes.now l.p.index.now l.modes l.initial.rates l.j l.rates
