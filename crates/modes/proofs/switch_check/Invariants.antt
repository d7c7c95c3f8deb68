-- The current modes from selector j on are left to be checked (`check_from`).
use mathlib.Core.Path.{◌≡◌}
use Rattle.semantics.specs.Editions.{Edition}
use Rattle.modes.proofs.Walks.{check_from}
use Rattle.modes.proofs.switch_check.Given as goal

abbrev pub invariant-loop-j : goal.invariant-loop-j
invariant-loop-j l = (ed : Edition) → check_from ed l.values l.p.bytes.now l.p.index.now l.modes 0 ≡ check_from ed l.values l.p.bytes.now l.p.index.now l.modes l.j
