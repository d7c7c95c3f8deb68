-- The mode that stands there says that its rates, and the byte after them, are inside (`parts`).
use Rattle.modes.proofs.Standing.{parts}
use native.Mathlib.Omega.{arith}
use Rattle.modes.proofs.switches_at.Goals as goal

pub bounds-es-at : goal.bounds-es-at
bounds-es-at c = omega (arith, (parts c.requires).some)
