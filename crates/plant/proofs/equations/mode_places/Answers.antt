use native.Mathlib.Omega.{arith}
use Rattle.plant.proofs.EquationSizes.{cuts-mode}
use Rattle.plant.proofs.EquationIndex.{noted-at, noting-start, noting-next, noting-there, noting-end}
use Rattle.plant.proofs.equations.mode_places.Goals as goal

pub loop-m-init : goal.loop-m-init
loop-m-init c = noted-at (omega arith) (omega arith) (noting-start _ _ _ _ _ _ _ c.requires.0 c.requires.1)

pub mode_end-p-requires : goal.mode_end-p-requires
mode_end-p-requires c = noting-there _ _ _ _ _ _ _ c.loop-m.invariant cuts-mode (omega (arith, c.from-m-end.ensures))

pub loop-m-preserved : goal.loop-m-preserved
loop-m-preserved c =
    noted-at (omega arith) (omega arith)
    (noting-next _ _ _ _ _ _ _ c.loop-m.invariant cuts-mode (omega (arith, c.from-m-end.ensures)) (λ v e h. c.mode_end-p.ensures (record { value = v; rest = e; got = h })))

pub returns : goal.returns
returns c = noting-end _ _ _ _ _ _ _ c.loop-m.invariant (omega (arith, c.from-m-end.ensures))
