use mathlib.Core.Path.{◌∙◌}
use Prim.Native.Nat.{◌-◌, ◌<◌}
use native.Mathlib.Nat.{sub-zero}
use native.Mathlib.Omega.{arith}
use lib.ListN.{get_or}
use mir.Syntax.{w32}
use mir.ValLaws.{to_z-of_z}
use Rattle.modes.proofs.Standing.{parts}
use Rattle.modes.proofs.Walks.{lay-start, lay-next, lay-end}
use Rattle.modes.proofs.lay_rates.Goals as goal

pub bounds-es-at : goal.bounds-es-at
bounds-es-at c = omega (arith, (parts c.requires.0).some)

pub loop-init : goal.loop-init
loop-init c = rw sub-zero (lay-start _ c.requires.0 c.requires.1)

pub bounds-es-p : goal.bounds-es-p
bounds-es-p c = let h : 0 < get_or c.args.es.now c.args.at 0 - c.loop.counter = omega arith in omega (arith, (lay-next c.loop.invariant h).inside)

pub int4-requires : goal.int4-requires
int4-requires c = let h : 0 < get_or c.args.es.now c.args.at 0 - c.loop.counter = omega arith in omega (arith, (lay-next c.loop.invariant h).inside)

pub bounds-rates-v : goal.bounds-rates-v
bounds-rates-v c = let h : 0 < get_or c.args.es.now c.args.at 0 - c.loop.counter = omega arith in omega (arith, (lay-next c.loop.invariant h).known)

pub loop-preserved : goal.loop-preserved
loop-preserved c = (lay-next c.loop.invariant (omega arith)).on (omega arith) c.from-v.ensures (to_z-of_z w32 c.int4.result (record { sfits = c.int4.type_inv }) ∙ c.int4.ensures)

pub returns : goal.returns
returns c = lay-end c.loop.invariant (omega arith)
