-- The target of the entry decides: the end, a halt, or the place of another location.
use mathlib.Core.Path.{refl}
use Rattle.table_step.proofs.Settling.{row_here, located-at, found_at, row_next, located-next, gathered-at, moved-to-end, moved-to-halt, moved_on}
use Rattle.table_step.proofs.steps.moved.Goals as goal

pub location-requires : goal.location-requires
location-requires c = row_here _ c.requires

pub target-to-requires : goal.target-to-requires
target-to-requires c = located-at _ c.location.ensures c.requires

pub returns-then-to-eq-FINISHED : goal.returns-then-to-eq-FINISHED
returns-then-to-eq-FINISHED c = let e = c.end.ensures in
    λ t m. moved-to-end _ (found_at _ c.location.ensures c.target-to.ensures) t m c.if-to-eq-FINISHED.true e.place e.none

pub returns-then-to-eq-HALTED : goal.returns-then-to-eq-HALTED
returns-then-to-eq-HALTED c = let e = c.end-then-to-eq-HALTED.ensures in
    λ t m. moved-to-halt _ (found_at _ c.location.ensures c.target-to.ensures) t m c.if-to-eq-HALTED.true e.place e.none

pub location-requires-2 : goal.location-requires-2
location-requires-2 c = row_next _ (found_at _ c.location.ensures c.target-to.ensures) c.requires c.if-to-eq-FINISHED.false c.if-to-eq-HALTED.false

pub acting-at-requires : goal.acting-at-requires
acting-at-requires c = located-next _ (found_at _ c.location.ensures c.target-to.ensures) c.location-2.ensures c.requires c.if-to-eq-FINISHED.false c.if-to-eq-HALTED.false

pub returns : goal.returns
returns c = λ t m. moved_on _ (found_at _ c.location.ensures c.target-to.ensures) t m c.if-to-eq-FINISHED.false c.if-to-eq-HALTED.false refl (gathered-at _ c.location-2.ensures c.acting-at.ensures)
