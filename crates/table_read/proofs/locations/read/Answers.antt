use mathlib.Core.Path.{◌∙◌}
use native.Mathlib.Omega.{arith}
use Rattle.table_read.proofs.Ended.{found, not_found}
use Rattle.table_read.proofs.LocationLoop.{count_of, refuse-count, located-start, located-next, located-stop, located-over, located_end}
use Rattle.table_read.proofs.LikeKinds.{like-says, answers-like}
use Rattle.table_read.proofs.locations.read.Goals as goal

pub returns-in_default : goal.returns-in_default
returns-in_default c = λ l k. refuse-count _ l _ c.in_default.ensures

pub loop-i-init : goal.loop-i-init
loop-i-init c = located-start _ _ (count_of c.in-Some.ensures)

pub location-requires : goal.location-requires
location-requires c = c.loop-i.invariant.took.inside

pub returns-in_default-location : goal.returns-in_default-location
returns-in_default-location c = λ l k.
    located-stop _ _ c.loop-i.invariant (count_of c.in-Some.ensures) c.loop-i-test.true (not_found (c.in_default-location.ensures _ (like-says _))) ∙ answers-like _ l _ _ k

pub offset_bounds-places-i : goal.offset_bounds-places-i
offset_bounds-places-i c = omega (arith, (count_of c.in-Some.ensures).high)

pub bounds-places-i : goal.bounds-places-i
bounds-places-i c = omega (arith, (count_of c.in-Some.ensures).high)

pub loop-i-preserved : goal.loop-i-preserved
loop-i-preserved c = located-next _ _ c.loop-i.invariant (omega (arith, (count_of c.in-Some.ensures).high)) (found (c.in-Some-location.ensures _ (like-says _)))

pub returns-then-p-s : goal.returns-then-p-s
returns-then-p-s c = λ l k. located-over _ _ c.loop-i.invariant (count_of c.in-Some.ensures) (omega arith) (omega arith) ∙ answers-like _ l _ _ k

pub returns : goal.returns
returns c = λ l k. located_end _ _ c.loop-i.invariant (count_of c.in-Some.ensures) (omega arith) (omega arith) ∙ answers-like _ l _ _ k
