-- No refusal has the number 0.
use mathlib.Core.Path.{◌≡◌, ap}
use native.Mathlib.Omega.{arith}
use Rattle.semantics.specs.Refusals.{Judged, refused, accepted, refusal_of}
use Rattle.paper.specs.Refusals.{number_of, answered}
use Rattle.paper.specs.declared.refusals.Refusal.{Refusal}
use Rattle.paper.specs.declared.refusals.Refusal.TheVariants.{Header, FileLength, FileSections, VariableLayout, ValueOrder, EquationLayout, EquationName, DrivenTwice}
use Rattle.paper.specs.declared.refusals.Refusal.TheVariants.{NodeLayout, NoTree, NodeName, Parting, Expression, Locations, TableRoom, TableHeader}
use Rattle.paper.specs.declared.refusals.Refusal.TheVariants.{TableSections, TablePlant, TableActions, TableLocations, Start, EventLength, RecordRoom, EventCount}
use Rattle.paper.specs.declared.refusals.Refusal.TheVariants.{EventRoom}

pub listed : (why : Refusal) → number_of why ≡ 0 → ⊥
listed Header h = omega arith
listed FileLength h = omega arith
listed FileSections h = omega arith
listed VariableLayout h = omega arith
listed ValueOrder h = omega arith
listed EquationLayout h = omega arith
listed EquationName h = omega arith
listed DrivenTwice h = omega arith
listed NodeLayout h = omega arith
listed NoTree h = omega arith
listed NodeName h = omega arith
listed Parting h = omega arith
listed Expression h = omega arith
listed Locations h = omega arith
listed TableRoom h = omega arith
listed TableHeader h = omega arith
listed TableSections h = omega arith
listed TablePlant h = omega arith
listed TableActions h = omega arith
listed TableLocations h = omega arith
listed Start h = omega arith
listed EventLength h = omega arith
listed RecordRoom h = omega arith
listed EventCount h = omega arith
listed EventRoom h = omega arith

-- what is answered has the number of what was judged
pub number-answered : {A B : Type 0} (f : A → B) (j : Judged A) {r : Judged B} → r ≡ answered f j → refusal_of r ≡ refusal_of j
unfolding refusal_of
number-answered f (refused n) h = ap refusal_of h
number-answered f (accepted a) h = ap refusal_of h
