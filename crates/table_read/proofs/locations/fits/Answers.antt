-- By the kind, a law of LikeKinds for each return; `told` makes it one of every action of that kind.
use mathlib.Core.Path.{refl, ap₂, ◌∙◌}
use mathlib.Core.Bool.{◌&&◌}
use Rattle.table_read.proofs.LikeKinds.{test_fits, wait-fits, assignment-fits, switch_fits, stop-fits, unknown-fits, told}
use Rattle.table_read.proofs.locations.fits.Goals as goal

pub returns-in-1 : goal.returns-in-1
returns-in-1 c = told _ _ _ _ (ap₂ (λ a b. a && b) c.goes_on.ensures c.goes_on-in-1.ensures ∙ test_fits _ _ _ _ c.in-1.is)

pub returns-in-2 : goal.returns-in-2
returns-in-2 c = told _ _ _ _ (ap₂ (λ a b. a && b) c.goes_on-in-2.ensures refl ∙ wait-fits _ _ _ _ c.in-2.is)

pub returns-in-3 : goal.returns-in-3
returns-in-3 c = told _ _ _ _ (ap₂ (λ a b. a && b) c.goes_on-in-3.ensures refl ∙ assignment-fits _ _ _ _ c.in-3.is)

pub returns-in-4 : goal.returns-in-4
returns-in-4 c = told _ _ _ _ (ap₂ (λ a b. a && b) c.goes_on-in-4.ensures refl ∙ switch_fits _ _ _ _ c.in-4.is)

pub returns-in-5 : goal.returns-in-5
returns-in-5 c = told _ _ _ _ (stop-fits _ _ _ _ c.in-5.is)

pub returns-in_default : goal.returns-in_default
returns-in_default c = told _ _ _ _ (unknown-fits _ _ _ _ c.in_default.in_default-own.rest.0.0.0.0.1 c.in_default.in_default-own.rest.0.0.0.1 c.in_default.in_default-own.rest.0.0.1 c.in_default.in_default-own.rest.0.1 c.in_default.in_default-own.rest.1)
