-- The section is missing, or its equation is kept or lost: one law for each.
use mathlib.Core.Path.{sym, ◌∙◌}
use native.Mathlib.Omega.{arith}
use Rattle.codec.proofs.Sections.{cuts2, ended}
use Rattle.plant.proofs.EquationParts.{equation-cut, equation-kept, equation-lost}
use Rattle.plant.proofs.PaperNumbers.{step-says}
use Rattle.plant.proofs.equations.equation.Goals as goal

pub returns-in_err-end : goal.returns-in_err-end
returns-in_err-end c = rw c.from_residual.ensures (step-says (equation-cut _ _ _ c.requires (sym c.in_err-end.was ∙ c.end2.ensures)))

pub slice_bounds-equation_in-count : goal.slice_bounds-equation_in-count
slice_bounds-equation_in-count c = let e = ended cuts2 _ _ c.requires (sym c.in_ok-end.was ∙ c.end2.ensures) in omega (arith, e.is)

pub slice_bounds-equation_in-start : goal.slice_bounds-equation_in-start
slice_bounds-equation_in-start c = let e = ended cuts2 _ _ c.requires (sym c.in_ok-end.was ∙ c.end2.ensures) in omega (arith, e.is)

pub slice_bounds-equation_in-end : goal.slice_bounds-equation_in-end
slice_bounds-equation_in-end c = let e = ended cuts2 _ _ c.requires (sym c.in_ok-end.was ∙ c.end2.ensures) in e.inside

pub returns-in_err-named : goal.returns-in_err-named
returns-in_err-named c =
    rw c.from_residual-in_err-named.ensures
    (step-says (equation-lost _ _ _ c.requires (sym c.in_ok-end.was ∙ c.end2.ensures) c.equation_in.ensures.is c.in_err-named.was))

pub returns : goal.returns
returns c = step-says (equation-kept _ _ _ c.requires (sym c.in_ok-end.was ∙ c.end2.ensures) c.equation_in.ensures.is c.in_ok-named.was)
