-- Two comparisons joined, or what `truth` found, by where it ends.
use mathlib.Core.Path.{◌∙◌}
use Rattle.semantics.specs.Expressions.{truth_in, holds}
use Rattle.expression.proofs.PaperNumbers.{says}
use Rattle.expression.proofs.Wholes.{found, lost, of_all, of_part, of_none}
use Rattle.expression.proofs.no_comparison.Goals as goal

pub returns-in-Some : goal.returns-in-Some
returns-in-Some c ed = says (c.joining.ensures ed _ c.in-Some.is)

pub returns-in_err-value : goal.returns-in_err-value
unfolding truth_in
returns-in_err-value c ed = says (c.from_residual.ensures ∙ of_none (holds c.args.vars.now) _ c.args.s.now (lost (c.truth.ensures ed) c.in_err-value.was))

pub returns-then-n-s : goal.returns-then-n-s
unfolding truth_in
returns-then-n-s c ed = says (of_all (found (c.truth.ensures ed) c.in_ok-value.was) c.if-n-s.true)

pub returns-else-n-s : goal.returns-else-n-s
unfolding truth_in
returns-else-n-s c ed = says (of_part (found (c.truth.ensures ed) c.in_ok-value.was) c.if-n-s.false)
