-- An operation on two leaves, or what `number` found, by where it ends.
use Rattle.std.proofs.Common.{rules}
use mathlib.Core.Path.{ap, ◌∙◌}
use lib.IntN.{ℤ}
use mir.Syntax.{w32}
use mir.ValLaws.{to_z-of_z}
use Rattle.std.specs.Prelude.{Ok, Some}
use Rattle.semantics.specs.Expressions.{number_in, value_of}
use Rattle.expression.proofs.PaperNumbers.{says}
use Rattle.expression.proofs.Wholes.{found, lost, of_all, of_part, of_none}
use Rattle.expression.proofs.number_value.Goals as goal

pub returns-in-Some : goal.returns-in-Some
returns-in-Some c ed = let e = to_z-of_z w32 c.in-Some.z (search rules) in says (ap (λ (v : ℤ). Some (Ok v)) e ∙ c.single.ensures ed _ c.in-Some.is)

pub returns-in-Some-operating : goal.returns-in-Some-operating
returns-in-Some-operating c ed = says (c.operating.ensures ed _ c.in-Some-operating.is)

pub returns-in_err-value : goal.returns-in_err-value
unfolding number_in
returns-in_err-value c ed = says (c.from_residual.ensures ∙ of_none (value_of c.args.vars.now) _ c.args.s.now (lost (c.number.ensures ed) c.in_err-value.was))

pub returns-then-n-s : goal.returns-then-n-s
unfolding number_in
returns-then-n-s c ed = says (of_all (found (c.number.ensures ed) c.in_ok-value.was) c.if-n-s.true)

pub returns-else-n-s : goal.returns-else-n-s
unfolding number_in
returns-else-n-s c ed = says (of_part (found (c.number.ensures ed) c.in_ok-value.was) c.if-n-s.false)
