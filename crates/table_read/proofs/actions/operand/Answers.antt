-- By the kind: 1 and 2 have any operand, 3 to 5 one whose length is tested (a law of ActionForms each), others none.
use mathlib.Core.Path.{refl}
use borrow.Author.Tests.{ne_eqb}
use Rattle.semantics.specs.Bytes.{is_some}
use Rattle.semantics.specs.TableFile.{action_kind, action_of_kind}
use Rattle.table_read.proofs.ActionForms.{assign-form, switch-form, stop-form}
use Rattle.table_read.proofs.actions.operand.Goals as goal

pub returns-in-1 : goal.returns-in-1
unfolding action_kind action_of_kind is_some
returns-in-1 c = rw c.in-1.is refl

pub returns-in-2 : goal.returns-in-2
unfolding action_kind action_of_kind is_some
returns-in-2 c = rw c.in-2.is refl

pub returns-in-3 : goal.returns-in-3
unfolding action_kind action_of_kind is_some
returns-in-3 c = rw c.in-3.is (assign-form c.args.b.now)

pub returns-in-4 : goal.returns-in-4
unfolding action_kind action_of_kind is_some
returns-in-4 c = rw c.in-4.is (switch-form c.args.b.now)

pub returns-in-5 : goal.returns-in-5
unfolding action_kind action_of_kind is_some
returns-in-5 c = rw c.in-5.is (stop-form c.args.b.now)

pub returns-in_default : goal.returns-in_default
unfolding action_kind action_of_kind is_some
returns-in_default c = rw (ne_eqb _ _ c.in_default.in_default-own.rest.0.0.0.0.1, ne_eqb _ _ c.in_default.in_default-own.rest.0.0.0.1, ne_eqb _ _ c.in_default.in_default-own.rest.0.0.1, ne_eqb _ _ c.in_default.in_default-own.rest.0.1, ne_eqb _ _ c.in_default.in_default-own.rest.1) refl
