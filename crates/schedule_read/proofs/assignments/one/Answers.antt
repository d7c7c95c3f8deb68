-- By the kind: 6 and 7 have the payload byte that is read (`Made`); a node of any other kind assigns nothing.
use Rattle.std.proofs.Common.{rules}
use mathlib.Core.Path.{ap}
use mathlib.Core.Bool.{not}
use Rattle.schedules.specs.Nodes.{node_parted}
use Rattle.schedule_read.proofs.Payloads.{made-of, head-reset, head-reinitial, tells-reset, tells-reinitial, assigns-nothing}
use Rattle.schedule_read.proofs.assignments.one.Goals as goal

pub bounds-b-0 : goal.bounds-b-0
bounds-b-0 c = (head-reset c.in-6.is (made-of _ _ c.args.node.made).is).long

pub bounds-b-0-in-7 : goal.bounds-b-0-in-7
bounds-b-0-in-7 c = (head-reinitial c.in-7.is (made-of _ _ c.args.node.made).is).long

pub returns-in-6 : goal.returns-in-6
unfolding node_parted
returns-in-6 c = λ es d. tells-reset (node_parted es) c.in-6.is (ap not (rw c.from.ensures at (c.is_driven.ensures es d)))

pub returns-in-7 : goal.returns-in-7
unfolding node_parted
returns-in-7 c = λ es d. tells-reinitial (node_parted es) c.in-7.is (rw c.from-in-7.ensures at (c.is_driven-in-7.ensures es d))

pub returns-in_default : goal.returns-in_default
returns-in_default c = λ es d. assigns-nothing es (search rules) (search rules)
