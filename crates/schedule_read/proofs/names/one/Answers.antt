-- By the kind: 6, 7 and 8 have the payload bytes that are read (`Made`); a node of any other kind names nothing.
use Rattle.std.proofs.Common.{rules}
use mathlib.Core.Path.{refl}
use native.Mathlib.Omega.{arith}
use Rattle.schedules.specs.Nodes.{node_named}
use Rattle.schedule_read.proofs.Payloads.{made-of, head-reset, head-reinitial, pair-switch, tells-reset, tells-reinitial, tells-switch, names-nothing}
use Rattle.schedule_read.proofs.names.one.Goals as goal

pub bounds-b-0 : goal.bounds-b-0
bounds-b-0 c = (head-reset c.in-6.is (made-of _ _ c.args.node.made).is).long

pub bounds-b-0-in-7 : goal.bounds-b-0-in-7
bounds-b-0-in-7 c = (head-reinitial c.in-7.is (made-of _ _ c.args.node.made).is).long

pub bounds-b-0-in-8 : goal.bounds-b-0-in-8
bounds-b-0-in-8 c = omega (arith, (pair-switch c.in-8.is (made-of _ _ c.args.node.made).is).long)

pub bounds-b-1 : goal.bounds-b-1
bounds-b-1 c = omega (arith, (pair-switch c.in-8.is (made-of _ _ c.args.node.made).is).long)

pub returns-in-6 : goal.returns-in-6
unfolding node_named
returns-in-6 c = λ cs d. tells-reset (node_named _ cs) c.in-6.is (rw c.from.ensures refl)

pub returns-in-7 : goal.returns-in-7
unfolding node_named
returns-in-7 c = λ cs d. tells-reinitial (node_named _ cs) c.in-7.is (rw c.from-in-7.ensures refl)

pub returns-in-8 : goal.returns-in-8
unfolding node_named
returns-in-8 c = λ cs d. tells-switch (node_named _ cs) c.in-8.is (rw (c.from-in-8.ensures, c.from-in-8-2.ensures) at (c.mode_exists.ensures cs d))

pub returns-in_default : goal.returns-in_default
returns-in_default c = λ cs d. names-nothing _ _ (search rules) (search rules) (search rules)
