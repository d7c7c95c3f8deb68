-- By the kind: other than 1 has no rate to put (`with_none`); kind 1 has one, a signed number of four bytes (`with-one`), unless no array has a place for its variable (`with_out`).
use mathlib.Core.Path.{◌∙◌}
use mir.Syntax.{w32}
use mir.ValLaws.{to_z-of_z}
use native.Mathlib.Omega.{arith}
use Rattle.plant.proofs.EquationIndex.{kind_fits, steady-fits, with_none, with_out, with-one}
use Rattle.plant.proofs.equations.put_steady.Goals as goal

pub bounds-s-at : goal.bounds-s-at
bounds-s-at c = kind_fits c.args.s.now c.args.at c.requires

pub returns-then-s-at-ne1 : goal.returns-then-s-at-ne1
returns-then-s-at-ne1 c = λ t es h. with_none _ _ t es h c.if-s-at-ne1.true

pub bounds-s-at-2 : goal.bounds-s-at-2
bounds-s-at-2 c = omega (arith, steady-fits c.args.s.now c.args.at c.requires c.if-s-at-ne1.false)

pub int4-requires : goal.int4-requires
int4-requires c = omega (arith, steady-fits c.args.s.now c.args.at c.requires c.if-s-at-ne1.false)

pub returns-then-v-ge-VARIABLES : goal.returns-then-v-ge-VARIABLES
returns-then-v-ge-VARIABLES c = λ t es h. with_out _ _ t es h c.if-s-at-ne1.false (omega (arith, c.told-rates, c.from-v.ensures))

pub returns : goal.returns
returns c = λ t es h. rw c.from-v.ensures (with-one _ _ t es h c.if-s-at-ne1.false (to_z-of_z w32 c.int4.result (record { sfits = c.int4.type_inv }) ∙ c.int4.ensures))
