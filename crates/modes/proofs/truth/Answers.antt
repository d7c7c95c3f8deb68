-- A switch's truth is the bytes from two past its place to its end.
use native.Mathlib.Omega.{arith}
use Rattle.modes.proofs.Standing.{switch-bytes}
use Rattle.modes.proofs.Taking.{asked-at}
use Rattle.modes.proofs.truth.Goals as goal

pub overflow_add-b : goal.overflow_add-b
overflow_add-b c = let x = switch-bytes c.requires.stands in omega (arith, x.long, x.inside)

pub overflow_add-e : goal.overflow_add-e
overflow_add-e c = let x = switch-bytes c.requires.stands in omega (arith, x.long, x.inside)

pub bounds-es-at : goal.bounds-es-at
bounds-es-at c = let x = switch-bytes c.requires.stands in omega (arith, x.long, x.inside)

pub overflow_add-e-2 : goal.overflow_add-e-2
overflow_add-e-2 c = let x = switch-bytes c.requires.stands in omega (arith, x.long, x.inside)

pub slice_bounds-ask-count : goal.slice_bounds-ask-count
slice_bounds-ask-count c = let x = switch-bytes c.requires.stands in omega (arith, x.long, x.inside)

pub slice_bounds-ask-start : goal.slice_bounds-ask-start
slice_bounds-ask-start c = let x = switch-bytes c.requires.stands in omega (arith, x.long, x.inside)

pub slice_bounds-ask-end : goal.slice_bounds-ask-end
slice_bounds-ask-end c = let x = switch-bytes c.requires.stands in omega (arith, x.long, x.inside)

pub returns : goal.returns
returns c y n = asked-at c.from.ensures (λ ed. c.ask.ensures ed y n)
