-- The first byte decides, and each arm has its law.
use mathlib.Core.Path.{refl}
use native.Mathlib.Omega.{arith}
use Rattle.std.proofs.Common.{rules}
use Rattle.edition.specs.Editions.{edition_of}
use Rattle.edition.proofs.Widths.{width-high}
use Rattle.event.proofs.Bytes.{ticks, picks, switches, nothing}
use Rattle.event.proofs.decoded.Goals as goal

pub overflow_add-width : goal.overflow_add-width
overflow_add-width c = omega (arith, c.width.ensures, width-high (edition_of c.args.ed).width)

pub slice_bounds-unused-count-in-1 : goal.slice_bounds-unused-count-in-1
slice_bounds-unused-count-in-1 c = omega (arith, c.width.ensures, width-high (edition_of c.args.ed).width)

pub slice_bounds-unused-start-in-1 : goal.slice_bounds-unused-start-in-1
slice_bounds-unused-start-in-1 c = omega (arith, c.width.ensures, width-high (edition_of c.args.ed).width)

pub number-requires : goal.number-requires
number-requires c = omega (arith, width-high (edition_of c.args.ed).width)

pub returns-in-0 : goal.returns-in-0
returns-in-0 c = let s = c.args in ticks (edition_of s.ed) s.s.now (search rules) c.in-0.is c.unused.ensures

pub returns-in-1 : goal.returns-in-1
returns-in-1 c = let s = c.args in
    picks (edition_of s.ed) s.s.now (search rules) c.in-1.is c.width.ensures c.number.ensures c.unused-in-1.ensures

pub returns-in-2 : goal.returns-in-2
returns-in-2 c = let s = c.args in
    switches (edition_of s.ed) s.s.now (search rules) c.in-2.is c.from.ensures c.from-in-2.ensures c.unused-in-2.ensures

pub returns-in_default : goal.returns-in_default
returns-in_default c = let s = c.args in
    nothing (edition_of s.ed) s.s.now (search rules) (search rules) (search rules) (search rules) refl
