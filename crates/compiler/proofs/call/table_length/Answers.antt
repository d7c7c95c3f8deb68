-- Its parts, and what stands around them.
use native.Mathlib.Omega.{arith}
use Rattle.edition.specs.Editions.{edition_of}
use Rattle.edition.proofs.Widths.{width-high}
use Rattle.compiler.proofs.call.table_length.Goals as goal

pub overflow_add-result-5 : goal.overflow_add-result-5
overflow_add-result-5 c = omega (arith, c.requires.ordered, c.requires.short, c.width.ensures, width-high (edition_of c.args.ed).width)

pub returns : goal.returns
returns c = let w = width-high (edition_of c.args.ed).width in
    record {
      is = omega (arith, c.requires.ordered, c.width.ensures);
      fits = omega (arith, c.requires.ordered, c.requires.short, c.width.ensures, w);
    }
