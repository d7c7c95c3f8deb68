-- Too few bytes, a node too low or outside, or by the targets' fit: one law of EntryLoop for each return.
use native.Mathlib.Omega.{arith}
use Rattle.edition.specs.Editions.{edition_of}
use Rattle.edition.proofs.Widths.{width-high}
use Rattle.table_read.proofs.EntryLoop.{entry-none, entry-low, entry-outside, entry-ok, entry-bad}
use Rattle.table_read.proofs.locations.entry.Goals as goal

pub overflow_add-w : goal.overflow_add-w
overflow_add-w c = omega (arith, width-high (edition_of c.args.ed).width)

pub returns-then-s-at : goal.returns-then-s-at
returns-then-s-at c = λ l k. entry-none _ _ k _ _ _ (omega arith)

pub returns-then-node-low : goal.returns-then-node-low
returns-then-node-low c = λ l k. entry-low _ _ k _ _ _ (omega arith)

pub returns-then-node-kinds : goal.returns-then-node-kinds
returns-then-node-kinds c = λ l k. entry-outside _ _ k _ _ _ (omega arith)

pub returns-then-fits : goal.returns-then-fits
returns-then-fits c = λ l k.
    entry-ok _ _ k _ _ _ c.width-w.ensures c.number-node.ensures c.fits.ensures c.nat2-t.ensures c.nat2-u.ensures c.if-fits.true (omega arith) (omega arith)

pub returns-else-fits : goal.returns-else-fits
returns-else-fits c = λ l k.
    entry-bad _ _ k _ _ _ c.width-w.ensures c.number-node.ensures c.fits.ensures c.nat2-t.ensures c.nat2-u.ensures c.if-fits.false
