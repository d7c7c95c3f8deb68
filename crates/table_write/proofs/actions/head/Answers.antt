-- Two numbers of the edition's width, and a byte.
use mathlib.Core.Path.{ap}
use Prim.Native.Nat.{ℕ, ◌+◌, ◌*◌}
use native.Mathlib.Omega.{arith}
use Rattle.edition.specs.Editions.{edition_of}
use Rattle.edition.proofs.Widths.{width-high}
use Rattle.table_write.proofs.actions.head.Goals as goal

pub overflow_mul-result : goal.overflow_mul-result
overflow_mul-result c = omega (arith, c.width.ensures, width-high (edition_of c.args.ed).width)

pub overflow_add-result : goal.overflow_add-result
overflow_add-result c = omega (arith, c.width.ensures, width-high (edition_of c.args.ed).width)

pub returns : goal.returns
returns c = (ap (λ (x : ℕ). 2 * x + 1) c.width.ensures, omega (arith, c.width.ensures, width-high (edition_of c.args.ed).width))
