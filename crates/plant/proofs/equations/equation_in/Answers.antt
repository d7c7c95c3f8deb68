use mathlib.Core.Path.{refl, ap}
use native.Mathlib.Omega.{arith}
use Rattle.std.specs.Prelude.{Some}
use Rattle.semantics.specs.Sections.{equation_in_bytes}
use Rattle.codec.proofs.Reading.{taken, kept, over, none_kept}
use Rattle.plant.specs.Equations.{view, seen}
use Rattle.plant.proofs.PaperNumbers.{seen-says}
use Rattle.plant.proofs.equations.equation_in.Goals as goal

pub returns-in_err-body : goal.returns-in_err-body
unfolding equation_in_bytes seen
returns-in_err-body c = seen-says (rw (none_kept c.kind.ensures.reads (ap view c.in_err-body.was)) c.from_residual.ensures)

pub returns-then-body-s : goal.returns-then-body-s
unfolding equation_in_bytes seen
returns-then-body-s c = seen-says (rw (over (taken c.kind.ensures.reads (ap view c.in_ok-body.was)) (omega arith)) refl)

pub returns : goal.returns
unfolding equation_in_bytes seen
returns c = seen-says (let t = taken c.kind.ensures.reads (ap view c.in_ok-body.was) in rw (kept t (omega arith)) (ap Some t.means))
