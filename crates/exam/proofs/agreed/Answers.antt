-- What the tests so far say of the two runs (Comparing).
use mathlib.Core.Path.{sym, ◌∙◌}
use Rattle.schedules.specs.Exam.{equal_counts}
use Rattle.exam.proofs.Comparing.{counts-differ, numbers-same, bytes-same}
use Rattle.exam.proofs.agreed.Goals as goal

pub returns-then-eq : goal.returns-then-eq
unfolding equal_counts
returns-then-eq c n h k = let a = c.args in
    c.eq-then-eq.ensures ∙ bytes-same a.a.now a.b.now ∙ numbers-same n a.r a.t a.a.now a.b.now h k (sym c.if-eq.ensures)

pub returns-else-eq : goal.returns-else-eq
unfolding equal_counts
returns-else-eq c n h k = let a = c.args in
    c.if-eq.false ∙ counts-differ n a.r a.t a.a.now a.b.now (sym c.if-eq.ensures)
