use mathlib.Core.Path.{sym, ◌∙◌}
use native.Mathlib.Omega.{arith}
use Rattle.codec.proofs.Sections.{short4, at4}
use Rattle.codec.proofs.end4.Goals as goal

pub returns-in_err-start : goal.returns-in_err-start
returns-in_err-start c = c.from_residual.ensures ∙ short4 _ _ (sym c.behind.ensures ∙ c.in_err-start.was) (omega arith)

pub returns : goal.returns
returns c = c.behind-2.ensures ∙ at4 _ _ (sym c.behind.ensures ∙ c.in_ok-start.was) c.nat4.ensures
