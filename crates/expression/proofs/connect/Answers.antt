-- Two cases by the connective.
use mathlib.Core.Path.{sym, ap}
use Rattle.semantics.specs.Expressions.{connected}
use Rattle.expression.specs.Forms.{connective_is}
use Rattle.expression.specs.declared.Connective.{Connective}
use Rattle.expression.proofs.connect.Goals as goal

pub returns-in-Both : goal.returns-in-Both
unfolding connected
returns-in-Both c = let a = c.args in sym (ap (λ (o : Connective). connected (connective_is o) a.a a.b) c.in-Both.is)

pub returns-in-Either : goal.returns-in-Either
unfolding connected
returns-in-Either c = let a = c.args in sym (ap (λ (o : Connective). connected (connective_is o) a.a a.b) c.in-Either.is)
