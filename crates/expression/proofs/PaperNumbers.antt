-- The paper's numbers and values of the answers are those of what was read.
use mathlib.Core.Path.{◌≡◌, refl, ap, ◌∙◌}
use mathlib.Core.Option.{Option, none, some}
use Rattle.std.specs.Prelude.{Result}
use Rattle.std.specs.Prelude as answers
use Rattle.semantics.specs.Expressions.{Value, ok, fault, above, below}
use Rattle.semantics.specs.Run.{fault_answer}
use Rattle.expression.specs.Answers.{answer, Says}
use Rattle.expression.specs.PaperNumbers.{value_number, evaluation_number, value_given, evaluation_value, paper_number, paper_value}
use Rattle.expression.specs.declared.Side.{Side}

pub says : {E A : Type 0} {f : E → Value A} {o : Option E} {r : answers.Option (Result A Side)} → r ≡ answer f o → Says f o r
unfolding answer paper_number paper_value fault_answer value_number evaluation_number value_given evaluation_value
says {E} {A} {f} {o} {r} e = record { is = e; number = ap paper_number e ∙ numbered o; value = ap paper_value e ∙ valued o }
  where
    one : (x : E) (v : Value A) → f x ≡ v → paper_number (answer f (some x)) ≡ value_number (f x)
    one x (ok z) e = rw e refl
    one x (fault above) e = rw e refl
    one x (fault below) e = rw e refl

    given : (x : E) (v : Value A) → f x ≡ v → paper_value (answer f (some x)) ≡ value_given (f x)
    given x (ok z) e = rw e refl
    given x (fault above) e = rw e refl
    given x (fault below) e = rw e refl

    numbered : (o : Option E) → paper_number (answer f o) ≡ evaluation_number f o
    numbered none = refl
    numbered (some x) = one x (f x) refl

    valued : (o : Option E) → paper_value (answer f o) ≡ evaluation_value f o
    valued none = refl
    valued (some x) = given x (f x) refl
