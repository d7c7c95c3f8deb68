-- What a caller is told of the bytes of a number or truth.
use Rattle.std.specs.Prelude.{◌≡◌, List, ℤ, Bool, Option, Some, None, Result}
use Rattle.std.proofs.Math.Option as maybe
use Rattle.std.proofs.Math.Option.{none, some}
use Rattle.semantics.specs.Expressions as Forms
use Rattle.semantics.specs.Expressions.{Value, value_of, holds}
use Rattle.expression.specs.Evaluation.{said}
use Rattle.expression.specs.PaperNumbers.{evaluation_number, evaluation_value, paper_number, paper_value}
use Rattle.expression.specs.declared.Side.{Side}

-- None just where condition 12 turns the bytes away; else the value or the side of a fault
unfoldable pub answer : {E A : Type 0} → (E → Value A) → maybe.Option E → Option (Result A Side)
answer f none = None
answer f (some e) = Some (said (f e))

abbrev pub number_answer : List ℤ → maybe.Option Forms.Number → Option (Result ℤ Side)
number_answer vs = answer (value_of vs)

abbrev pub truth_answer : List ℤ → maybe.Option Forms.Truth → Option (Result Bool Side)
truth_answer vs = answer (holds vs)

-- ---- the contracts: the case, the papers' number of it (12 for none, 203 a fault above, 204 one below, 0 a value), and the value
pub record Says {E A : Type 0} (f : E → Value A) (o : maybe.Option E) (r : Option (Result A Side)) : Type 0 where
  pub is : r ≡ answer f o
  pub number : paper_number r ≡ evaluation_number f o
  pub value : paper_value r ≡ evaluation_value f o

abbrev pub NumberSays : List ℤ → maybe.Option Forms.Number → Option (Result ℤ Side) → Type 0
NumberSays vs = Says (value_of vs)

abbrev pub TruthSays : List ℤ → maybe.Option Forms.Truth → Option (Result Bool Side) → Type 0
TruthSays vs = Says (holds vs)
