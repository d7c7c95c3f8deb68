-- The papers' number and value for each case of the enums that this crate answers with.
-- "Every result must lie in −2147483648..2147483647, or evaluation faults": 203 for a fault above, 204 for one below; 12 for bytes that 12 turns away; 0 for a value.
use Rattle.std.specs.Prelude as answers
use Rattle.std.specs.Prelude.{ℕ, Result, Ok, Err}
use Rattle.std.proofs.Math.Option.{Option, none, some}
use Rattle.semantics.specs.Expressions.{Value, ok, fault}
use Rattle.semantics.specs.Run.{fault_answer}
use Rattle.expression.specs.declared.Side.{Side}
use Rattle.expression.specs.declared.Side.TheVariants.{Above, Below}
use Rattle.expression.specs.declared.Operation.{Operation}
use Rattle.expression.specs.declared.Operation.TheVariants.{Sum, Difference, Product}
use Rattle.expression.specs.declared.Comparison.{Comparison}
use Rattle.expression.specs.declared.Comparison.TheVariants.{AtMost, Less, Equal, Unequal}
use Rattle.expression.specs.declared.Connective.{Connective}
use Rattle.expression.specs.declared.Connective.TheVariants.{Both, Either}
use Rattle.expression.specs.declared.Form.{Form}
use Rattle.expression.specs.declared.Form.TheVariants as Forms

-- ---- of what was read: none where 12 turns the bytes away
unfoldable pub value_number : {A : Type 0} → Value A → ℕ
value_number (ok a) = 0
value_number (fault s) = fault_answer s

unfoldable pub evaluation_number : {E A : Type 0} → (E → Value A) → Option E → ℕ
evaluation_number f none = 12
evaluation_number f (some e) = value_number (f e)

unfoldable pub value_given : {A : Type 0} → Value A → Option A
value_given (ok a) = some a
value_given (fault s) = none

unfoldable pub evaluation_value : {E A : Type 0} → (E → Value A) → Option E → Option A
evaluation_value f none = none
evaluation_value f (some e) = value_given (f e)

-- ---- of the enums
-- an answer
unfoldable pub paper_number : {A : Type 0} → answers.Option (Result A Side) → ℕ
paper_number (answers.Some (Ok a)) = 0
paper_number (answers.Some (Err Above)) = 203
paper_number (answers.Some (Err Below)) = 204
paper_number answers.None = 12

unfoldable pub paper_value : {A : Type 0} → answers.Option (Result A Side) → Option A
paper_value (answers.Some (Ok a)) = some a
paper_value (answers.Some (Err u)) = none
paper_value answers.None = none

-- the form that a first byte says, by its code; a byte that is no code has none, and 12 turns it away
unfoldable pub paper_operation : Operation → ℕ
paper_operation Sum = 0x10
paper_operation Difference = 0x11
paper_operation Product = 0x12

unfoldable pub paper_comparison : Comparison → ℕ
paper_comparison AtMost = 0x20
paper_comparison Less = 0x21
paper_comparison Equal = 0x22
paper_comparison Unequal = 0x23

unfoldable pub paper_connective : Connective → ℕ
paper_connective Both = 0x28
paper_connective Either = 0x29

unfoldable pub paper_form : Form → Option ℕ
paper_form Forms.Constant = some 0x01
paper_form Forms.Variable = some 0x02
paper_form (Forms.Operation o) = some (paper_operation o)
paper_form Forms.Negation = some 0x14
paper_form (Forms.Comparison o) = some (paper_comparison o)
paper_form (Forms.Connective o) = some (paper_connective o)
paper_form Forms.Opposite = some 0x2a
paper_form Forms.True = some 0x2f
paper_form Forms.Unknown = none
