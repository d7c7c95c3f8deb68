-- The form that a first byte says: the crate's enum beside semantics' own.
use Rattle.std.specs.Prelude.{◌≡◌, ℕ}
use Rattle.std.proofs.Math.Option.{some}
use Rattle.semantics.specs.Expressions.{sum, difference, product, at_most, less, equal, unequal, both, either}
use Rattle.semantics.specs.Expressions.{a_constant, a_variable, an_operation, a_negation, a_comparison, a_connective, an_opposite, a_true, unknown, form_of}
use Rattle.semantics.specs.Expressions as Papers
use Rattle.expression.specs.PaperNumbers.{paper_form}
use Rattle.expression.specs.declared.Operation.{Operation}
use Rattle.expression.specs.declared.Operation.TheVariants.{Sum, Difference, Product}
use Rattle.expression.specs.declared.Comparison.{Comparison}
use Rattle.expression.specs.declared.Comparison.TheVariants.{AtMost, Less, Equal, Unequal}
use Rattle.expression.specs.declared.Connective.{Connective}
use Rattle.expression.specs.declared.Connective.TheVariants.{Both, Either}
use Rattle.expression.specs.declared.Form.{Form}
use Rattle.expression.specs.declared.Form.TheVariants as Forms

abbrev pub operation_is : Operation → Papers.Operation
operation_is Sum = sum
operation_is Difference = difference
operation_is Product = product

abbrev pub comparison_is : Comparison → Papers.Comparison
comparison_is AtMost = at_most
comparison_is Less = less
comparison_is Equal = equal
comparison_is Unequal = unequal

abbrev pub connective_is : Connective → Papers.Connective
connective_is Both = both
connective_is Either = either

abbrev pub form_is : Form → Papers.Form
form_is Forms.Constant = a_constant
form_is Forms.Variable = a_variable
form_is (Forms.Operation o) = an_operation (operation_is o)
form_is Forms.Negation = a_negation
form_is (Forms.Comparison o) = a_comparison (comparison_is o)
form_is (Forms.Connective o) = a_connective (connective_is o)
form_is Forms.Opposite = an_opposite
form_is Forms.True = a_true
form_is Forms.Unknown = unknown

-- the form of the byte; where it has a code in the papers, the byte is that code
pub record FormSays (code : ℕ) (r : Form) : Type 0 where
  pub is : form_is r ≡ form_of code
  pub number : (n : ℕ) → paper_form r ≡ some n → n ≡ code
