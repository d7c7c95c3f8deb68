-- What the functions inside the crate find at a position, from what the readers of semantics read there.
use Rattle.std.specs.Prelude.{◌≡◌, List, ℕ, ◌≤◌, length, drop, ℤ, Bool, Option, Some, None, Result, Ok, Err}
use Rattle.semantics.specs.Bytes.{broken, read, Reader, fail}
use Rattle.semantics.specs.Editions.{Edition}
use Rattle.semantics.specs.Expressions.{above, below, Value, ok, fault, Number, Truth, value_of, holds, Form, read_as_number, read_truth, read_form, read_expression}
use Rattle.expression.specs.declared.Side.{Side}
use Rattle.expression.specs.declared.Side.TheVariants.{Above, Below}

-- a value, or the side of a fault, as the code has it
abbrev pub said : {A : Type 0} → Value A → Result A Side
said (ok a) = Ok a
said (fault above) = Err Above
said (fault below) = Err Below

-- at position p of s the reader takes what has this value, and comes to position m
pub record At {E A : Type 0} (f : E → Value A) (r : Reader E) (s : List ℕ) (p : ℕ) (x : Result A Side) (m : ℕ) : Type 0 where
  pub value : E
  pub got : r (drop p s) ≡ read value (drop m s)
  pub is : x ≡ said (f value)
  pub inside : m ≤ length s

-- what is found there: such a value and position, or None where the reader takes nothing
pub data Finds {E A : Type 0} (f : E → Value A) (r : Reader E) (s : List ℕ) (p : ℕ) : Option (Result A Side × ℕ) → Type 0 where
  finds_at : {x : Result A Side} {m : ℕ} → At f r s p x m → Finds f r s p (Some (x, m))
  finds_none : r (drop p s) ≡ broken → Finds f r s p None

-- the readers of a number and of a truth of at most this depth
abbrev pub number_reader : Edition → List ℤ → ℕ → Reader Number
number_reader ed vs depth = read_as_number ed (length vs) (read_expression ed (length vs) depth)

abbrev pub truth_reader : Edition → List ℤ → ℕ → Reader Truth
truth_reader ed vs depth = read_truth ed (length vs) (read_expression ed (length vs) depth)

abbrev pub NumberAt : Edition → List ℤ → List ℕ → ℕ → ℕ → Result ℤ Side → ℕ → Type 0
NumberAt ed vs s p depth x m = At (value_of vs) (number_reader ed vs depth) s p x m

abbrev pub TruthAt : Edition → List ℤ → List ℕ → ℕ → ℕ → Result Bool Side → ℕ → Type 0
TruthAt ed vs s p depth x m = At (holds vs) (truth_reader ed vs depth) s p x m

abbrev pub FindsNumber : Edition → List ℤ → List ℕ → ℕ → ℕ → Option (Result ℤ Side × ℕ) → Type 0
FindsNumber ed vs s p depth o = Finds (value_of vs) (number_reader ed vs depth) s p o

abbrev pub FindsTruth : Edition → List ℤ → List ℕ → ℕ → ℕ → Option (Result Bool Side × ℕ) → Type 0
FindsTruth ed vs s p depth o = Finds (holds vs) (truth_reader ed vs depth) s p o

-- ---- the forms without operands, at the position after the code
abbrev pub FindsForm : Edition → List ℤ → List ℕ → Form → ℕ → Option (Result ℤ Side × ℕ) → Type 0
FindsForm ed vs s f p o = Finds (value_of vs) (read_as_number ed (length vs) (read_form ed (length vs) fail f)) s p o

-- a value that is no fault, and the position after it
abbrev pub known : {A : Type 0} → Option (A × ℕ) → Option (Result A Side × ℕ)
known None = None
known (Some (z, n)) = Some (Ok z, n)
