-- Document 01, "Numbers and truths", with document 02, item 2.
use Rattle.std.specs.Prelude.{Bool, true, false, not, ◌&&◌, ◌||◌, cond, List, [], ◌∷◌, ◌++◌, ℕ, zero, suc, max, length, get_or, ltb, eqb, ℤ, pos, negsuc, neg_ℤ, ◌+ℤ◌, ◌-ℤ◌, ◌*ℤ◌}
use Rattle.std.proofs.Math.Option.{Option, none, some}
use Rattle.std.specs.Int.Signed.{lt_z, le_z}
use Rattle.semantics.specs.Bytes.{Reader, ◌>>=◌, give, fail, byte, int4, guard, from, whole, out4, unsigned}
use Rattle.semantics.specs.Editions.{Edition}

-- ---- the forms
pub data Operation : Type 0 where
  sum difference product : Operation

pub data Comparison : Type 0 where
  at_most less equal unequal : Comparison

pub data Connective : Type 0 where
  both either : Connective

pub data Number : Type 0 where
  constant : ℤ → Number
  variable : ℕ → Number
  operate : Operation → Number → Number → Number
  negation : Number → Number

pub data Truth : Type 0 where
  compare : Comparison → Number → Number → Truth
  connect : Connective → Truth → Truth → Truth
  opposite : Truth → Truth
  always : Truth

-- "a constant, a variable or 2F has depth 1, any other form one more than its deepest operand"
unfoldable pub number_depth : Number → ℕ
number_depth (constant z) = 1
number_depth (variable v) = 1
number_depth (operate o a b) = suc (max (number_depth a) (number_depth b))
number_depth (negation a) = suc (number_depth a)

unfoldable pub truth_depth : Truth → ℕ
truth_depth (compare c a b) = suc (max (number_depth a) (number_depth b))
truth_depth (connect c a b) = suc (max (truth_depth a) (truth_depth b))
truth_depth (opposite a) = suc (truth_depth a)
truth_depth always = 1

-- ---- evaluation
-- "Evaluation now says on which side of its range a result fell"
pub data Side : Type 0 where
  above below : Side

pub data Value (A : Type 0) : Type 0 where
  ok : A → Value A
  fault : Side → Value A

-- the number itself, or the side on which it lies outside
unfoldable pub ranged : ℤ → ℤ → ℤ → Value ℤ
ranged low high z = cond (lt_z z low) (fault below) (cond (lt_z high z) (fault above) (ok z))

-- "Every result must lie in −2147483648..2147483647, or evaluation faults."
unfoldable pub result : ℤ → Value ℤ
result z = ranged (negsuc 2147483647) (pos 2147483647) z

unfoldable pub then_value : {A B : Type 0} → Value A → (A → Value B) → Value B
then_value (ok a) f = f a
then_value (fault s) f = fault s

-- "Both operands are always evaluated; a fault in either is a fault."; "the left operand's fault coming first"
unfoldable pub operands : {A B C : Type 0} → (A → B → C) → Value A → Value B → Value C
operands f (ok a) (ok b) = ok (f a b)
operands f (ok a) (fault s) = fault s
operands f (fault s) (ok b) = fault s
operands f (fault s) (fault t) = fault s

unfoldable pub applied : Operation → ℤ → ℤ → ℤ
applied sum a b = a +ℤ b
applied difference a b = a -ℤ b
applied product a b = a *ℤ b

unfoldable pub eq_z : ℤ → ℤ → Bool
eq_z (pos a) (pos b) = eqb a b
eq_z (pos a) (negsuc b) = false
eq_z (negsuc a) (pos b) = false
eq_z (negsuc a) (negsuc b) = eqb a b

unfoldable pub compared : Comparison → ℤ → ℤ → Bool
compared at_most a b = le_z a b
compared less a b = lt_z a b
compared equal a b = eq_z a b
compared unequal a b = not (eq_z a b)

unfoldable pub connected : Connective → Bool → Bool → Bool
connected both a b = a && b
connected either a b = a || b

-- the forms, on the values of their operands
abbrev pub operate_values : Operation → Value ℤ → Value ℤ → Value ℤ
operate_values o a b = then_value (operands (applied o) a b) result

abbrev pub negate_value : Value ℤ → Value ℤ
negate_value a = then_value a (λ z. result (neg_ℤ z))

abbrev pub compare_values : Comparison → Value ℤ → Value ℤ → Value Bool
compare_values c a b = operands (compared c) a b

abbrev pub connect_values : Connective → Value Bool → Value Bool → Value Bool
connect_values c a b = operands (connected c) a b

abbrev pub oppose_value : Value Bool → Value Bool
oppose_value a = then_value a (λ b. ok (not b))

unfoldable pub value_of : List ℤ → Number → Value ℤ
value_of vs (constant z) = result z
value_of vs (variable v) = result (get_or vs v (pos 0))
value_of vs (operate o a b) = operate_values o (value_of vs a) (value_of vs b)
value_of vs (negation a) = negate_value (value_of vs a)

unfoldable pub holds : List ℤ → Truth → Value Bool
holds vs (compare c a b) = compare_values c (value_of vs a) (value_of vs b)
holds vs (connect c a b) = connect_values c (holds vs a) (holds vs b)
holds vs (opposite a) = oppose_value (holds vs a)
holds vs always = ok true

-- ---- bytes
-- "Codes are hexadecimal, prefix order. The first byte decides which of the forms follows."
pub data Form : Type 0 where
  a_constant a_variable : Form
  an_operation : Operation → Form
  a_negation : Form
  a_comparison : Comparison → Form
  a_connective : Connective → Form
  an_opposite a_true unknown : Form

unfoldable pub form_of : ℕ → Form
form_of c =
    cond (eqb c 0x01) a_constant (cond (eqb c 0x02) a_variable
    (cond (eqb c 0x10) (an_operation sum) (cond (eqb c 0x11) (an_operation difference)
    (cond (eqb c 0x12) (an_operation product) (cond (eqb c 0x14) a_negation
    (cond (eqb c 0x20) (a_comparison at_most) (cond (eqb c 0x21) (a_comparison less)
    (cond (eqb c 0x22) (a_comparison equal) (cond (eqb c 0x23) (a_comparison unequal)
    (cond (eqb c 0x28) (a_connective both) (cond (eqb c 0x29) (a_connective either)
    (cond (eqb c 0x2a) an_opposite (cond (eqb c 0x2f) a_true unknown)))))))))))))

-- the code of a form, and the bytes of an expression in prefix order
unfoldable pub operation_code : Operation → ℕ
operation_code sum = 0x10
operation_code difference = 0x11
operation_code product = 0x12

unfoldable pub comparison_code : Comparison → ℕ
comparison_code at_most = 0x20
comparison_code less = 0x21
comparison_code equal = 0x22
comparison_code unequal = 0x23

unfoldable pub connective_code : Connective → ℕ
connective_code both = 0x28
connective_code either = 0x29

-- "Depth is at most 16"
abbrev pub depth_limit : ℕ
depth_limit = 16

module _ (ed : Edition) where
  unfoldable pub number_bytes : Number → List ℕ
  number_bytes (constant z) = 0x01 ∷ out4 (unsigned z)
  number_bytes (variable v) = 0x02 ∷ v ∷ []
  number_bytes (operate o a b) = operation_code o ∷ (number_bytes a ++ number_bytes b)
  number_bytes (negation a) = 0x14 ∷ number_bytes a

  unfoldable pub truth_bytes : Truth → List ℕ
  truth_bytes (compare c a b) = comparison_code c ∷ (number_bytes a ++ number_bytes b)
  truth_bytes (connect c a b) = connective_code c ∷ (truth_bytes a ++ truth_bytes b)
  truth_bytes (opposite a) = 0x2a ∷ truth_bytes a
  truth_bytes always = 0x2f ∷ []

-- a constant of 32 bits
unfoldable pub fits32 : ℤ → Bool
fits32 z = le_z (negsuc 2147483647) z && le_z z (pos 2147483647)

-- so many variables are known, and each constant has 32 bits
unfoldable pub number_known : ℕ → Number → Bool
number_known variables (constant z) = fits32 z
number_known variables (variable v) = ltb v variables
number_known variables (operate o a b) = number_known variables a && number_known variables b
number_known variables (negation a) = number_known variables a

unfoldable pub truth_known : ℕ → Truth → Bool
truth_known variables (compare c a b) = number_known variables a && number_known variables b
truth_known variables (connect c a b) = truth_known variables a && truth_known variables b
truth_known variables (opposite a) = truth_known variables a
truth_known variables always = true

-- an expression of either sort
pub data Expression : Type 0 where
  a_number : Number → Expression
  a_truth : Truth → Expression

unfoldable pub number_of_expression : Expression → Option Number
number_of_expression (a_number e) = some e
number_of_expression (a_truth t) = none

unfoldable pub to_truth : Expression → Option Truth
to_truth (a_number e) = none
to_truth (a_truth t) = some t

module _ (ed : Edition) (variables : ℕ) where
  unfoldable pub read_variable_number : Reader Expression
  read_variable_number = do
    v ← byte
    guard (ltb v variables) (give (a_number (variable v)))

  -- an operand of the sort that is wanted
  unfoldable pub read_as_number : Reader Expression → Reader Number
  read_as_number operand = do
    e ← operand
    from (number_of_expression e)

  unfoldable pub read_truth : Reader Expression → Reader Truth
  read_truth operand = do
    e ← operand
    from (to_truth e)

  unfoldable pub read_form : Reader Expression → Form → Reader Expression
  read_form operand a_constant = do
    z ← int4
    give (a_number (constant z))
  read_form operand a_variable = read_variable_number
  read_form operand (an_operation o) = do
    a ← read_as_number operand
    b ← read_as_number operand
    give (a_number (operate o a b))
  read_form operand a_negation = do
    a ← read_as_number operand
    give (a_number (negation a))
  read_form operand (a_comparison c) = do
    a ← read_as_number operand
    b ← read_as_number operand
    give (a_truth (compare c a b))
  read_form operand (a_connective c) = do
    a ← read_truth operand
    b ← read_truth operand
    give (a_truth (connect c a b))
  read_form operand an_opposite = do
    a ← read_truth operand
    give (a_truth (opposite a))
  read_form operand a_true = give (a_truth always)
  read_form operand unknown = fail

  -- an expression of at most this depth
  unfoldable pub read_expression : ℕ → Reader Expression
  read_expression zero = fail
  read_expression (suc depth) = do
    c ← byte
    read_form (read_expression depth) (form_of c)

  -- 12: "A truth or number is cut, overlong, too deep, of the wrong sort, has an unknown code or names a missing variable."
  unfoldable pub number_in : List ℕ → Option Number
  number_in s = whole (read_as_number (read_expression depth_limit)) s

  unfoldable pub truth_in : List ℕ → Option Truth
  truth_in s = whole (read_truth (read_expression depth_limit)) s

-- the value of the bytes of a number or truth; what 12 turns away is never evaluated, and faults above here
unfoldable pub value_of_number : Edition → List ℤ → List ℕ → Value ℤ
value_of_number ed vs s = elim (number_in ed (length vs) s) [ none ↦ fault above | some e ↦ value_of vs e ]

unfoldable pub value_of_truth : Edition → List ℤ → List ℕ → Value Bool
value_of_truth ed vs s = elim (truth_in ed (length vs) s) [ none ↦ fault above | some t ↦ holds vs t ]
