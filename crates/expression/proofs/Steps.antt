-- One step of evaluation: what is found at a position, by what is found at its operands.
use mathlib.Core.Path.{◌≡◌, refl, sym, ap, ◌∙◌}
use mathlib.Core.List.{List}
use mathlib.Core.Option.{Option, none, some}
use mathlib.Core.Bool.{Bool, true, false}
use Prim.Native.Nat.{ℕ, zero, suc, ◌+◌, ◌-◌, ◌≤◌, ◌<◌}
use native.Mathlib.Numerals.{add-one, sub-one}
use native.Mathlib.Omega.{arith}
use lib.Dec.{ltb}
use lib.IntN.{ℤ, pos}
use lib.ListN.{length, drop, get_or, drop_of_length-le}
use lib.Seq.{drop-cons}
use borrow.Author.Tests.{lt-ltb, le-ltb}
use mir.Syntax.{w32}
use mir.Val.{SFits}
use Rattle.std.specs.Prelude as answers
use Rattle.std.specs.Prelude.{Some, None, Result, Ok, Err}
use Rattle.semantics.specs.Bytes.{signed, Read, broken, read, Reader, ◌>>=◌, and_then, give, fail, guard, from, byte, int4}
use Rattle.semantics.specs.Editions.{Edition}
use Rattle.semantics.specs.Expressions.{Value, result, Operation, Comparison, Connective, constant, variable, operate, negation, compare, connect, opposite, always, value_of, holds, operate_values, negate_value, compare_values, connect_values, oppose_value}
use Rattle.semantics.specs.Expressions.{Form, a_constant, a_variable, an_operation, a_negation, a_comparison, a_connective, an_opposite, a_true, unknown, form_of, Expression, a_number, a_truth, number_of_expression, to_truth, read_variable_number, read_as_number, read_truth, read_form, read_expression}
use Rattle.codec.proofs.Reading.{nat4_at, int4-at, int4-short}
use Rattle.expression.specs.Evaluation.{said, known, At, Finds, finds_at, finds_none, number_reader, truth_reader, NumberAt, TruthAt, FindsNumber, FindsTruth, FindsForm}
use Rattle.expression.specs.declared.Side.{Side}
use Rattle.expression.proofs.Widths.{result_fits}
use Rattle.expression.proofs.Wholes.{found, moved}

-- ---- bytes at a position
byte_at : (s : List ℕ) (p : ℕ) → p < length s → byte (drop p s) ≡ read (get_or s p 0) (drop (p + 1) s)
unfolding byte
byte_at s p h = rw (add-one, drop-cons s p 0) refl

byte_past : (s : List ℕ) (p : ℕ) → length s ≤ p → byte (drop p s) ≡ broken
unfolding byte
byte_past s p h = rw (drop_of_length-le s h) refl

-- ---- the forms without operands, at the position after their code
module _ (ed : Edition) (vs : List ℤ) (s : List ℕ) (p : ℕ) where
  pub constant-there : {z : ℤ} → p + 4 ≤ length s → z ≡ signed (nat4_at s p) → SFits w32 z → FindsForm ed vs s a_constant p (Some (Ok z, p + 4))
  unfolding read_as_number read_form ◌>>=◌ and_then give from number_of_expression value_of
  constant-there {z} h e f = finds_at (record {
    value = constant (signed (nat4_at s p));
    got = rw (int4-at s p h) refl;
    is = sym (ap said (ap result (sym e) ∙ result_fits z f));
    inside = h;
  })

  pub constant-cut : p ≤ length s → length s < p + 4 → FindsForm ed vs s a_constant p None
  unfolding read_as_number read_form ◌>>=◌ and_then give from number_of_expression
  constant-cut i h = finds_none (rw (int4-short s p h i) refl)

  pub variable-cut : length s ≤ p → FindsForm ed vs s a_variable p None
  unfolding read_as_number read_form read_variable_number ◌>>=◌ and_then
  variable-cut h = finds_none (rw (byte_past s p h) refl)

  module _ (here : p < length s) where
    pub variable-there : {z : ℤ} → get_or s p 0 < length vs → z ≡ get_or vs (get_or s p 0) (pos 0) → SFits w32 z → FindsForm ed vs s a_variable p (Some (Ok z, p + 1))
    unfolding read_as_number read_form read_variable_number ◌>>=◌ and_then give from guard number_of_expression value_of
    variable-there {z} h e f = finds_at (record {
      value = variable (get_or s p 0);
      got = rw (byte_at s p here, lt-ltb _ _ h) refl;
      is = sym (ap said (ap result (sym e) ∙ result_fits z f));
      inside = omega arith;
    })

    pub variable-missing : length vs ≤ get_or s p 0 → FindsForm ed vs s a_variable p None
    unfolding read_as_number read_form read_variable_number ◌>>=◌ and_then guard fail
    variable-missing h = finds_none (rw (byte_at s p here, le-ltb _ _ h) refl)

-- a leaf that is there
pub known-found : {E : Type 0} {f : E → Value ℤ} {r : Reader E} {s : List ℕ} {p : ℕ} {o : answers.Option (ℤ × ℕ)} {z : ℤ} {n : ℕ} → o ≡ Some (z, n) → Finds f r s p (known o) → At f r s p (Ok z) n
known-found e k = found k (ap known e)

-- ---- a form of one operand, and of two: the operands' reader is r, and what is picked of an expression is what it was made of
module _ {E F A B : Type 0} (f : E → Value A) (g : F → Value B) (r : Reader E) (pick : Expression → Option F) (s : List ℕ) (p : ℕ) (R : Reader F) (q : ℕ) where
  module _ (mk : E → Expression) (made : E → F) (picks : (a : E) → pick (mk a) ≡ some (made a)) (e : R (drop p s) ≡ ((r >>= (λ a. give (mk a))) >>= (λ e. from (pick e))) (drop q s)) where
    one-at : {x : Result A Side} {m : ℕ} (k : At f r s q x m) {z : Result B Side} → z ≡ said (g (made k.value)) → At g R s p z m
    unfolding ◌>>=◌ and_then give from
    one-at k h = record { value = made k.value; got = e ∙ rw (k.got, picks k.value) refl; is = h; inside = k.inside }

    one-none : r (drop q s) ≡ broken → R (drop p s) ≡ broken
    unfolding ◌>>=◌ and_then
    one-none h = e ∙ rw h refl

  module _ (mk : E → E → Expression) (made : E → E → F) (picks : (a b : E) → pick (mk a b) ≡ some (made a b)) (e : R (drop p s) ≡ ((r >>= (λ a. r >>= (λ b. give (mk a b)))) >>= (λ e. from (pick e))) (drop q s)) where
    two-at : {x y : Result A Side} {m n : ℕ} (k : At f r s q x m) (l : At f r s m y n) {z : Result B Side} → z ≡ said (g (made k.value l.value)) → At g R s p z n
    unfolding ◌>>=◌ and_then give from
    two-at k l h = record { value = made k.value l.value; got = e ∙ rw (k.got, l.got, picks k.value l.value) refl; is = h; inside = l.inside }

    two-left : r (drop q s) ≡ broken → R (drop p s) ≡ broken
    unfolding ◌>>=◌ and_then
    two-left h = e ∙ rw h refl

    two-right : {x : Result A Side} {m : ℕ} → At f r s q x m → r (drop m s) ≡ broken → R (drop p s) ≡ broken
    unfolding ◌>>=◌ and_then
    two-right k h = e ∙ rw (k.got, h) refl

-- ---- forms that are no number, and no truth
pub data NoNumber : Form → Type 0 where
  number_comparison : {o : Comparison} → NoNumber (a_comparison o)
  number_connective : {o : Connective} → NoNumber (a_connective o)
  number_opposite : NoNumber an_opposite
  number_true : NoNumber a_true
  number_unknown : NoNumber unknown

pub data NoTruth : Form → Type 0 where
  truth_constant : NoTruth a_constant
  truth_variable : NoTruth a_variable
  truth_operation : {o : Operation} → NoTruth (an_operation o)
  truth_negation : NoTruth a_negation
  truth_unknown : NoTruth unknown

-- what is read and made, is not picked
module _ {E F : Type 0} (pick : Expression → Option F) (mk : E → Expression) (miss : (a : E) → pick (mk a) ≡ none) where
  missed : (o : Read E) → and_then (and_then o (λ a. give (mk a))) (λ e. from (pick e)) ≡ broken
  unfolding and_then give from fail
  missed broken = refl
  missed (read a t) = rw (miss a) refl

module _ {E F : Type 0} (pick : Expression → Option F) (mk : E → E → Expression) (miss : (a b : E) → pick (mk a b) ≡ none) (r : Reader E) where
  missed-two : (o : Read E) → and_then (and_then o (λ a. r >>= (λ b. give (mk a b)))) (λ e. from (pick e)) ≡ broken
  unfolding and_then ◌>>=◌
  missed-two broken = refl
  missed-two (read a t) = missed pick (mk a) (miss a) (r t)

module _ (ed : Edition) (v : ℕ) (R : Reader Expression) (l : List ℕ) where
  no_number : {f : Form} → NoNumber f → read_as_number ed v (read_form ed v R f) l ≡ broken
  unfolding read_as_number read_form ◌>>=◌ number_of_expression and_then give from fail
  no_number (number_comparison {o}) = missed-two number_of_expression (λ a b. a_truth (compare o a b)) (λ a b. refl) (read_as_number ed v R) (read_as_number ed v R l)
  no_number (number_connective {o}) = missed-two number_of_expression (λ a b. a_truth (connect o a b)) (λ a b. refl) (read_truth ed v R) (read_truth ed v R l)
  no_number number_opposite = missed number_of_expression (λ a. a_truth (opposite a)) (λ a. refl) (read_truth ed v R l)
  no_number number_true = refl
  no_number number_unknown = refl

  no_truth : {f : Form} → NoTruth f → read_truth ed v (read_form ed v R f) l ≡ broken
  unfolding read_truth read_form read_variable_number ◌>>=◌ to_truth and_then guard give from fail
  no_truth truth_constant = missed to_truth (λ z. a_number (constant z)) (λ z. refl) (int4 l)
  no_truth truth_variable = guarded (byte l)
    where
      guarded : (o : Read ℕ) → and_then (and_then o (λ n. guard (ltb n v) (give (a_number (variable n))))) (λ e. from (to_truth e)) ≡ broken
      guarded broken = refl
      guarded (read n t) = which (ltb n v)
        where
          which : (b : Bool) → and_then (guard b (give (a_number (variable n))) t) (λ e. from (to_truth e)) ≡ broken
          which true = refl
          which false = refl
  no_truth (truth_operation {o}) = missed-two to_truth (λ a b. a_number (operate o a b)) (λ a b. refl) (read_as_number ed v R) (read_as_number ed v R l)
  no_truth truth_negation = missed to_truth (λ a. a_number (negation a)) (λ a. refl) (read_as_number ed v R l)
  no_truth truth_unknown = refl

-- ---- a step of depth d
module _ (ed : Edition) (vs : List ℤ) (s : List ℕ) (p d : ℕ) where
  pub number-deep : d ≡ 0 → FindsNumber ed vs s p d None
  unfolding read_as_number read_expression ◌>>=◌ and_then fail
  number-deep e = finds_none (rw e refl)

  pub truth-deep : d ≡ 0 → FindsTruth ed vs s p d None
  unfolding read_truth read_expression ◌>>=◌ and_then fail
  truth-deep e = finds_none (rw e refl)

  module _ (deep : d ≡ 0 → ⊥) where
    abbrev R : Reader Expression
    R = read_expression ed (length vs) (d - 1)

    unroll : read_expression ed (length vs) d ≡ (byte >>= λ c. read_form ed (length vs) R (form_of c))
    unfolding read_expression
    unroll = go d deep
      where
        go : (d : ℕ) → (d ≡ 0 → ⊥) → read_expression ed (length vs) d ≡ (byte >>= λ c. read_form ed (length vs) (read_expression ed (length vs) (d - 1)) (form_of c))
        go zero h = absurd (h refl)
        go (suc n) h = rw (sub-one (suc n)) refl

    past : length s ≤ p → read_expression ed (length vs) d (drop p s) ≡ broken
    unfolding ◌>>=◌ and_then
    past h = ap (λ r. r (drop p s)) unroll ∙ ap (λ o. and_then o (λ c. read_form ed (length vs) R (form_of c))) (byte_past s p h)

    pub number-past : length s ≤ p → FindsNumber ed vs s p d None
    unfolding read_as_number ◌>>=◌ and_then
    number-past h = finds_none (rw (past h) refl)

    pub truth-past : length s ≤ p → FindsTruth ed vs s p d None
    unfolding read_truth ◌>>=◌ and_then
    truth-past h = finds_none (rw (past h) refl)

    module _ (here : p < length s) where
      by_form : {f : Form} → form_of (get_or s p 0) ≡ f → read_expression ed (length vs) d (drop p s) ≡ read_form ed (length vs) R f (drop (p + 1) s)
      unfolding ◌>>=◌ and_then
      by_form {f} e =
          ap (λ r. r (drop p s)) unroll
          ∙ ap (λ o. and_then o (λ c. read_form ed (length vs) R (form_of c))) (byte_at s p here)
          ∙ ap (λ f. read_form ed (length vs) R f (drop (p + 1) s)) e

      as-number : {f : Form} → form_of (get_or s p 0) ≡ f → number_reader ed vs d (drop p s) ≡ read_as_number ed (length vs) (read_form ed (length vs) R f) (drop (p + 1) s)
      unfolding read_as_number ◌>>=◌
      as-number e = ap (λ o. and_then o (λ e. from (number_of_expression e))) (by_form e)

      as-truth : {f : Form} → form_of (get_or s p 0) ≡ f → truth_reader ed vs d (drop p s) ≡ read_truth ed (length vs) (read_form ed (length vs) R f) (drop (p + 1) s)
      unfolding read_truth ◌>>=◌
      as-truth e = ap (λ o. and_then o (λ e. from (to_truth e))) (by_form e)

      pub step-constant : {o : _} → form_of (get_or s p 0) ≡ a_constant → FindsForm ed vs s a_constant (p + 1) o → FindsNumber ed vs s p d o
      unfolding read_as_number read_form
      step-constant e k = moved (as-number e) k

      pub step-variable : {o : _} → form_of (get_or s p 0) ≡ a_variable → FindsForm ed vs s a_variable (p + 1) o → FindsNumber ed vs s p d o
      unfolding read_as_number read_form
      step-variable e k = moved (as-number e) k

      pub step-true : form_of (get_or s p 0) ≡ a_true → FindsTruth ed vs s p d (Some (Ok true, p + 1))
      unfolding read_truth read_form ◌>>=◌ and_then give from to_truth holds
      step-true e = finds_at (record { value = always; got = as-truth e; is = refl; inside = omega arith })

      -- ---- with operands, one level deeper
      abbrev NumberNone : Type 0
      NumberNone = FindsNumber ed vs s p d None

      abbrev TruthNone : Type 0
      TruthNone = FindsTruth ed vs s p d None

      module _ (o : Operation) (form : form_of (get_or s p 0) ≡ an_operation o) where
        pub step-operation : {x y : Result ℤ Side} {m n : ℕ} (k : NumberAt ed vs s (p + 1) (d - 1) x m) (l : NumberAt ed vs s m (d - 1) y n) {z : Result ℤ Side} →
            z ≡ said (operate_values o (value_of vs k.value) (value_of vs l.value)) → NumberAt ed vs s p d z n
        unfolding read_form ◌>>=◌ read_as_number read_truth number_of_expression value_of
        step-operation k l h = two-at (value_of vs) (value_of vs) (number_reader ed vs (d - 1)) number_of_expression s p (number_reader ed vs d) (p + 1) (λ a b. a_number (operate o a b)) (operate o) (λ a b. refl) (as-number form) k l h

        pub operation-left : number_reader ed vs (d - 1) (drop (p + 1) s) ≡ broken → NumberNone
        unfolding read_form ◌>>=◌ read_as_number read_truth number_of_expression value_of
        operation-left h = finds_none (two-left (value_of vs) (value_of vs) (number_reader ed vs (d - 1)) number_of_expression s p (number_reader ed vs d) (p + 1) (λ a b. a_number (operate o a b)) (operate o) (λ a b. refl) (as-number form) h)

        pub operation-right : {x : Result ℤ Side} {m : ℕ} → NumberAt ed vs s (p + 1) (d - 1) x m → number_reader ed vs (d - 1) (drop m s) ≡ broken → NumberNone
        unfolding read_form ◌>>=◌ read_as_number read_truth number_of_expression value_of
        operation-right k h = finds_none (two-right (value_of vs) (value_of vs) (number_reader ed vs (d - 1)) number_of_expression s p (number_reader ed vs d) (p + 1) (λ a b. a_number (operate o a b)) (operate o) (λ a b. refl) (as-number form) k h)

      module _ (o : Comparison) (form : form_of (get_or s p 0) ≡ a_comparison o) where
        pub step-comparison : {x y : Result ℤ Side} {m n : ℕ} (k : NumberAt ed vs s (p + 1) (d - 1) x m) (l : NumberAt ed vs s m (d - 1) y n) {z : Result Bool Side} →
            z ≡ said (compare_values o (value_of vs k.value) (value_of vs l.value)) → TruthAt ed vs s p d z n
        unfolding read_form ◌>>=◌ read_as_number read_truth to_truth holds
        step-comparison k l h = two-at (value_of vs) (holds vs) (number_reader ed vs (d - 1)) to_truth s p (truth_reader ed vs d) (p + 1) (λ a b. a_truth (compare o a b)) (compare o) (λ a b. refl) (as-truth form) k l h

        pub comparison-left : number_reader ed vs (d - 1) (drop (p + 1) s) ≡ broken → TruthNone
        unfolding read_form ◌>>=◌ read_as_number read_truth to_truth holds
        comparison-left h = finds_none (two-left (value_of vs) (holds vs) (number_reader ed vs (d - 1)) to_truth s p (truth_reader ed vs d) (p + 1) (λ a b. a_truth (compare o a b)) (compare o) (λ a b. refl) (as-truth form) h)

        pub comparison-right : {x : Result ℤ Side} {m : ℕ} → NumberAt ed vs s (p + 1) (d - 1) x m → number_reader ed vs (d - 1) (drop m s) ≡ broken → TruthNone
        unfolding read_form ◌>>=◌ read_as_number read_truth to_truth holds
        comparison-right k h = finds_none (two-right (value_of vs) (holds vs) (number_reader ed vs (d - 1)) to_truth s p (truth_reader ed vs d) (p + 1) (λ a b. a_truth (compare o a b)) (compare o) (λ a b. refl) (as-truth form) k h)

      module _ (o : Connective) (form : form_of (get_or s p 0) ≡ a_connective o) where
        pub step-connective : {x y : Result Bool Side} {m n : ℕ} (k : TruthAt ed vs s (p + 1) (d - 1) x m) (l : TruthAt ed vs s m (d - 1) y n) {z : Result Bool Side} →
            z ≡ said (connect_values o (holds vs k.value) (holds vs l.value)) → TruthAt ed vs s p d z n
        unfolding read_form ◌>>=◌ read_as_number read_truth to_truth holds
        step-connective k l h = two-at (holds vs) (holds vs) (truth_reader ed vs (d - 1)) to_truth s p (truth_reader ed vs d) (p + 1) (λ a b. a_truth (connect o a b)) (connect o) (λ a b. refl) (as-truth form) k l h

        pub connective-left : truth_reader ed vs (d - 1) (drop (p + 1) s) ≡ broken → TruthNone
        unfolding read_form ◌>>=◌ read_as_number read_truth to_truth holds
        connective-left h = finds_none (two-left (holds vs) (holds vs) (truth_reader ed vs (d - 1)) to_truth s p (truth_reader ed vs d) (p + 1) (λ a b. a_truth (connect o a b)) (connect o) (λ a b. refl) (as-truth form) h)

        pub connective-right : {x : Result Bool Side} {m : ℕ} → TruthAt ed vs s (p + 1) (d - 1) x m → truth_reader ed vs (d - 1) (drop m s) ≡ broken → TruthNone
        unfolding read_form ◌>>=◌ read_as_number read_truth to_truth holds
        connective-right k h = finds_none (two-right (holds vs) (holds vs) (truth_reader ed vs (d - 1)) to_truth s p (truth_reader ed vs d) (p + 1) (λ a b. a_truth (connect o a b)) (connect o) (λ a b. refl) (as-truth form) k h)

      module _ (form : form_of (get_or s p 0) ≡ a_negation) where
        pub step-negation : {x : Result ℤ Side} {m : ℕ} (k : NumberAt ed vs s (p + 1) (d - 1) x m) {z : Result ℤ Side} → z ≡ said (negate_value (value_of vs k.value)) → NumberAt ed vs s p d z m
        unfolding read_form ◌>>=◌ read_as_number read_truth number_of_expression value_of
        step-negation k h = one-at (value_of vs) (value_of vs) (number_reader ed vs (d - 1)) number_of_expression s p (number_reader ed vs d) (p + 1) (λ a. a_number (negation a)) negation (λ a. refl) (as-number form) k h

        pub negation-none : number_reader ed vs (d - 1) (drop (p + 1) s) ≡ broken → NumberNone
        unfolding read_form ◌>>=◌ read_as_number read_truth number_of_expression value_of
        negation-none h = finds_none (one-none (value_of vs) (value_of vs) (number_reader ed vs (d - 1)) number_of_expression s p (number_reader ed vs d) (p + 1) (λ a. a_number (negation a)) negation (λ a. refl) (as-number form) h)

      module _ (form : form_of (get_or s p 0) ≡ an_opposite) where
        pub step-opposite : {x : Result Bool Side} {m : ℕ} (k : TruthAt ed vs s (p + 1) (d - 1) x m) {z : Result Bool Side} → z ≡ said (oppose_value (holds vs k.value)) → TruthAt ed vs s p d z m
        unfolding read_form ◌>>=◌ read_as_number read_truth to_truth holds
        step-opposite k h = one-at (holds vs) (holds vs) (truth_reader ed vs (d - 1)) to_truth s p (truth_reader ed vs d) (p + 1) (λ a. a_truth (opposite a)) opposite (λ a. refl) (as-truth form) k h

        pub opposite-none : truth_reader ed vs (d - 1) (drop (p + 1) s) ≡ broken → TruthNone
        unfolding read_form ◌>>=◌ read_as_number read_truth to_truth holds
        opposite-none h = finds_none (one-none (holds vs) (holds vs) (truth_reader ed vs (d - 1)) to_truth s p (truth_reader ed vs d) (p + 1) (λ a. a_truth (opposite a)) opposite (λ a. refl) (as-truth form) h)

      -- ---- a form of the other sort, or none
      pub other-number : (f : Form) → NoNumber f → form_of (get_or s p 0) ≡ f → NumberNone
      unfolding read_as_number
      other-number f h e = finds_none (as-number e ∙ no_number ed (length vs) R (drop (p + 1) s) h)

      pub other-truth : (f : Form) → NoTruth f → form_of (get_or s p 0) ≡ f → TruthNone
      unfolding read_truth
      other-truth f h e = finds_none (as-truth e ∙ no_truth ed (length vs) R (drop (p + 1) s) h)
