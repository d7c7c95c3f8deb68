-- What bytes come to by the rules is what the executable evaluation gives for them, whatever the bytes.
use mathlib.Core.Path.{◌≡◌, refl, subst}
use mathlib.Core.Bool.{Bool}
use mathlib.Core.List.{List}
use mathlib.Core.Option.{Option, none, some}
use Prim.Native.Nat.{ℕ, zero, suc}
use borrow.Author.Tests.{ltb-true}
use lib.Dec.{ltb}
use lib.ListN.{length}
use lib.IntN.{ℤ}
use Rattle.semantics.specs.Bytes.{Reader, read, fail, byte, int4}
use Rattle.semantics.specs.Editions.{Edition}
use Rattle.semantics.specs.Expressions.{Number, Truth, Value, fault, above, value_of, holds, Form, a_constant, a_variable, an_operation, a_negation, a_comparison, a_connective, an_opposite, a_true, unknown, form_of, Expression, a_number, a_truth, number_of_expression, to_truth, read_variable_number, read_as_number, read_truth, read_form, read_expression, depth_limit, number_in, truth_in, value_of_number, value_of_truth}
use Rattle.semantics.specs.Proper.{known_variable}
use Rattle.semantics.specs.Evaluating.{Evaluates, constant-is, Holds, true-is, NumberComesTo, number-comes, no_number, TruthComesTo, truth-comes, no_truth}
use Rattle.semantics.proofs.Readers.{broken-not-read, split, given, guarded, from_some, whole-read}
use Rattle.semantics.proofs.ExpressionBytes.{to_number, to-truth}
use Rattle.semantics.proofs.Evaluated.{results, operated, negated, comparison, connection, contrary, evaluated, evaluates-one, holds-one}

module _ (ed : Edition) (vs : List ℤ) where
  -- ---- an expression that is read is evaluated: it names no variable without a value
  abbrev Comes : Expression → Type 0
  Comes (a_number e) = Evaluates vs e (value_of vs e)
  Comes (a_truth t) = Holds vs t (holds vs t)

  record Reading (r : Reader Expression) : Type 0 where
    comes : (s : List ℕ) {x : Expression} {t : List ℕ} → r s ≡ read x t → Comes x

  number-operand : (r : Reader Expression) → Reading r → (s : List ℕ) {e : Number} {t : List ℕ} → read_as_number ed (length vs) r s ≡ read e t → Evaluates vs e (value_of vs e)
  unfolding read_as_number
  number-operand r h s {e} k =
      let q = split r _ k in
      subst Comes (to_number q.value e (from_some (number_of_expression q.value) q.then).0) (h.comes s q.first)

  truth-operand : (r : Reader Expression) → Reading r → (s : List ℕ) {e : Truth} {t : List ℕ} → read_truth ed (length vs) r s ≡ read e t → Holds vs e (holds vs e)
  unfolding read_truth
  truth-operand r h s {e} k =
      let q = split r _ k in
      subst Comes (to-truth q.value e (from_some (to_truth q.value) q.then).0) (h.comes s q.first)

  form-comes : (r : Reader Expression) → Reading r → (f : Form) (s : List ℕ) {x : Expression} {t : List ℕ} → read_form ed (length vs) r f s ≡ read x t → Comes x
  unfolding read_form read_variable_number fail value_of holds
  form-comes r h a_constant s k =
      let q = split int4 _ k in
      subst Comes (given _ _ q.then) (constant-is (results q.value))
  form-comes r h a_variable s k =
      let q = split byte _ k in
      let g = guarded (ltb q.value (length vs)) _ q.then in
      subst Comes (given _ _ g.1) (evaluated vs (known_variable (ltb-true q.value (length vs) g.0)))
  form-comes r h (an_operation o) s k =
      let q = split (read_as_number ed (length vs) r) _ k in
      let l = split (read_as_number ed (length vs) r) _ q.then in
      subst Comes (given _ _ l.then) (operated vs o _ _ (number-operand r h s q.first) (number-operand r h q.rest l.first))
  form-comes r h a_negation s k =
      let q = split (read_as_number ed (length vs) r) _ k in
      subst Comes (given _ _ q.then) (negated vs _ (number-operand r h s q.first))
  form-comes r h (a_comparison c) s k =
      let q = split (read_as_number ed (length vs) r) _ k in
      let l = split (read_as_number ed (length vs) r) _ q.then in
      subst Comes (given _ _ l.then) (comparison vs c _ _ (number-operand r h s q.first) (number-operand r h q.rest l.first))
  form-comes r h (a_connective c) s k =
      let q = split (read_truth ed (length vs) r) _ k in
      let l = split (read_truth ed (length vs) r) _ q.then in
      subst Comes (given _ _ l.then) (connection vs c _ _ (truth-operand r h s q.first) (truth-operand r h q.rest l.first))
  form-comes r h an_opposite s k =
      let q = split (read_truth ed (length vs) r) _ k in
      subst Comes (given _ _ q.then) (contrary vs _ (truth-operand r h s q.first))
  form-comes r h a_true s k = subst Comes (given _ _ k) true-is
  form-comes r h unknown s k = broken-not-read k

  expression-comes : (d : ℕ) → Reading (read_expression ed (length vs) d)
  unfolding read_expression fail
  expression-comes zero = record { comes = λ s k. broken-not-read k }
  expression-comes (suc d) = record { comes = λ s k. let q = split byte _ k in form-comes (read_expression ed (length vs) d) (expression-comes d) (form_of q.value) q.rest q.then }

  -- ---- of a number and of a truth, there and back
  pub number-comes-to : (s : List ℕ) {r : Value ℤ} → value_of_number ed vs s ≡ r → NumberComesTo ed vs s r
  unfolding value_of_number number_in
  number-comes-to s {r} h = go (number_in ed (length vs) s) refl h
    where
      go : (o : Option Number) → number_in ed (length vs) s ≡ o → elim o [ none ↦ fault above | some e ↦ value_of vs e ] ≡ r → NumberComesTo ed vs s r
      go none i h = subst (NumberComesTo ed vs s) h (no_number i)
      go (some e) i h = number-comes i (subst (Evaluates vs e) h (number-operand (read_expression ed (length vs) depth_limit) (expression-comes depth_limit) s (whole-read _ s i)))

  pub number-value : {s : List ℕ} {r : Value ℤ} → NumberComesTo ed vs s r → value_of_number ed vs s ≡ r
  unfolding value_of_number
  number-value (number-comes i d) = rw (i, value_of_number) (evaluates-one vs d)
  number-value (no_number i) = rw (i, value_of_number) refl

  pub truth-comes-to : (s : List ℕ) {r : Value Bool} → value_of_truth ed vs s ≡ r → TruthComesTo ed vs s r
  unfolding value_of_truth truth_in
  truth-comes-to s {r} h = go (truth_in ed (length vs) s) refl h
    where
      go : (o : Option Truth) → truth_in ed (length vs) s ≡ o → elim o [ none ↦ fault above | some t ↦ holds vs t ] ≡ r → TruthComesTo ed vs s r
      go none i h = subst (TruthComesTo ed vs s) h (no_truth i)
      go (some t) i h = truth-comes i (subst (Holds vs t) h (truth-operand (read_expression ed (length vs) depth_limit) (expression-comes depth_limit) s (whole-read _ s i)))

  pub truth-value : {s : List ℕ} {r : Value Bool} → TruthComesTo ed vs s r → value_of_truth ed vs s ≡ r
  unfolding value_of_truth
  truth-value (truth-comes i d) = rw (i, value_of_truth) (holds-one vs d)
  truth-value (no_truth i) = rw (i, value_of_truth) refl
