-- Document 01, "Numbers and truths", with document 02, item 2: what a number or a truth comes to, form by form. The executable `value_of` and `holds` are proved to be just this.
use Rattle.std.specs.Prelude.{◌≡◌, Bool, true, false, not, ◌&&◌, ◌||◌, List, ℕ, length, ℤ, pos, neg_ℤ, ◌+ℤ◌, ◌-ℤ◌, ◌*ℤ◌}
use Rattle.std.proofs.Math.Option.{none, some}
use Rattle.std.proofs.Math.ListN.{get_elem?}
use Rattle.std.specs.Int.Signed.{le_z, lt_z}
use Rattle.semantics.specs.Editions.{Edition}
use Rattle.semantics.specs.Expressions.{Operation, sum, difference, product, Comparison, at_most, less, equal, unequal, Connective, both, either, Number, constant, variable, operate}
use Rattle.semantics.specs.Expressions.{negation, Truth, compare, connect, opposite, always, Side, above, below, Value, ok, fault, number_in, truth_in}

-- "Every result must lie in −2147483648..2147483647, or evaluation faults."; "Evaluation now says on which side of its range a result fell"
pub data Results (z : ℤ) : Value ℤ → Type 0 where
  inside : le_z (neg_ℤ (pos 2147483648)) z ≡ true → le_z z (pos 2147483647) ≡ true → Results z (ok z)
  too_high : lt_z (pos 2147483647) z ≡ true → Results z (fault above)
  too_low : lt_z z (neg_ℤ (pos 2147483648)) ≡ true → Results z (fault below)

module _ (vs : List ℤ) where
  -- "01 constant (4 bytes), 02 variable (1 byte), 10 sum, 11 difference, 12 product, 14 negation"
  pub data Evaluates : Number → Value ℤ → Type 0 where
    constant-is : {z : ℤ} {r : Value ℤ} → Results z r → Evaluates (constant z) r
    variable-is : {v : ℕ} {z : ℤ} {r : Value ℤ} → get_elem? vs v ≡ some z → Results z r → Evaluates (variable v) r
    sum_is : {a b : Number} {x y : ℤ} {r : Value ℤ} → Evaluates a (ok x) → Evaluates b (ok y) → Results (x +ℤ y) r → Evaluates (operate sum a b) r
    difference-is : {a b : Number} {x y : ℤ} {r : Value ℤ} → Evaluates a (ok x) → Evaluates b (ok y) → Results (x -ℤ y) r → Evaluates (operate difference a b) r
    product_is : {a b : Number} {x y : ℤ} {r : Value ℤ} → Evaluates a (ok x) → Evaluates b (ok y) → Results (x *ℤ y) r → Evaluates (operate product a b) r
    negation-is : {a : Number} {x : ℤ} {r : Value ℤ} → Evaluates a (ok x) → Results (neg_ℤ x) r → Evaluates (negation a) r
    -- "Both operands are always evaluated; a fault in either is a fault."; "the left operand's fault coming first"
    left-faults : {o : Operation} {a b : Number} {s : Side} {r : Value ℤ} → Evaluates a (fault s) → Evaluates b r → Evaluates (operate o a b) (fault s)
    right-faults : {o : Operation} {a b : Number} {x : ℤ} {s : Side} → Evaluates a (ok x) → Evaluates b (fault s) → Evaluates (operate o a b) (fault s)
    -- of one operand: its side
    operand-faults : {a : Number} {s : Side} → Evaluates a (fault s) → Evaluates (negation a) (fault s)

  -- "20 ≤, 21 <, 22 =, 23 ≠ (two numbers each), 28 and, 29 or (two truths), 2A not, 2F true"
  pub data Holds : Truth → Value Bool → Type 0 where
    at-most-is : {a b : Number} {x y : ℤ} → Evaluates a (ok x) → Evaluates b (ok y) → Holds (compare at_most a b) (ok (le_z x y))
    less-is : {a b : Number} {x y : ℤ} → Evaluates a (ok x) → Evaluates b (ok y) → Holds (compare less a b) (ok (lt_z x y))
    equal_is : {a b : Number} {x y : ℤ} → Evaluates a (ok x) → Evaluates b (ok y) → x ≡ y → Holds (compare equal a b) (ok true)
    equal-not : {a b : Number} {x y : ℤ} → Evaluates a (ok x) → Evaluates b (ok y) → (x ≡ y → ⊥) → Holds (compare equal a b) (ok false)
    unequal-is : {a b : Number} {x y : ℤ} → Evaluates a (ok x) → Evaluates b (ok y) → (x ≡ y → ⊥) → Holds (compare unequal a b) (ok true)
    unequal-not : {a b : Number} {x y : ℤ} → Evaluates a (ok x) → Evaluates b (ok y) → x ≡ y → Holds (compare unequal a b) (ok false)
    and_is : {a b : Truth} {x y : Bool} → Holds a (ok x) → Holds b (ok y) → Holds (connect both a b) (ok (x && y))
    or_is : {a b : Truth} {x y : Bool} → Holds a (ok x) → Holds b (ok y) → Holds (connect either a b) (ok (x || y))
    not_is : {a : Truth} {x : Bool} → Holds a (ok x) → Holds (opposite a) (ok (not x))
    true-is : Holds always (ok true)
    -- "Both operands are always evaluated; a fault in either is a fault."; "the left operand's fault coming first"
    left-number-faults : {c : Comparison} {a b : Number} {s : Side} {r : Value ℤ} → Evaluates a (fault s) → Evaluates b r → Holds (compare c a b) (fault s)
    right-number-faults : {c : Comparison} {a b : Number} {x : ℤ} {s : Side} → Evaluates a (ok x) → Evaluates b (fault s) → Holds (compare c a b) (fault s)
    left-truth-faults : {c : Connective} {a b : Truth} {s : Side} {r : Value Bool} → Holds a (fault s) → Holds b r → Holds (connect c a b) (fault s)
    right-truth-faults : {c : Connective} {a b : Truth} {x : Bool} {s : Side} → Holds a (ok x) → Holds b (fault s) → Holds (connect c a b) (fault s)
    -- of one operand: its side
    truth-faults : {a : Truth} {s : Side} → Holds a (fault s) → Holds (opposite a) (fault s)

-- ---- from bytes
-- what the bytes of a number, and of a truth, come to over these values. What 12 turns away is in no accepted schedule or table; so that every list of bytes
-- comes to something, it faults above.
module _ (ed : Edition) (vs : List ℤ) (s : List ℕ) where
  pub data NumberComesTo : Value ℤ → Type 0 where
    number-comes : {e : Number} {r : Value ℤ} → number_in ed (length vs) s ≡ some e → Evaluates vs e r → NumberComesTo r
    no_number : number_in ed (length vs) s ≡ none → NumberComesTo (fault above)

  pub data TruthComesTo : Value Bool → Type 0 where
    truth-comes : {t : Truth} {r : Value Bool} → truth_in ed (length vs) s ≡ some t → Holds vs t r → TruthComesTo r
    no_truth : truth_in ed (length vs) s ≡ none → TruthComesTo (fault above)
