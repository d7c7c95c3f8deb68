-- The executable evaluation is the form-by-form relation.
use mathlib.Core.Path.{◌≡◌, refl, sym, ap, subst, ◌∙◌}
use mathlib.Core.Bool.{Bool, true, false, not, cond}
use mathlib.Core.List.{List}
use mathlib.Core.Logic.{◌↔◌}
use borrow.Author.Tests.{eqb-true, eq-eqb}
use lib.ListN.{length}
use lib.IntN.{ℤ, pos, negsuc, neg_ℤ}
use lib.Signed.{le_z, lt_z}
use Rattle.semantics.specs.Expressions.{Operation, sum, difference, product, Comparison, at_most, less, equal, unequal, Connective, both, either, Number, operate, negation, Truth, compare, connect, opposite, Side, above, below, Value, ok, fault, ranged, result, then_value, operands, applied, eq_z, compared, connected, value_of, holds}
use Rattle.semantics.specs.Proper.{NamesKnown, known_constant, known_variable, known_operands, known_negation, TruthNamesKnown, known_numbers, known_truths, known_opposite, known_always}
use Rattle.semantics.specs.Evaluating.{Results, inside, too_high, too_low, Evaluates, constant-is, variable-is, sum_is, difference-is, product_is, negation-is, left-faults, right-faults, operand-faults}
use Rattle.semantics.specs.Evaluating.{Holds, at-most-is, less-is, equal_is, equal-not, unequal-is, unequal-not, and_is, or_is, not_is, true-is, left-number-faults, right-number-faults, left-truth-faults, right-truth-faults, truth-faults}
use Rattle.semantics.proofs.Facts.{by_cases, true-not-false, at-exists, got, lt_z-le_z}

-- ---- results
abbrev low : ℤ
low = negsuc 2147483647

abbrev high : ℤ
high = pos 2147483647

-- a test that fails is its opposite
other_way : (a b : ℤ) → lt_z a b ≡ false → le_z b a ≡ true
other_way a b h = go (le_z b a) (sym (lt_z-le_z a b) ∙ h)
  where
    go : (t : Bool) → not t ≡ false → t ≡ true
    go true e = refl
    go false e = true-not-false e

pub results : (z : ℤ) → Results z (result z)
unfolding result ranged
results z = go (lt_z z low) (lt_z high z) refl refl
  where
    go : (s t : Bool) → lt_z z low ≡ s → lt_z high z ≡ t → Results z (cond s (fault below) (cond t (fault above) (ok z)))
    go true t e f = too_low e
    go false true e f = too_high f
    go false false e f = inside (other_way z low e) (other_way high z f)

no_less : (a b : ℤ) → le_z b a ≡ true → lt_z a b ≡ false
no_less a b h = lt_z-le_z a b ∙ ap not h

-- nothing is above and below
high-not-low : (z : ℤ) → lt_z high z ≡ true → lt_z z low ≡ false
high-not-low (pos n) h = refl
high-not-low (negsuc n) h = true-not-false (sym h)

result-one : {z : ℤ} {r : Value ℤ} → Results z r → result z ≡ r
unfolding result ranged
result-one {z} (inside h k) = rw (no_less z low h, no_less high z k) refl
result-one {z} (too_high h) = rw (high-not-low z h, h) refl
result-one {z} (too_low h) = rw h refl

-- ---- equality of numbers
same_number : (a b : ℤ) → eq_z a b ≡ true → a ≡ b
unfolding eq_z
same_number (pos a) (pos b) h = ap pos (eqb-true a b h)
same_number (pos a) (negsuc b) h = true-not-false (sym h)
same_number (negsuc a) (pos b) h = true-not-false (sym h)
same_number (negsuc a) (negsuc b) h = ap negsuc (eqb-true a b h)

equal-itself : (a : ℤ) → eq_z a a ≡ true
unfolding eq_z
equal-itself (pos a) = eq-eqb a a refl
equal-itself (negsuc a) = eq-eqb a a refl

equal-true : {a b : ℤ} → a ≡ b → eq_z a b ≡ true
equal-true {a} e = ap (eq_z a) (sym e) ∙ equal-itself a

equal-false : {a b : ℤ} → (a ≡ b → ⊥) → eq_z a b ≡ false
equal-false {a} {b} h = by_cases (eq_z a b) (λ e. absurd (h (same_number a b e))) (λ e. e)

different : {a b : ℤ} → eq_z a b ≡ false → a ≡ b → ⊥
different h e = true-not-false (sym (equal-true e) ∙ h)

-- ---- what the definitions give is derived
module _ (vs : List ℤ) where
  pub operated : (o : Operation) {a b : Number} (x y : Value ℤ) → Evaluates vs a x → Evaluates vs b y → Evaluates vs (operate o a b) (then_value (operands (applied o) x y) result)
  unfolding then_value operands applied
  operated sum (ok x) (ok y) p q = sum_is p q (results _)
  operated difference (ok x) (ok y) p q = difference-is p q (results _)
  operated product (ok x) (ok y) p q = product_is p q (results _)
  operated o (ok x) (fault s) p q = right-faults p q
  operated o (fault s) (ok y) p q = left-faults p q
  operated o (fault s) (fault t) p q = left-faults p q

  pub negated : {a : Number} (x : Value ℤ) → Evaluates vs a x → Evaluates vs (negation a) (then_value x (λ z. result (neg_ℤ z)))
  unfolding then_value
  negated (ok x) p = negation-is p (results _)
  negated (fault s) p = operand-faults p

  pub evaluated : {e : Number} → NamesKnown (length vs) e → Evaluates vs e (value_of vs e)
  unfolding value_of
  evaluated (known_constant {z = z} h) = constant-is (results z)
  evaluated (known_variable {v = v} h) = let q = at-exists vs v h in variable-is q.1 (subst (λ x. Results q.0 (result x)) (sym (got vs v (pos 0) q.1)) (results q.0))
  evaluated (known_operands {o = o} h k) = operated o _ _ (evaluated h) (evaluated k)
  evaluated (known_negation h) = negated _ (evaluated h)

  same? : {a b : Number} (x y : ℤ) → Evaluates vs a (ok x) → Evaluates vs b (ok y) → Holds vs (compare equal a b) (ok (eq_z x y))
  same? {a} {b} x y p q = go (eq_z x y) refl
    where
      go : (t : Bool) → eq_z x y ≡ t → Holds vs (compare equal a b) (ok t)
      go true e = equal_is p q (same_number x y e)
      go false e = equal-not p q (different e)

  different? : {a b : Number} (x y : ℤ) → Evaluates vs a (ok x) → Evaluates vs b (ok y) → Holds vs (compare unequal a b) (ok (not (eq_z x y)))
  different? {a} {b} x y p q = go (eq_z x y) refl
    where
      go : (t : Bool) → eq_z x y ≡ t → Holds vs (compare unequal a b) (ok (not t))
      go true e = unequal-not p q (same_number x y e)
      go false e = unequal-is p q (different e)

  pub comparison : (c : Comparison) {a b : Number} (x y : Value ℤ) → Evaluates vs a x → Evaluates vs b y → Holds vs (compare c a b) (operands (compared c) x y)
  unfolding operands compared
  comparison at_most (ok x) (ok y) p q = at-most-is p q
  comparison less (ok x) (ok y) p q = less-is p q
  comparison equal (ok x) (ok y) p q = same? x y p q
  comparison unequal (ok x) (ok y) p q = different? x y p q
  comparison c (ok x) (fault s) p q = right-number-faults p q
  comparison c (fault s) (ok y) p q = left-number-faults p q
  comparison c (fault s) (fault t) p q = left-number-faults p q

  pub connection : (c : Connective) {a b : Truth} (x y : Value Bool) → Holds vs a x → Holds vs b y → Holds vs (connect c a b) (operands (connected c) x y)
  unfolding operands connected
  connection both (ok x) (ok y) p q = and_is p q
  connection either (ok x) (ok y) p q = or_is p q
  connection c (ok x) (fault s) p q = right-truth-faults p q
  connection c (fault s) (ok y) p q = left-truth-faults p q
  connection c (fault s) (fault t) p q = left-truth-faults p q

  pub contrary : {a : Truth} (x : Value Bool) → Holds vs a x → Holds vs (opposite a) (then_value x (λ b. ok (not b)))
  unfolding then_value
  contrary (ok x) p = not_is p
  contrary (fault s) p = truth-faults p

  held : {e : Truth} → TruthNamesKnown (length vs) e → Holds vs e (holds vs e)
  unfolding holds
  held (known_numbers {c = c} h k) = comparison c _ _ (evaluated h) (evaluated k)
  held (known_truths {c = c} h k) = connection c _ _ (held h) (held k)
  held (known_opposite h) = contrary _ (held h)
  held known_always = true-is

  -- ---- and nothing else is
  faults-left : {A B C : Type 0} (f : A → B → C) {s : Side} (y : Value B) → operands f (fault s) y ≡ fault s
  unfolding operands
  faults-left f (ok y) = refl
  faults-left f (fault t) = refl

  pub evaluates-one : {e : Number} {r : Value ℤ} → Evaluates vs e r → value_of vs e ≡ r
  unfolding value_of then_value operands applied
  evaluates-one (constant-is k) = result-one k
  evaluates-one (variable-is {v = v} e k) = ap result (got vs v (pos 0) e) ∙ result-one k
  evaluates-one (sum_is p q k) = rw (evaluates-one p, evaluates-one q) (result-one k)
  evaluates-one (difference-is p q k) = rw (evaluates-one p, evaluates-one q) (result-one k)
  evaluates-one (product_is p q k) = rw (evaluates-one p, evaluates-one q) (result-one k)
  evaluates-one (negation-is p k) = rw (evaluates-one p) (result-one k)
  evaluates-one (left-faults {o = o} {r = r} p q) = rw (evaluates-one p, evaluates-one q) (ap (λ v. then_value v result) (faults-left (applied o) r))
  evaluates-one (right-faults p q) = rw (evaluates-one p, evaluates-one q) refl
  evaluates-one (operand-faults p) = rw (evaluates-one p) refl

  pub holds-one : {e : Truth} {r : Value Bool} → Holds vs e r → holds vs e ≡ r
  unfolding holds then_value operands compared connected
  holds-one (at-most-is p q) = rw (evaluates-one p, evaluates-one q) refl
  holds-one (less-is p q) = rw (evaluates-one p, evaluates-one q) refl
  holds-one (equal_is p q e) = rw (evaluates-one p, evaluates-one q, equal-true e) refl
  holds-one (equal-not p q e) = rw (evaluates-one p, evaluates-one q, equal-false e) refl
  holds-one (unequal-is p q e) = rw (evaluates-one p, evaluates-one q, equal-false e) refl
  holds-one (unequal-not p q e) = rw (evaluates-one p, evaluates-one q, equal-true e) refl
  holds-one (and_is p q) = rw (holds-one p, holds-one q) refl
  holds-one (or_is p q) = rw (holds-one p, holds-one q) refl
  holds-one (not_is p) = rw (holds-one p) refl
  holds-one true-is = refl
  holds-one (left-number-faults {c = c} {r = r} p q) = rw (evaluates-one p, evaluates-one q) (faults-left (compared c) r)
  holds-one (right-number-faults p q) = rw (evaluates-one p, evaluates-one q) refl
  holds-one (left-truth-faults {c = c} {r = r} p q) = rw (holds-one p, holds-one q) (faults-left (connected c) r)
  holds-one (right-truth-faults p q) = rw (holds-one p, holds-one q) refl
  holds-one (truth-faults p) = rw (holds-one p) refl

-- ---- both ways
pub evaluates-number : (vs : List ℤ) (e : Number) → NamesKnown (length vs) e → (r : Value ℤ) → (value_of vs e ≡ r) ↔ Evaluates vs e r
evaluates-number vs e h r = (λ i. subst (Evaluates vs e) i (evaluated vs h), λ d. evaluates-one vs d)

pub evaluates-truth : (vs : List ℤ) (e : Truth) → TruthNamesKnown (length vs) e → (r : Value Bool) → (holds vs e ≡ r) ↔ Holds vs e r
evaluates-truth vs e h r = (λ i. subst (Holds vs e) i (held vs h), λ d. holds-one vs d)
