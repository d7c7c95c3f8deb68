-- The form of a byte, and its code in the papers.
use mathlib.Core.Path.{◌≡◌, refl, sym, ap, ◌∙◌, subst}
use Prim.Native.Nat.{ℕ, ◌≤◌}
use native.Mathlib.Omega.{arith}
use mathlib.Core.Option.{some}
use borrow.Author.Tests.{ne_eqb}
use Rattle.semantics.specs.Expressions.{unknown, form_of, operation_code, comparison_code, connective_code}
use Rattle.semantics.proofs.ExpressionBytes.{Stands, form-stands}
use Rattle.semantics.proofs.Facts.{none-not-some, some_is}
use Rattle.expression.specs.Forms.{form_is, FormSays}
use Rattle.expression.specs.PaperNumbers.{paper_form, paper_operation, paper_comparison, paper_connective}
use Rattle.expression.specs.declared.Operation.TheVariants.{Sum, Difference, Product}
use Rattle.expression.specs.declared.Comparison.TheVariants.{AtMost, Less, Equal, Unequal}
use Rattle.expression.specs.declared.Connective.TheVariants.{Both, Either}
use Rattle.expression.specs.declared.Operation.{Operation as Operations}
use Rattle.expression.specs.declared.Comparison.{Comparison as Comparisons}
use Rattle.expression.specs.declared.Connective.{Connective as Connectives}
use Rattle.expression.proofs.Steps.{NoNumber, number_comparison, number_connective, number_opposite, number_true, number_unknown, NoTruth, truth_constant, truth_variable, truth_operation, truth_negation, truth_unknown}
use Rattle.expression.specs.declared.Form.{Form}
use Rattle.expression.specs.declared.Form.TheVariants.{Constant, Variable, Operation, Negation, Comparison, Connective, Opposite, True, Unknown}

-- a form's code is the byte that it is the form of
coded : {c : ℕ} (r : Form) → Stands c (form_is r) → (n : ℕ) → paper_form r ≡ some n → n ≡ c
unfolding paper_form paper_operation paper_comparison paper_connective operation_code comparison_code connective_code
coded Constant e n h = sym (e ∙ some_is h)
coded Variable e n h = sym (e ∙ some_is h)
coded (Operation Sum) e n h = sym (e ∙ some_is h)
coded (Operation Difference) e n h = sym (e ∙ some_is h)
coded (Operation Product) e n h = sym (e ∙ some_is h)
coded Negation e n h = sym (e ∙ some_is h)
coded (Comparison AtMost) e n h = sym (e ∙ some_is h)
coded (Comparison Less) e n h = sym (e ∙ some_is h)
coded (Comparison Equal) e n h = sym (e ∙ some_is h)
coded (Comparison Unequal) e n h = sym (e ∙ some_is h)
coded (Connective Both) e n h = sym (e ∙ some_is h)
coded (Connective Either) e n h = sym (e ∙ some_is h)
coded Opposite e n h = sym (e ∙ some_is h)
coded True e n h = sym (e ∙ some_is h)
coded Unknown e n h = none-not-some h

pub form-says : {c : ℕ} {r : Form} → form_is r ≡ form_of c → FormSays c r
form-says {c} {r} e = record { is = e; number = coded r (subst (Stands c) (sym e) (form-stands c)) }

pub form-told : {c : ℕ} {r q : Form} → FormSays c r → r ≡ q → form_of c ≡ form_is q
form-told f e = sym f.is ∙ ap form_is e

-- a byte that is no code
pub form-unknown : (c : ℕ) → (c ≡ 0x01 → ⊥) → (c ≡ 0x02 → ⊥) → (c ≡ 0x10 → ⊥) → (c ≡ 0x11 → ⊥) → (c ≡ 0x12 → ⊥) → (c ≡ 0x14 → ⊥) →
    (c ≡ 0x20 → ⊥) → (c ≡ 0x21 → ⊥) → (c ≡ 0x22 → ⊥) → (c ≡ 0x23 → ⊥) → (c ≡ 0x28 → ⊥) → (c ≡ 0x29 → ⊥) → (c ≡ 0x2a → ⊥) → (c ≡ 0x2f → ⊥) → form_of c ≡ unknown
unfolding form_of
form-unknown c n01 n02 n10 n11 n12 n14 n20 n21 n22 n23 n28 n29 n2a n2f =
    rw (
      ne_eqb c 0x01 n01,
      ne_eqb c 0x02 n02,
      ne_eqb c 0x10 n10,
      ne_eqb c 0x11 n11,
      ne_eqb c 0x12 n12,
      ne_eqb c 0x14 n14,
      ne_eqb c 0x20 n20,
      ne_eqb c 0x21 n21,
      ne_eqb c 0x22 n22,
      ne_eqb c 0x23 n23,
      ne_eqb c 0x28 n28,
      ne_eqb c 0x29 n29,
      ne_eqb c 0x2a n2a,
      ne_eqb c 0x2f n2f,
    ) refl

-- the same of a byte of a range, and of one that lies in none
module _ {c : ℕ} where
  pub no_number : 0x10 ≤ c → c ≤ 0x14 → (c ≡ 0x10 → ⊥) → (c ≡ 0x11 → ⊥) → (c ≡ 0x12 → ⊥) → (c ≡ 0x14 → ⊥) → form_of c ≡ unknown
  no_number h k n10 n11 n12 n14 = form-unknown c (λ e. omega arith) (λ e. omega arith) n10 n11 n12 n14 (λ e. omega arith) (λ e. omega arith) (λ e. omega arith) (λ e. omega arith) (λ e. omega arith) (λ e. omega arith) (λ e. omega arith) (λ e. omega arith)

  pub no_truth : 0x20 ≤ c → c ≤ 0x2f → (c ≡ 0x20 → ⊥) → (c ≡ 0x21 → ⊥) → (c ≡ 0x22 → ⊥) → (c ≡ 0x23 → ⊥) → (c ≡ 0x28 → ⊥) → (c ≡ 0x29 → ⊥) → (c ≡ 0x2a → ⊥) → (c ≡ 0x2f → ⊥) → form_of c ≡ unknown
  no_truth h k = form-unknown c (λ e. omega arith) (λ e. omega arith) (λ e. omega arith) (λ e. omega arith) (λ e. omega arith) (λ e. omega arith)

  pub no-form : (c ≡ 0x01 → ⊥) → (c ≡ 0x02 → ⊥) → (0x10 ≤ c → c ≤ 0x14 → ⊥) → (0x20 ≤ c → c ≤ 0x2f → ⊥) → form_of c ≡ unknown
  no-form n01 n02 f g = form-unknown c n01 n02 (λ e. f (omega arith) (omega arith)) (λ e. f (omega arith) (omega arith)) (λ e. f (omega arith) (omega arith)) (λ e. f (omega arith) (omega arith))
      (λ e. g (omega arith) (omega arith)) (λ e. g (omega arith) (omega arith)) (λ e. g (omega arith) (omega arith)) (λ e. g (omega arith) (omega arith))
      (λ e. g (omega arith) (omega arith)) (λ e. g (omega arith) (omega arith)) (λ e. g (omega arith) (omega arith)) (λ e. g (omega arith) (omega arith))

-- ---- a form of the other sort, or none
pub no-number : (r : Form) → (r ≡ Constant → ⊥) → (r ≡ Variable → ⊥) → ((o : Operations) → r ≡ Operation o → ⊥) → (r ≡ Negation → ⊥) → NoNumber (form_is r)
no-number Constant a b f d = absurd (a refl)
no-number Variable a b f d = absurd (b refl)
no-number (Operation o) a b f d = absurd (f o refl)
no-number Negation a b f d = absurd (d refl)
no-number (Comparison o) a b f d = number_comparison
no-number (Connective o) a b f d = number_connective
no-number Opposite a b f d = number_opposite
no-number True a b f d = number_true
no-number Unknown a b f d = number_unknown

pub no-truth : (r : Form) → ((o : Comparisons) → r ≡ Comparison o → ⊥) → ((o : Connectives) → r ≡ Connective o → ⊥) → (r ≡ Opposite → ⊥) → (r ≡ True → ⊥) → NoTruth (form_is r)
no-truth Constant f g a b = truth_constant
no-truth Variable f g a b = truth_variable
no-truth (Operation o) f g a b = truth_operation
no-truth Negation f g a b = truth_negation
no-truth (Comparison o) f g a b = absurd (f o refl)
no-truth (Connective o) f g a b = absurd (g o refl)
no-truth Opposite f g a b = absurd (a refl)
no-truth True f g a b = absurd (b refl)
no-truth Unknown f g a b = truth_unknown
