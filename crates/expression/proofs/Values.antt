-- The answers in terms of document 01's values and of condition 12.
use mathlib.Core.Path.{◌≡◌, refl, sym, ap, ◌∙◌}
use mathlib.Core.Bool.{Bool, true}
use mathlib.Core.List.{List}
use mathlib.Core.Option.{Option, none, some}
use Prim.Native.Nat.{ℕ}
use lib.IntN.{ℤ}
use lib.ListN.{length}
use Rattle.std.specs.Prelude as answers
use Rattle.std.specs.Prelude.{Result, Ok, Err}
use Rattle.semantics.specs.Bytes.{is_some}
use Rattle.semantics.specs.Editions.{Edition}
use Rattle.semantics.specs.Expressions.{Value, ok, fault, above, below, value_of, holds, number_in, truth_in, value_of_number}
use Rattle.semantics.proofs.Facts.{none-not-some, some_is}
use Rattle.expression.specs.Answers.{answer, number_answer, truth_answer}
use Rattle.expression.specs.Evaluation.{said}
use Rattle.expression.specs.declared.Side.{Side}
use Rattle.expression.specs.declared.Side.TheVariants.{Above, Below}

-- ---- the value that an answer tells; None tells none
abbrev pub told : {A : Type 0} → Result A Side → Value A
told (Ok a) = ok a
told (Err Above) = fault above
told (Err Below) = fault below

abbrev pub all_told : {A : Type 0} → answers.Option (Result A Side) → Option (Value A)
all_told answers.None = none
all_told (answers.Some r) = some (told r)

pub told_said : {A : Type 0} (v : Value A) → told (said v) ≡ v
told_said (ok z) = refl
told_said (fault above) = refl
told_said (fault below) = refl

-- condition 12 holds of the bytes, and this is their value
pub record IsNumber (ed : Edition) (vs : List ℤ) (s : List ℕ) (v : Value ℤ) : Type 0 where
  pub reads : is_some (number_in ed (length vs) s) ≡ true
  pub value : value_of_number ed vs s ≡ v

-- ---- numbers and truths alike
module _ {E A : Type 0} (f : E → Value A) where
  -- none is told just where condition 12 turns the bytes away
  judged : (o : Option E) {r : answers.Option (Result A Side)} → r ≡ answer f o → answers.is_some r ≡ is_some o
  unfolding is_some answer
  judged none e = ap answers.is_some e
  judged (some x) e = ap answers.is_some e

  -- the value that is told is the value
  valued : (o : Option E) {r : answers.Option (Result A Side)} → r ≡ answer f o → {v : Value A} → all_told r ≡ some v → (is_some o ≡ true) × (elim o [ none ↦ fault above | some x ↦ f x ] ≡ v)
  unfolding is_some answer
  valued none e h = none-not-some (sym (ap all_told e) ∙ h)
  valued (some x) e h = (refl, some_is (ap some (sym (told_said (f x))) ∙ sym (ap all_told e) ∙ h))

  -- what is none
  turned : (o : Option E) {r : answers.Option (Result A Side)} → r ≡ answer f o → r ≡ answers.None → o ≡ none
  unfolding answer
  turned none e h = refl
  turned (some x) e h = absurd (cc)

module _ (ed : Edition) (vs : List ℤ) (s : List ℕ) where
  module _ {r : answers.Option (Result ℤ Side)} (r-is : r ≡ number_answer vs (number_in ed (length vs) s)) where
    pub number-valued : {v : Value ℤ} → all_told r ≡ some v → IsNumber ed vs s v
    unfolding value_of_number
    number-valued h = let q = valued (value_of vs) (number_in ed (length vs) s) r-is h in record { reads = q.0; value = q.1 }

    pub number-malformed : r ≡ answers.None → number_in ed (length vs) s ≡ none
    number-malformed h = turned (value_of vs) (number_in ed (length vs) s) r-is h

    -- the test of condition 12, where so many variables are declared
    pub number-decides : {n : ℕ} → length vs ≡ n → {b : Bool} → b ≡ answers.is_some r → b ≡ is_some (number_in ed n s)
    number-decides e h = h ∙ judged (value_of vs) (number_in ed (length vs) s) r-is ∙ ap (λ n. is_some (number_in ed n s)) e

  module _ {r : answers.Option (Result Bool Side)} (r-is : r ≡ truth_answer vs (truth_in ed (length vs) s)) where
    pub truth-decides : {n : ℕ} → length vs ≡ n → {b : Bool} → b ≡ answers.is_some r → b ≡ is_some (truth_in ed n s)
    truth-decides e h = h ∙ judged (holds vs) (truth_in ed (length vs) s) r-is ∙ ap (λ n. is_some (truth_in ed n s)) e
