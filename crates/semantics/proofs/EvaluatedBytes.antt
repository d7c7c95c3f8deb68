-- The bytes of an expression come to what the form-by-form relation gives for it.
use mathlib.Core.Path.{◌≡◌}
use mathlib.Core.Bool.{Bool}
use mathlib.Core.List.{List}
use mathlib.Core.Logic.{◌↔◌}
use Prim.Native.Nat.{ℕ, ◌≤◌}
use lib.ListN.{length}
use lib.IntN.{ℤ}
use Rattle.semantics.specs.Editions.{Edition}
use Rattle.semantics.specs.Expressions.{Number, Truth, Value, number_bytes, truth_bytes, number_depth, truth_depth, value_of_number, value_of_truth}
use Rattle.semantics.specs.Proper.{NamesKnown, TruthNamesKnown}
use Rattle.semantics.specs.Writing.{AllBytes}
use Rattle.semantics.specs.Evaluating.{Evaluates, Holds}
use Rattle.semantics.proofs.Evaluated.{evaluates-number, evaluates-truth}
use Rattle.semantics.proofs.ProperForms.{number-written, truth-written}

module _ (ed : Edition) (vs : List ℤ) (s : List ℕ) (z : AllBytes s) where
  pub evaluates-number-bytes : (e : Number) → number_bytes ed e ≡ s → number_depth e ≤ 16 → NamesKnown (length vs) e → (r : Value ℤ) → (value_of_number ed vs s ≡ r) ↔ Evaluates vs e r
  unfolding value_of_number
  evaluates-number-bytes e w d h r = rw ((number-written ed (length vs) s e z).1 (w, d, h), value_of_number) (evaluates-number vs e h r)

  pub evaluates-truth-bytes : (e : Truth) → truth_bytes ed e ≡ s → truth_depth e ≤ 16 → TruthNamesKnown (length vs) e → (r : Value Bool) → (value_of_truth ed vs s ≡ r) ↔ Holds vs e r
  unfolding value_of_truth
  evaluates-truth-bytes e w d h r = rw ((truth-written ed (length vs) s e z).1 (w, d, h), value_of_truth) (evaluates-truth vs e h r)
