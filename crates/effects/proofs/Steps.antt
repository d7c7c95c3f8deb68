-- The steps of an event: truths that are asked, ranges, and whether the event goes on.
use mathlib.Core.Path.{◌≡◌, refl, sym, ap, ◌∙◌}
use mathlib.Core.Bool.{Bool, true, false, not}
use mathlib.Core.List.{List, [], ◌∷◌, ◌++◌}
use mathlib.Core.Option.{Option, none, some}
use Prim.Native.Nat.{ℕ}
use lib.IntN.{ℤ}
use lib.ListN.{length}
use lib.Signed.{lt_z}
use Rattle.semantics.specs.Editions.{Edition}
use Rattle.semantics.specs.Expressions as Forms
use Rattle.semantics.specs.Expressions.{Value, ok, fault, above, below, ranged, holds, truth_in, value_of_truth}
use Rattle.semantics.specs.Run as Run
use Rattle.semantics.specs.Run.{away, faulty, pass, ◌>>=◌, ◌>>◌, allow, valued, walk}
use Rattle.semantics.proofs.Facts.{true-not-false}
use Rattle.std.specs.Prelude as answers
use Rattle.expression.specs.Answers.{answer, truth_answer}
use Rattle.expression.specs.Evaluation.{said}
use Rattle.expression.specs.declared.Side.{Side}
use Rattle.effects.specs.Told.{told_truth, value_taken}
use Rattle.effects.specs.Verdicts.{done_verdict, step_verdict, is_going_on, truth_verdict}
use Rattle.effects.specs.PaperNumbers.{Verdict, Away, Above, Below, Stay}

-- ---- a truth that is asked
module _ (y n : Verdict) where
  by_value : (v : Value Bool) → told_truth y n (value_taken (answers.Some (said v))) ≡ truth_verdict y n v
  unfolding truth_verdict
  by_value (ok true) = refl
  by_value (ok false) = refl
  by_value (fault above) = refl
  by_value (fault below) = refl

  pub asked : (ed : Edition) (vs : List ℤ) (s : List ℕ) {r : answers.Option (answers.Result Bool Side)} → r ≡ truth_answer vs (truth_in ed (length vs) s) → told_truth y n (value_taken r) ≡ truth_verdict y n (value_of_truth ed vs s)
  unfolding value_of_truth answer truth_verdict
  asked ed vs s e = ap (λ r. told_truth y n (value_taken r)) e ∙ go (truth_in ed (length vs) s)
    where
      go : (o : Option Forms.Truth) → told_truth y n (value_taken (truth_answer vs o)) ≡ truth_verdict y n (elim o [ none ↦ fault above | some x ↦ holds vs x ])
      go none = refl
      go (some x) = by_value (holds vs x)

-- ---- a range
module _ (low high z : ℤ) where
  pub below-it : lt_z z low ≡ true → Below ≡ step_verdict (valued (ranged low high z))
  unfolding ranged valued done_verdict
  below-it e = rw e refl

  pub above-it : lt_z z low ≡ false → lt_z high z ≡ true → Above ≡ step_verdict (valued (ranged low high z))
  unfolding ranged valued done_verdict
  above-it e f = rw (e, f) refl

  pub inside-it : lt_z z low ≡ false → lt_z high z ≡ false → Stay ≡ step_verdict (valued (ranged low high z))
  unfolding ranged valued done_verdict
  inside-it e f = rw (e, f) refl

-- ---- walks over truths
module _ (ed : Edition) (n : ℕ) (vs : List ℤ) where
  pub walk-out : (t : List ℕ) (ts : List (List ℕ)) (r : Verdict) → r ≡ truth_verdict (Away n) Stay (value_of_truth ed vs t) → is_going_on r ≡ false → r ≡ step_verdict (walk ed n vs (t ∷ ts))
  unfolding walk truth_verdict done_verdict is_going_on valued allow ◌>>=◌ ◌>>◌
  walk-out t ts r e h = go (value_of_truth ed vs t) e
    where
      go : (u : Value Bool) → r ≡ truth_verdict (Away n) Stay u → r ≡ step_verdict (valued u >>= (λ b. allow n (not b) >> walk ed n vs ts))
      go (ok true) e = e
      go (ok false) e = true-not-false (sym (ap is_going_on e) ∙ h)
      go (fault above) e = e
      go (fault below) e = e

  pub walk-on : (t : List ℕ) (ts : List (List ℕ)) (r : Verdict) → r ≡ truth_verdict (Away n) Stay (value_of_truth ed vs t) → is_going_on r ≡ true → walk ed n vs (t ∷ ts) ≡ walk ed n vs ts
  unfolding walk truth_verdict is_going_on valued allow ◌>>=◌ ◌>>◌
  walk-on t ts r e h = go (value_of_truth ed vs t) e
    where
      go : (u : Value Bool) → r ≡ truth_verdict (Away n) Stay u → (valued u >>= (λ b. allow n (not b) >> walk ed n vs ts)) ≡ walk ed n vs ts
      go (ok true) e = true-not-false (sym h ∙ ap is_going_on e)
      go (ok false) e = refl
      go (fault above) e = true-not-false (sym h ∙ ap is_going_on e)
      go (fault below) e = true-not-false (sym h ∙ ap is_going_on e)

  -- the truths of one list, then those of another
  pub walk-then : (a b : List (List ℕ)) → walk ed n vs (a ++ b) ≡ (walk ed n vs a >> walk ed n vs b)
  unfolding walk ◌>>◌ ◌>>=◌ valued allow
  walk-then [] b = refl
  walk-then (t ∷ ts) b = go (value_of_truth ed vs t) (walk-then ts b)
    where
      go : (u : Value Bool) → walk ed n vs (ts ++ b) ≡ (walk ed n vs ts >> walk ed n vs b)
          → (valued u >>= (λ c. allow n (not c) >> walk ed n vs (ts ++ b))) ≡ ((valued u >>= (λ c. allow n (not c) >> walk ed n vs ts)) >> walk ed n vs b)
      go (ok true) e = refl
      go (ok false) e = e
      go (fault s) e = refl

-- ---- a step that ends the event, and one after which it goes on
module _ {A B : Type 0} (u : Run.Verdict A) (w : Run.Verdict B) (r : Verdict) (e : r ≡ step_verdict u) where
  pub then-out : is_going_on r ≡ false → r ≡ step_verdict (u >> w)
  unfolding done_verdict is_going_on ◌>>◌
  then-out h = go u e
    where
      go : (u : Run.Verdict A) → r ≡ step_verdict u → r ≡ step_verdict (u >> w)
      go (away n) e = e
      go (faulty above) e = e
      go (faulty below) e = e
      go (pass a) e = true-not-false (sym (ap is_going_on e) ∙ h)

  pub then-on : is_going_on r ≡ true → (u >> w) ≡ w
  unfolding done_verdict is_going_on ◌>>◌
  then-on h = go u e
    where
      go : (u : Run.Verdict A) → r ≡ step_verdict u → (u >> w) ≡ w
      go (away n) e = true-not-false (sym h ∙ ap is_going_on e)
      go (faulty above) e = true-not-false (sym h ∙ ap is_going_on e)
      go (faulty below) e = true-not-false (sym h ∙ ap is_going_on e)
      go (pass a) e = refl
