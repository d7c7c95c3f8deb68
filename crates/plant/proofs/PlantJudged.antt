-- Both sections judged in order, from the answers about each: what the code that asks for them returns.
use mathlib.Core.Path.{◌≡◌, refl, sym, ap, ◌∙◌}
use mathlib.Core.Bool.{Bool, true, false}
use mathlib.Core.List.{List, []}
use mathlib.Core.Option.{some}
use Prim.Native.Nat.{ℕ, ◌≤◌}
use Rattle.semantics.specs.Editions.{Edition}
use Rattle.semantics.specs.Refusals.{Judged, refused, accepted, ensure, ◌>>=◌, ◌>>◌}
use Rattle.semantics.specs.Sections.{Variable, Equation, equations_in}
use Rattle.semantics.specs.Plant.{selectors, driven_once, judge_plant, judge_equations, judge_variables}
use Rattle.semantics.proofs.Judging.{accepted-is, refused-is, refused-not-accepted, passed-ensure, go-then, go-ensure}
use Rattle.semantics.proofs.PlantPassed.{equations-passed}
use Rattle.paper.specs.Refusals.{answered}
use Rattle.paper.proofs.Answered.{Accepted, was-refused, was-accepted, accepts-with, stops-then}
use Rattle.plant.specs.Variables.{accepted_variables}
use Rattle.plant.specs.Equations.{accepted_equations}
use Rattle.plant.specs.Driven.{Named, driven_marks, judge_driven}
use Rattle.plant.specs.PlantRead.{accepted_plant}
use Rattle.plant.specs.declared.sections.PlantRead.{PlantRead}
use Rattle.plant.specs.declared.variables.Variables.{Variables}
use Rattle.plant.specs.declared.equations.Equations.{Equations}
use Rattle.plant.proofs.VariableLaws.{count_of}

-- the fields of the answers
abbrev pub gathered : Variables → Equations → List Bool → PlantRead
gathered v e marks = record {
  variables = v.count;
  lows = v.lows;
  highs = v.highs;
  selectors = e.selectors;
  modes = e.modes;
  mode_offsets = e.mode_offsets;
  steady = e.steady;
  driven = marks;
}

fields : {v : Variables} {e : Equations} {marks : List Bool} (xs : List Variable) (qs : List Equation) → v ≡ accepted_variables xs → e ≡ accepted_equations qs → marks ≡ driven_marks qs →
    gathered v e marks ≡ accepted_plant (record { variables = xs; equations = qs })
unfolding accepted_variables accepted_equations accepted_plant selectors
fields xs qs h k m = rw (h, k, m) refl

-- equations that 6 and 7 let pass
pub named : (es : List ℕ) {n : ℕ} {e : Equations} → n ≤ 32 → accepted e ≡ answered accepted_equations (judge_equations n es) → Named es
named es {n} few k =
    let t = was-accepted accepted_equations (judge_equations n es) k in
    record { variables = n; few = few; equations = t.value; judged = t.judged }

-- a test that refuses does so whatever follows it
same-refusal : {A B : Type 0} (a : A) (k : Judged B) (t : Bool) {n : ℕ} → (ensure 8 t >> accepted a) ≡ refused n → (ensure 8 t >> k) ≡ refused n
unfolding ensure ◌>>◌
same-refusal a k true h = refused-not-accepted (sym h)
same-refusal a k false h = ap (λ m. refused m) (refused-is h)

-- ---- the code's returns
module _ (ed : Edition) (vs es : List ℕ) where
  pub by-variables : {n : ℕ} → refused n ≡ answered accepted_variables (judge_variables ed vs) → judge_plant ed vs es ≡ refused n
  unfolding judge_plant
  by-variables h = stops-then _ (was-refused accepted_variables (judge_variables ed vs) h)

  module _ {v : Variables} (h : accepted v ≡ answered accepted_variables (judge_variables ed vs)) where
    xs : Accepted accepted_variables (judge_variables ed vs) v
    xs = was-accepted accepted_variables (judge_variables ed vs) h

    after-5 : judge_plant ed vs es ≡ (judge_equations v.count es >>= (λ qs. ensure 8 (driven_once [] qs) >> accepted (record { variables = xs.value; equations = qs })))
    unfolding judge_plant
    after-5 = go-then _ xs.judged ∙ ap (λ n. judge_equations n es >>= (λ qs. ensure 8 (driven_once [] qs) >> accepted (record { variables = xs.value; equations = qs }))) (sym (count_of xs.value xs.is))

    pub by-equations : {n : ℕ} → refused n ≡ answered accepted_equations (judge_equations v.count es) → judge_plant ed vs es ≡ refused n
    by-equations k = after-5 ∙ stops-then _ (was-refused accepted_equations (judge_equations v.count es) k)

    module _ {e : Equations} (k : accepted e ≡ answered accepted_equations (judge_equations v.count es)) where
      qs : Accepted accepted_equations (judge_equations v.count es) e
      qs = was-accepted accepted_equations (judge_equations v.count es) k

      read-as : equations_in es ≡ some qs.value
      read-as = (equations-passed v.count es qs.judged).is

      after-7 : judge_plant ed vs es ≡ (ensure 8 (driven_once [] qs.value) >> accepted (record { variables = xs.value; equations = qs.value }))
      after-7 = after-5 ∙ go-then _ qs.judged

      pub by_8 : {n : ℕ} → ((qs : List Equation) → equations_in es ≡ some qs → refused n ≡ answered driven_marks (judge_driven qs)) → judge_plant ed vs es ≡ refused n
      unfolding judge_driven
      by_8 f = after-7 ∙ same-refusal qs.value _ (driven_once [] qs.value) (was-refused driven_marks (judge_driven qs.value) (f qs.value read-as))

      pub passed : {marks : List Bool} → ((qs : List Equation) → equations_in es ≡ some qs → accepted marks ≡ answered driven_marks (judge_driven qs)) → accepted (gathered v e marks) ≡ answered accepted_plant (judge_plant ed vs es)
      unfolding judge_driven
      passed f =
          let m = was-accepted driven_marks (judge_driven qs.value) (f qs.value read-as) in
          let t = passed-ensure 8 (driven_once [] qs.value) (accepted qs.value) m.judged in
          accepts-with accepted_plant (after-7 ∙ go-ensure 8 _ t.0) (fields xs.value qs.value xs.is qs.is (m.is ∙ ap driven_marks (sym (accepted-is t.1))))
