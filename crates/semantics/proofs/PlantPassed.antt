-- An accepted plant: its variables and equations, and the conditions that they passed.
use mathlib.Core.Path.{◌≡◌, subst, ◌∙◌}
use mathlib.Core.Bool.{true}
use mathlib.Core.List.{List, []}
use mathlib.Core.Option.{some}
use Prim.Native.Nat.{ℕ}
use lib.ListN.{length}
use Rattle.semantics.specs.Bytes.{every}
use Rattle.semantics.specs.Editions.{Edition}
use Rattle.semantics.specs.Refusals.{accepted}
use Rattle.semantics.specs.Sections.{Variable, Equation, variables_in, equations_in}
use Rattle.semantics.specs.Plant.{Plant, ordered, equation_named, driven_once, judge_variables, judge_equations, judge_plant}
use Rattle.semantics.proofs.Judging.{accepted-is, passed-need, passed-ensure, passed_then, go-need, go-ensure, go-then}

-- ---- 4 and 5
pub record VariablesPassed (ed : Edition) (s : List ℕ) (vs : List Variable) : Type 0 where
  pub is : variables_in ed s ≡ some vs
  pub in_order : every ordered vs ≡ true

pub variables-passed : (ed : Edition) (s : List ℕ) {vs : List Variable} → judge_variables ed s ≡ accepted vs → VariablesPassed ed s vs
unfolding judge_variables
variables-passed ed s h =
    let a = passed-need 4 (variables_in ed s) _ h in
    let b = passed-ensure 5 _ _ a.2 in
    subst (VariablesPassed ed s) (accepted-is b.1) (record { is = a.1; in_order = b.0 })

pub variables-accepted : (ed : Edition) (s : List ℕ) {vs : List Variable} → VariablesPassed ed s vs → judge_variables ed s ≡ accepted vs
unfolding judge_variables
variables-accepted ed s h = go-need 4 _ h.is ∙ go-ensure 5 _ h.in_order

-- ---- 6 and 7
pub record EquationsPassed (variables : ℕ) (s : List ℕ) (es : List Equation) : Type 0 where
  pub is : equations_in s ≡ some es
  pub named : every (equation_named variables) es ≡ true

pub equations-passed : (variables : ℕ) (s : List ℕ) {es : List Equation} → judge_equations variables s ≡ accepted es → EquationsPassed variables s es
unfolding judge_equations
equations-passed variables s h =
    let a = passed-need 6 (equations_in s) _ h in
    let b = passed-ensure 7 _ _ a.2 in
    subst (EquationsPassed variables s) (accepted-is b.1) (record { is = a.1; named = b.0 })

pub equations-accepted : (variables : ℕ) (s : List ℕ) {es : List Equation} → EquationsPassed variables s es → judge_equations variables s ≡ accepted es
unfolding judge_equations
equations-accepted variables s h = go-need 6 _ h.is ∙ go-ensure 7 _ h.named

-- ---- 4 to 8
pub record PlantPassed (ed : Edition) (vs es : List ℕ) (p : Plant) : Type 0 where
  pub variables : variables_in ed vs ≡ some p.variables
  pub equations : equations_in es ≡ some p.equations
  pub in_order : every ordered p.variables ≡ true
  pub named : every (equation_named (length p.variables)) p.equations ≡ true
  pub once : driven_once [] p.equations ≡ true

module _ (ed : Edition) (vs es : List ℕ) where
  pub plant-passed : {p : Plant} → judge_plant ed vs es ≡ accepted p → PlantPassed ed vs es p
  unfolding judge_plant
  plant-passed {p} h =
      let a = passed_then (judge_variables ed vs) _ h in
      let b = passed_then (judge_equations (length a.0) es) _ a.2 in
      let c = passed-ensure 8 _ _ b.2 in
      let v = variables-passed ed vs a.1 in
      let e = equations-passed (length a.0) es b.1 in
      subst (PlantPassed ed vs es) (accepted-is c.1) (record { variables = v.is; equations = e.is; in_order = v.in_order; named = e.named; once = c.0 })

  pub plant-accepted : {p : Plant} → PlantPassed ed vs es p → judge_plant ed vs es ≡ accepted p
  unfolding judge_plant
  plant-accepted {p} h =
      go-then _ (variables-accepted ed vs (record { is = h.variables; in_order = h.in_order }))
      ∙ go-then _ (equations-accepted (length p.variables) es (record { is = h.equations; named = h.named }))
      ∙ go-ensure 8 _ h.once
